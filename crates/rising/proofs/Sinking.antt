-- One back line's way down: what it has passed is made its own, what is left is as it was.
use mathlib.Core.List.{List}
use mathlib.Core.Logic.{inl, inr}
use mathlib.Core.Path.{◌≡◌, refl, sym, ◌∙◌, ap, subst}
use Prim.Native.Nat.{ℕ, suc, ◌+◌, ◌≤◌, ◌<◌}
use native.Mathlib.Omega.{arith}
use lib.ListN.{set, length-set}
use lib.Seq.{get_or-set_same, get_or-set_other}
use Rattle.laws.specs.Lists.{at}
use Rattle.laws.proofs.Cases.{cases, eq_or, lt_or}
use Rattle.network.specs.Marks.{absent}
use Rattle.tree.specs.Tree.{Tree}
use Rattle.tree.specs.Returns.{end}
use Rattle.tree.specs.Words.{TreeLine, Above, Return}
use Rattle.tree.specs.Searched.{Searched}
use Rattle.fork.specs.declared.Forks.{Forks}
use Rattle.spans.specs.declared.Jumps.{Jumps}
use Rattle.fork.proofs.Found.{way_return, way_down}
use Rattle.rising.specs.Inside.{Sinkable, SunkTo, Sunk}

module _ {S : Tree} {b : ℕ} {heights : List ℕ} {jumps : Jumps} {forks : Forks} {bottoms : List ℕ} (s : Sinkable S b heights jumps forks bottoms) where
  X : Searched S
  X = s.finished.searched

  stop_is : at forks.stop b ≡ end S b
  stop_is = s.spans.stops b s.back_line

  module _ {bottoms' : List ℕ} {v : ℕ} (w : SunkTo S b bottoms bottoms' v) where
    sink_vertex : v < 512
    sink_vertex = omega (arith, w.inside, s.finished.few_vertices)

    height_is : at heights v ≡ S.height v
    height_is = s.each_height.each v w.inside

    -- where the way has come to, nothing was changed
    here : at bottoms' v ≡ at bottoms v
    here = w.others v w.inside (λ a h. omega arith)

    pub sink_end : at heights v ≤ at forks.stop b + 1 → Sunk S b bottoms bottoms' absent
    sink_end h = record { stop = v; way = w; why = inl (refl, omega (arith, height_is, stop_is)) }

    module _ (high : at forks.stop b + 1 < at heights v) where
      pub sink_met : {c : ℕ} → (c ≡ at bottoms' v) × (c < absent) → Sunk S b bottoms bottoms' c
      sink_met n = record { stop = v; way = w; why = inr (n.0 ∙ here, λ e. absurd (omega (arith, n.1)), omega (arith, height_is, stop_is)) }

      way : TreeLine S (S.parent v) × (S.height v ≡ suc (S.height (S.source (S.parent v)))) × Return S (S.parent v) b
      way = way_return S X b s.back_line v w.inside w.on_way (omega (arith, stop_is, height_is))

      abbrev x : ℕ
      x = at jumps.onward v

      x_is : x ≡ S.source (S.parent v)
      x_is = s.below.each v w.inside (omega (arith, way.1))

      x_in : x < S.vertices
      x_in = subst (λ (y : ℕ). y < S.vertices) (sym x_is) (X.source_in (S.parent v) way.0.0)

      height_x : S.height v ≡ suc (S.height x)
      height_x = way.1 ∙ ap (λ (y : ℕ). suc (S.height y)) (sym x_is)

      pub sink_more : at bottoms' v ≡ absent → SunkTo S b bottoms (set bottoms' v b) x
      sink_more none =
          record {
            long = length-set bottoms' v b ∙ w.long;
            inside = x_in;
            on_way = subst (λ (y : ℕ). Above S y (S.source b)) (sym x_is) (way_down S X b s.back_line v w.inside w.on_way (omega (arith, height_x)));
            over = omega (arith, height_x, height_is, stop_is);
            passed = λ u i a h.
                cases (eq_or u v)
                (λ e. (
                  ap (at bottoms) e ∙ sym here ∙ none,
                  ap (at (set bottoms' v b)) e ∙ get_or-set_same bottoms' v b 0 (omega (arith, w.long, sink_vertex)),
                ))
                (λ d.
                let q = w.passed u i a (higher u a d h) in
                (q.0, get_or-set_other bottoms' v u b 0 d ∙ q.1));
            others = λ u i n.
                cases (eq_or u v)
                (λ e.
                absurd (n (subst (λ (y : ℕ). Above S y (S.source b)) (sym e) w.on_way)
                (let q : S.height u ≡ S.height v = ap S.height e in omega (arith, height_x))))
                (λ d. get_or-set_other bottoms' v u b 0 d ∙ w.others u i (λ a h. n a (omega (arith, height_x))));
          }
        where
          -- what stands above x on the way and is not v stands above v
          higher : (u : ℕ) → Above S u (S.source b) → (u ≡ v → ⊥) → S.height x < S.height u → S.height v < S.height u
          higher u a d h =
              cases (lt_or (S.height v) (S.height u))
              (λ k. k)
              (λ k. absurd (d (X.above_level u v (S.source b) a w.on_way (omega (arith, height_x)))))
