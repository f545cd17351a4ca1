-- The low of each tree line, filled in vertex by vertex: where its bottom ends, or where it has none, the height of the vertex that it leaves.
use mathlib.Core.Bool.{false}
use mathlib.Core.List.{List}
use mathlib.Core.Logic.{◌⊎◌, inl, inr, ◌≢◌}
use mathlib.Core.Path.{◌≡◌, sym, ◌∙◌, ap, subst}
use Prim.Native.Nat.{ℕ, ◌+◌, ◌-◌, ◌≤◌, ◌<◌}
use native.Mathlib.Omega.{arith}
use lib.ListN.{set, length-set}
use lib.Seq.{get_or-set_same, get_or-set_other}
use Rattle.laws.specs.Lists.{at}
use Rattle.laws.proofs.Cases.{cases, bool, eq_or, true_false}
use Rattle.network.specs.Marks.{absent}
use Rattle.tree.specs.Tree.{Tree}
use Rattle.tree.specs.Returns.{end, low}
use Rattle.tree.specs.Words.{TreeLine, BackLine, Return}
use Rattle.tree.specs.Searched.{Searched}
use Rattle.tree.proofs.Returns.{low_cases}
use Rattle.fork.specs.Ends.{bottom}
use Rattle.fork.proofs.Ends.{bottom_is}
use Rattle.fork.proofs.Links.{low_back}
use Rattle.fork.specs.Inside.{Spans}
use Rattle.spans.specs.Inside.{Unlowed, Untopped}
use Rattle.rising.proofs.Passing.{line_up}
use Rattle.fork.specs.declared.Forks.{Forks}
use Rattle.lows.specs.Inside.{Bottomed, Plumbed}

-- the tree lines up to the vertices before v have theirs
pub record Plumbing (S : Tree) (v : ℕ) (forks : Forks) : Type 0 where
  pub upto : v ≤ S.vertices
  pub spans : Spans S forks
  pub unlowed : Unlowed S forks
  pub untopped : Untopped S forks
  pub each : (u : ℕ) → u < v → 0 < S.height u → at forks.low (S.parent u) ≡ low S (S.parent u)

module _ {S : Tree} {vertices : ℕ} {heights parents bottoms : List ℕ} {forks₀ : Forks} (s : Bottomed S vertices heights parents bottoms forks₀) where
  X : Searched S
  X = s.finished.searched

  module _ {v : ℕ} {forks : Forks} (w : Plumbing S v forks) where
    pub plumbing_done : vertices ≤ v → Plumbed S forks
    plumbing_done h =
        record {
          spans = w.spans;
          lows = record {
            each = λ k i.
                let l = s.finished.every k i in
                cases (bool (S.tree k))
                (λ t.
                let q = line_up S X k (l, t) in
                subst (λ (f : ℕ). at forks.low f ≡ low S f) q.2 (w.each (S.target k) (omega (arith, q.0, s.same_vertices)) q.1))
                (λ t. w.unlowed.back_lows k (l, t) ∙ sym (low_back S X k (l, t)));
          };
          untopped = w.untopped;
        }

    module _ (v_in : v < vertices) where
      inside : v < S.vertices
      inside = omega (arith, s.same_vertices)

      height_is : at heights v ≡ S.height v
      height_is = s.each_height.each v inside

      pub plumbing_root : at heights v ≤ 0 → Plumbing S (v + 1) forks
      plumbing_root h =
          record {
            upto = omega (arith, inside);
            spans = w.spans;
            unlowed = w.unlowed;
            untopped = w.untopped;
            each = λ u i p.
                cases (eq_or u v)
                (λ e. let q : S.height u ≡ S.height v = ap S.height e in absurd (omega (arith, height_is)))
                (λ d. let d' : u ≢ v = d in w.each u (omega arith) p);
          }

      module _ (high : 0 < at heights v) where
        abbrev f : ℕ
        f = at parents v

        f_is : f ≡ S.parent v
        f_is = s.each_parent.each v inside

        above : 0 < S.height v
        above = omega (arith, height_is)

        f_line : TreeLine S f
        f_line = subst (λ (x : ℕ). TreeLine S x) (sym f_is) (X.parent v inside above).0

        plumbing_line : f < 2048
        plumbing_line = omega (arith, f_line.0.below, s.finished.few_lines)

        -- another tree line keeps its low, and each back line: it is no tree line
        abbrev lowered : ℕ → Forks
        lowered x = record { source = forks.source; stop = forks.stop; low = set forks.low f x; high = forks.high; top = forks.top }

        more : (x : ℕ) → x ≡ low S f → Plumbing S (v + 1) (lowered x)
        more x e =
            let small = plumbing_line in
            let long = w.spans.long in
            record {
              upto = omega (arith, inside);
              spans = record {
                long = record {
                  sources = long.sources;
                  stops = long.stops;
                  lows = length-set forks.low f x ∙ long.lows;
                  highs = long.highs;
                  tops = long.tops;
                };
                sources = w.spans.sources;
                stops = w.spans.stops;
                no_stops = w.spans.no_stops;
              };
              unlowed = record { back_lows = λ b l. get_or-set_other forks.low f b x 0 (apart b l) ∙ w.unlowed.back_lows b l };
              untopped = record {
                back_highs = w.untopped.back_highs;
                back_tops = w.untopped.back_tops;
                tree_highs = w.untopped.tree_highs;
                tree_tops = w.untopped.tree_tops;
              };
              each = λ u i p.
                  cases (eq_or (S.parent u) f)
                  (λ q. subst (λ (k : ℕ). at (set forks.low f x) k ≡ low S k) (sym q)
                  (get_or-set_same forks.low f x 0 (omega (arith, long.lows)) ∙ e))
                  (λ d.
                  get_or-set_other forks.low f (S.parent u) x 0 d
                  ∙ w.each u (before u i (λ q. d (ap S.parent q ∙ sym f_is))) p);
            }
          where
            apart : (b : ℕ) → BackLine S b → b ≡ f → ⊥
            apart b l z = true_false f_line.1 (subst (λ (k : ℕ). S.tree k ≡ false) z l.1)

            before : (u : ℕ) → u < v + 1 → (u ≡ v → ⊥) → u < v
            before u i d = let d' : u ≢ v = d in omega arith

        abbrev b : ℕ
        b = at bottoms v

        kinds : (Return S f b × (end S b ≡ low S f)) ⊎ ((b ≡ absent) × (low S f ≡ S.height (S.source f)))
        kinds =
            cases (low_cases S f)
            (λ q.
            let r = subst (λ (x : ℕ). Return S x q.0) f_is q.1 in
            let l = bottom_is S f q.0 q.1 in
            let e : bottom S f ≡ b = ap (bottom S) f_is ∙ sym (s.each_bottom.some v q.0 inside above r) in
            inl (subst (λ (x : ℕ). Return S f x × (end S x ≡ low S f)) e (l.return, l.at_low)))
            (λ q. inr (s.each_bottom.none v inside above (λ d r. q.1 d (subst (λ (x : ℕ). Return S x d) (sym f_is) r)), q.0))

        pub plumbing_none : b ≡ absent → Plumbing S (v + 1) (lowered (at heights v - 1))
        plumbing_none e =
            more (at heights v - 1)
            (cases kinds
            (λ q. absurd (omega (arith, q.0.is_back.0.below, s.finished.few_lines)))
            (λ q.
            let up = X.rise f f_line in
            let t : S.height (S.target f) ≡ S.height v = ap S.height (ap S.target f_is ∙ (X.parent v inside above).1) in
            omega (arith, q.1, height_is)))

        module _ (some : b ≡ absent → ⊥) where
          lowest : Return S f b × (end S b ≡ low S f)
          lowest = cases kinds (λ q. q) (λ q. absurd (some q.0))

          pub plumbing_bottom : b < 2048
          plumbing_bottom = omega (arith, lowest.0.is_back.0.below, s.finished.few_lines)

          pub plumbing_some : Plumbing S (v + 1) (lowered (at forks.stop b))
          plumbing_some = more (at forks.stop b) (w.spans.stops b lowest.0.is_back ∙ lowest.1)
