-- The rival of the tree line up to each vertex, filled in vertex by vertex from the two values of the vertex below.
use mathlib.Core.Bool.{cond}
use mathlib.Core.List.{List}
use mathlib.Core.Logic.{◌≢◌}
use mathlib.Core.Path.{◌≡◌, sym, ◌∙◌, ap, subst}
use Prim.Native.Nat.{ℕ, ◌+◌, ◌≤◌, ◌<◌}
use native.Mathlib.Omega.{arith}
use lib.Dec.{eqb}
use lib.ListN.{set, length-set}
use lib.Seq.{get_or-set_same, get_or-set_other}
use borrow.Author.Tests.{eq-eqb, ne_eqb}
use Rattle.laws.specs.Lists.{at}
use Rattle.laws.proofs.Cases.{cases, eq_or}
use Rattle.tree.specs.Tree.{Tree}
use Rattle.tree.specs.Returns.{low}
use Rattle.tree.specs.Words.{TreeLine}
use Rattle.tree.specs.Searched.{Searched}
use Rattle.fork.specs.Link.{rival}
use Rattle.fork.specs.declared.Forks.{Forks}
use Rattle.spans.specs.declared.Jumps.{Jumps}
use Rattle.spans.specs.Inside.{Below, Unheld}
use Rattle.lows.specs.Inside.{Comparable, Weighed}

-- the vertices before v have theirs
pub record Comparing (S : Tree) (v : ℕ) (jumps : Jumps) : Type 0 where
  pub upto : v ≤ S.vertices
  pub below : Below S jumps
  pub unheld : Unheld S jumps
  pub each : (u : ℕ) → u < v → 0 < S.height u → at jumps.least u ≡ rival S (S.parent u)

module _ {S : Tree} {vertices lines : ℕ} {heights parents : List ℕ} {forks : Forks} {jumps₀ : Jumps} (s : Comparable S vertices lines heights parents forks jumps₀) where
  X : Searched S
  X = s.finished.searched

  module _ {v : ℕ} {jumps : Jumps} (w : Comparing S v jumps) where
    module _ (v_in : v < vertices) where
      place_in : v < 512
      place_in = omega (arith, s.same_vertices, s.finished.few_vertices)

      inside : v < S.vertices
      inside = omega (arith, s.same_vertices)

      height_is : at heights v ≡ S.height v
      height_is = s.each_height.each v inside

      pub comparing_root : at heights v ≤ 0 → Comparing S (v + 1) jumps
      comparing_root h =
          record {
            upto = omega (arith, inside);
            below = w.below;
            unheld = w.unheld;
            each = λ u i p.
                cases (eq_or u v)
                (λ e. let q : S.height u ≡ S.height v = ap S.height e in absurd (omega (arith, height_is)))
                (λ d. let d' : u ≢ v = d in w.each u (omega arith) p);
          }

      module _ (high : 0 < at heights v) where
        above : 0 < S.height v
        above = omega (arith, height_is)

        line : TreeLine S (S.parent v)
        line = (X.parent v inside above).0

        abbrev u : ℕ
        u = at jumps.onward v

        u_is : u ≡ S.source (S.parent v)
        u_is = w.below.each v inside above

        low_is : at forks.low (at parents v) ≡ low S (S.parent v)
        low_is = ap (λ (k : ℕ). at forks.low k) (s.each_parent.each v inside) ∙ s.lows.each (S.parent v) line.0.below

        pub comparing_more : {firsts seconds : List ℕ} → Weighed S firsts seconds → {x : ℕ}
            → x ≡ cond (eqb (at forks.low (at parents v)) (at firsts u)) (at seconds u) (at firsts u)
            → Comparing S (v + 1) (record { onward = jumps.onward; least = set jumps.least v x; held = jumps.held })
        comparing_more {firsts} {seconds} r {x} is_x =
            let place = place_in in
            let few = s.finished.few_vertices in
            let long = w.below.long in
            record {
              upto = omega (arith, inside);
              below = record {
                long = record { onwards = long.onwards; leasts = length-set jumps.least v x ∙ long.leasts; helds = long.helds };
                each = w.below.each;
              };
              unheld = record { each = w.unheld.each };
              each = λ y i p.
                  cases (eq_or y v)
                  (λ e. subst (λ (z : ℕ). at (set jumps.least v x) z ≡ rival S (S.parent z)) (sym e)
                  (get_or-set_same jumps.least v x 0 (omega (arith, long.leasts)) ∙ told))
                  (λ d. let d' : y ≢ v = d in get_or-set_other jumps.least v y x 0 d ∙ w.each y (omega arith) p);
            }
          where
            first_of : at firsts u ≡ at firsts (S.source (S.parent v))
            first_of = ap (at firsts) u_is

            told : x ≡ rival S (S.parent v)
            told =
                cases (eq_or (at forks.low (at parents v)) (at firsts u))
                (λ e.
                is_x ∙ (rw (eq-eqb (at forks.low (at parents v)) (at firsts u) e) (ap (at seconds) u_is)) ∙ r.own (S.parent v) line.0.below
                (sym low_is ∙ e ∙ first_of))
                (λ d.
                is_x ∙ (rw (ne_eqb (at forks.low (at parents v)) (at firsts u) d) first_of)
                ∙ r.other (S.parent v) line.0.below (λ z. d (low_is ∙ z ∙ sym first_of)))
