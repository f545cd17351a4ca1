-- The fan of a vertex has each line that leaves it once, and no other.
use mathlib.Core.Bool.{Bool, true}
use mathlib.Core.List.{reverse}
use mathlib.Core.Path.{◌≡◌, ◌∙◌}
use Prim.Native.Nat.{ℕ, ◌+◌, ◌<◌}
use native.Mathlib.Omega.{arith}
use lib.Dec.{eqb}
use borrow.Author.Tests.{eq-eqb, eqb-true}
use Rattle.laws.specs.Tests.{both}
use Rattle.laws.specs.Counting.{many}
use Rattle.laws.specs.Lists.{from, keep}
use Rattle.laws.proofs.Tests.{both_yes, both_of}
use Rattle.laws.proofs.Lists.{All, all_map, all_both, all_keep, all_kept, all_append, all_reverse, from_in, from_all}
use Rattle.laws.proofs.Occurring.{many_append, many_reverse, many_keep_yes}
use Rattle.laws.proofs.Sorting.{many_sort, all_sort}
use Rattle.laws.proofs.Gathering.{halves}
use Rattle.tree.specs.Tree.{Tree}
use Rattle.tree.specs.Words.{Leaves}
use Rattle.fans.specs.Fan.{side_of, is_left, is_right, leaving, rank, nested, fan}
use Rattle.clockwise.specs.Walks.{Fanned}

module _ (S : Tree) where
  pub leaving_all : (v : ℕ) → All (Leaves S v) (leaving S v)
  unfolding leaving
  leaving_all v =
      let t : ℕ → Bool = λ e. both (S.live e) (eqb (S.source e) v) in
      all_map (λ e. (e < 0 + S.lines) × (t e ≡ true)) (Leaves S v) (keep t (from 0 S.lines))
      (λ e q. let b = both_of q.1 in record { line = record { below = omega (arith, q.0); yes = b.0 }; from = eqb-true (S.source e) v b.1 })
      (all_both (λ e. e < 0 + S.lines) (λ e. t e ≡ true) (keep t (from 0 S.lines)) (all_keep (λ e. e < 0 + S.lines) t (from 0 S.lines) (from_all 0 S.lines)) (all_kept t (from 0 S.lines)))

  leaving_once : (v k : ℕ) → Leaves S v k → many k (leaving S v) ≡ 1
  unfolding leaving
  leaving_once v k h =
      many_keep_yes (λ e. both (S.live e) (eqb (S.source e) v)) k (from 0 S.lines) (both_yes h.line.yes (eq-eqb (S.source k) v h.from))
      ∙ from_in 0 S.lines k (omega arith) (omega (arith, h.line.below))

  nested_all : (v : ℕ) → All (Leaves S v) (nested S v)
  unfolding nested
  nested_all v = all_sort (rank S) (Leaves S v) (leaving S v) (leaving_all v)

  nested_many : (v k : ℕ) → many k (nested S v) ≡ many k (leaving S v)
  unfolding nested
  nested_many v k = many_sort (rank S) k (leaving S v)

  module _ (side : ℕ → ℕ) where
    abbrev on_left : ℕ → Bool
    on_left = is_left (side_of S side)

    abbrev on_right : ℕ → Bool
    on_right = is_right (side_of S side)

    fan_many : (v k : ℕ) → many k (fan S side v) ≡ many k (leaving S v)
    unfolding fan
    fan_many v k =
        let N = nested S v in
        omega (arith, many_append k (reverse (keep on_left N)) (keep on_right N), many_reverse k (keep on_left N), halves on_left k N, nested_many v k)

    fan_all : (v : ℕ) → All (Leaves S v) (fan S side v)
    unfolding fan
    fan_all v =
        all_append (Leaves S v) (reverse (keep on_left (nested S v))) (keep on_right (nested S v))
        (all_reverse (Leaves S v) (keep on_left (nested S v)) (all_keep (Leaves S v) on_left (nested S v) (nested_all v)))
        (all_keep (Leaves S v) on_right (nested S v) (nested_all v))

    pub fanned : Fanned S (fan S side)
    fanned = record { leaves = λ v h. fan_all v; once = λ v k h e. fan_many v k ∙ leaving_once v k e }
