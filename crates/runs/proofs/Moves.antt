-- Next choice moves: on no network does it say 0 and leave the choice that it was lent.
use mathlib.Core.List.{List}
use mathlib.Core.Logic.{inl, inr}
use mathlib.Core.Path.{◌≡◌, refl, ap}
use Prim.Native.Nat.{ℕ, suc, ◌/◌, ◌≤◌}
use native.Mathlib.Omega.{arith}
use lib.ListN.{length}
use Rattle.laws.specs.Checks.{Check}
use Rattle.laws.specs.Lists.{at}
use Rattle.laws.proofs.Dictionary.{next_moves}
use Rattle.network.specs.Network.{network}
use Rattle.network.specs.Numbers.{Answer}
use Rattle.network.specs.Numbers.{Untouched, Accepted}
use Rattle.search.specs.Machine.{tree_in}
use Rattle.choice.specs.Choice.{Proper, Outdone}
use Rattle.choice.specs.Calls.{NextChoice, Stepped}
use Rattle.runs.proofs.Outcomes.{next_says}

pub not_unmoved : (n : ℕ) (ends choice : List ℕ) (a : Accepted n ends) (bytes : length ends / 2 ≤ length choice) (r : Answer) → NextChoice n ends choice r choice → r.number ≡ 0 → ⊥
not_unmoved n ends choice a bytes r x z = go (next_says n ends a choice bytes r choice x)
  where
    said : (k : ℕ) → Untouched choice r choice (suc k) → ⊥
    said k u = let e : r.number ≡ suc k = ap (λ (y : Answer). y.number) u.answers in omega arith

    go : Check (Proper (tree_in (network n ends)) (at choice))
        (Check (Outdone (tree_in (network n ends)) (at choice)) (Stepped (network n ends) choice r choice) (Untouched choice r choice 9)) (Untouched choice r choice 8) → ⊥
    go (inl (_, inl (_, s))) = next_moves (network n ends).lines (Proper (tree_in (network n ends))) (at choice) (at choice) s.next (λ b h. refl)
    go (inl (_, inr (_, u))) = said 8 u
    go (inr (_, u)) = said 7 u
