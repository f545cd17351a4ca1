-- `explore` makes the checks 2 to 5, and the search the sixth.
use mathlib.Core.Path.{refl}
use Rattle.laws.proofs.Passing.{passed_on}
use Rattle.network.proofs.Refusing.{refusal_some}
use Rattle.search.proofs.Calls.{explore_sifted, explore_fit, explore_settled}
use Rattle.search.proofs.explore.Goals as goal

pub returns-in_err-sift : goal.returns-in_err-sift
returns-in_err-sift c = rw (passed_on c.from_residual.result c.from_residual.ensures.1) (explore_sifted _ _ _ c.in_err-sift.ensures (refusal_some _) _ _ _)

pub settle-requires : goal.settle-requires
settle-requires c = explore_fit _ _ _ c.in_ok-sift.ensures refl

pub returns : goal.returns
returns c = explore_settled _ _ _ c.in_ok-sift.ensures refl _ c.settle.ensures
