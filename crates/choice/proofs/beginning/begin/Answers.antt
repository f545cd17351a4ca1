-- The groups are those of the tree in the tables of the search.
use mathlib.Core.Path.{refl}
use Rattle.search.proofs.Calls.{explore_faulted}
use Rattle.choice.proofs.Faultless.{explored_known, begun_of}
use Rattle.laws.proofs.Passing.{passed_on}
use Rattle.choice.proofs.beginning.begin.Goals as goal

pub group-beginning-requires : goal.group-beginning-requires
group-beginning-requires c = (refl, (explored_known c.in_ok-explore.ensures, c.requires))

pub returns-in_err-explore : goal.returns-in_err-explore
returns-in_err-explore c = rw (passed_on c.from_residual.result c.from_residual.ensures.1) (explore_faulted _ _ _ _ _ _ c.in_err-explore.ensures)

pub returns : goal.returns
returns c = begun_of c.in_ok-explore.ensures c.group-beginning.ensures
