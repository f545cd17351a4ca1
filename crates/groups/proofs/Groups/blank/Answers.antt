-- `blank` has zeros.
use Rattle.groups.proofs.Pointers.{zeros_long, zeros_down, zeros_own}
use Rattle.groups.proofs.Groups.blank.Goals as goal

pub invariant_of-result : goal.invariant_of-result
invariant_of-result c = search (zeros_long, zeros_down, zeros_own)
