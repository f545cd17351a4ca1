-- `near_end` reads the first line of the joining, or its second.
use Rattle.rings.specs.Flooding.{leaves}
use Rattle.rings.proofs.steps.near_end.Goals as goal

pub returns : goal.returns
unfolding leaves
returns c = c.end.ensures
