-- `far_end` reads the other one.
use Rattle.rings.specs.Flooding.{arrives}
use Rattle.rings.proofs.steps.far_end.Goals as goal

pub returns : goal.returns
unfolding arrives
returns c = c.end.ensures
