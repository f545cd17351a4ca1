-- The group that is turned takes the opposite sides; a lower one is kept, and a higher one begins anew.
use native.Mathlib.Omega.{arith}
use Rattle.groups.proofs.Filling.{turned_over}
use Rattle.groups.proofs.choice.recolour.Goals as goal

pub returns : goal.returns
returns c = turned_over _ _ _ _ _ c.opposite.ensures (omega arith) (omega arith)
