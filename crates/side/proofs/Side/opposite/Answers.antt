-- By the test.
use Rattle.side.proofs.Opposite.{opposite_left, opposite_other}
use Rattle.side.proofs.Side.opposite.Goals as goal

pub returns-then-side-eq-LEFT : goal.returns-then-side-eq-LEFT
returns-then-side-eq-LEFT c = search opposite_left

pub returns : goal.returns
returns c = search opposite_other
