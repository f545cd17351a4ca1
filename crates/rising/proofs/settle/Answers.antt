-- `settle`: the turn of a back line ends in one of three ways.
use Rattle.rising.proofs.Settling.{settled_alone, settled_lower, settled_tieable, settled_tied}
use Rattle.std.proofs.Common.{refl}
use Rattle.rising.proofs.settle.Goals as goal

pub returns-in_default : goal.returns-in_default
returns-in_default g c = settled_alone c.requires c.in_default.ensures.sunk refl

pub returns-then-forks-c : goal.returns-then-forks-c
returns-then-forks-c g c = settled_lower c.requires c.in-Some.ensures.sunk c.in-Some.ensures.met c.if-forks-c.true

pub take-requires : goal.take-requires
take-requires g c = settled_tieable c.requires c.in-Some.ensures.sunk c.in-Some.ensures.met c.if-forks-c.false

pub returns : goal.returns
returns g c = settled_tied c.requires c.in-Some.ensures.sunk c.in-Some.ensures.met c.if-forks-c.false c.take.ensures
