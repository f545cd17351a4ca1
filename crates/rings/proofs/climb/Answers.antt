-- `climb` goes from each line to the one that it was reached from, until that is b.
use Rattle.rings.proofs.Climbing.{climb_start, climb_room, climb_less, climb_more, climb_done}
use Rattle.rings.proofs.climb.Goals as goal

pub loop-x-init : goal.loop-x-init
loop-x-init c = search climb_start

pub bounds-chain-n : goal.bounds-chain-n
bounds-chain-n c = search climb_room

pub loop-x-smaller : goal.loop-x-smaller
loop-x-smaller c = search climb_less

pub loop-x-preserved : goal.loop-x-preserved
loop-x-preserved c = search climb_more

pub returns : goal.returns
returns c = search climb_done
