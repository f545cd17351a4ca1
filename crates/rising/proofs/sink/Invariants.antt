-- `sink` keeps `SunkTo`: what was passed is made its own.
use lib.ListN.{get_or}
use Rattle.rising.specs.Inside.{SunkTo}
use Rattle.rising.proofs.sink.Given as goal

abbrev pub invariant-loop-v : goal.invariant-loop-v
invariant-loop-v g l = SunkTo g.S l.b l.initial.bottoms l.bottoms l.v

abbrev pub decreases-loop-v : goal.decreases-loop-v
decreases-loop-v g l = get_or l.heights l.v 0
