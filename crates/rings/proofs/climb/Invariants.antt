-- `climb` goes from each line to the one that it was reached from, until that is b.
use Prim.Native.Nat.{◌-◌}
use Rattle.rings.proofs.Climbing.{Climb}
use Rattle.rings.proofs.climb.Given as goal

abbrev pub invariant-loop-x : goal.invariant-loop-x
invariant-loop-x l = Climb l.lines l.b l.d l.n l.x l.via l.chain

abbrev pub decreases-loop-x : goal.decreases-loop-x
decreases-loop-x l = l.lines - l.n
