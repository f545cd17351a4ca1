-- `flood` looks from one place of the queue after the other, until d is reached.
use Prim.Native.Nat.{◌-◌}
use Rattle.rings.proofs.Flooding.{Flood}
use Rattle.rings.proofs.flood.flood.Given as goal

abbrev pub invariant-loop-via : goal.invariant-loop-via
invariant-loop-via l = Flood l.lines l.b l.head l.n l.groups l.queue l.via

abbrev pub decreases-loop-via : goal.decreases-loop-via
decreases-loop-via l = l.lines - l.head
