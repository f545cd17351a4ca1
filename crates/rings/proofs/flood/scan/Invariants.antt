-- `scan` looks along one half-step of x after the other.
use Prim.Native.Nat.{◌-◌, ◌*◌}
use Rattle.rings.proofs.Flooding.{Along}
use Rattle.rings.proofs.flood.scan.Given as goal

abbrev pub invariant-loop-s : goal.invariant-loop-s
invariant-loop-s l = Along l.lines l.x l.n l.k l.s l.groups l.initial.queue l.initial.via l.queue l.via

abbrev pub decreases-loop-s : goal.decreases-loop-s
decreases-loop-s l = 2 * l.lines - l.s
