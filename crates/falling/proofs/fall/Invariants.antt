-- The loop over the heights keeps `Walk`, the one along a chain `Turn`.
use Prim.Native.Nat.{◌-◌}
use Rattle.falling.proofs.Walking.{Walk, Turn}
use Rattle.falling.proofs.fall.Given as goal

abbrev pub invariant-loop-b : goal.invariant-loop-b
invariant-loop-b g l = Turn g.S l.x l.b l.fn.groups l.jumps l.pairs l.forks l.groups

abbrev pub decreases-loop-b : goal.decreases-loop-b
decreases-loop-b g l = l.lines - l.b

abbrev pub invariant-loop-x : goal.invariant-loop-x
invariant-loop-x g l = Walk g.S l.x g.S.lines l.fn.groups l.jumps l.pairs l.forks l.groups

abbrev pub ghost-come_down : goal.ghost-come_down
ghost-come_down g a = g.S
