-- The vertices below v are done.
use Rattle.clockwise.proofs.Spreading.{Laying}
use Rattle.clockwise.proofs.laid.Given as goal

abbrev pub invariant-loop-v : goal.invariant-loop-v
invariant-loop-v l = Laying l.vertices l.parents l.uppers l.fans l.groups l.order.row l.order.starts l.v
