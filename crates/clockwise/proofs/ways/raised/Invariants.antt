-- The lines that lead up to vertices below v are done.
use Rattle.clockwise.proofs.Raising.{Raising}
use Rattle.clockwise.proofs.ways.raised.Given as goal

abbrev pub invariant-loop-v : goal.invariant-loop-v
invariant-loop-v g l = Raising g.S l.uppers l.v
