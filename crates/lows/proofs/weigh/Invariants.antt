-- `weigh` keeps the two least of the lows passed, for each vertex.
use Rattle.lows.proofs.Lessening.{Lessening}
use Rattle.lows.proofs.weigh.Given as goal

abbrev pub invariant-loop-k : goal.invariant-loop-k
invariant-loop-k g l = Lessening g.S l.k l.firsts l.seconds
