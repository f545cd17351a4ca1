-- `measure` fills its column tree line by tree line.
use Rattle.lows.proofs.Plumbing.{Plumbing}
use Rattle.lows.proofs.measure.Given as goal

abbrev pub invariant-loop-v : goal.invariant-loop-v
invariant-loop-v g l = Plumbing g.S l.v l.forks
