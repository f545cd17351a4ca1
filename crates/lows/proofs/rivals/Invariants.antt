-- `rivals` fills its column vertex by vertex.
use Rattle.lows.proofs.Comparing.{Comparing}
use Rattle.lows.proofs.rivals.Given as goal

abbrev pub invariant-loop-v : goal.invariant-loop-v
invariant-loop-v g l = Comparing g.S l.v l.jumps

abbrev pub ghost-weigh : goal.ghost-weigh
ghost-weigh g a = g.S
