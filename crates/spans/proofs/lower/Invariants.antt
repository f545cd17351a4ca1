-- `lower` fills the column vertex by vertex.
use Rattle.spans.proofs.Lowering.{Lowering}
use Rattle.spans.proofs.lower.Given as goal

abbrev pub invariant-loop-v : goal.invariant-loop-v
invariant-loop-v g l = Lowering g.S l.v l.jumps
