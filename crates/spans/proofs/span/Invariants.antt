-- `span` fills its columns line by line.
use Rattle.spans.proofs.Spanning.{Spanning}
use Rattle.spans.proofs.span.Given as goal

abbrev pub invariant-loop-k : goal.invariant-loop-k
invariant-loop-k g l = Spanning g.S l.forks l.k
