-- `is_mispaired` computes its definition: the table holds the pairs of the lines passed so far.
use Rattle.network.proofs.Pairs.{Seen}
use Rattle.network.proofs.is_mispaired.Given as goal

abbrev pub invariant-loop-k : goal.invariant-loop-k
invariant-loop-k l = Seen l.ends l.seen l.k
