-- `word_at` goes over the four digits: each counts sixteen times what stands before it, and itself.
use Rattle.digits.proofs.Words.{Reading}
use Rattle.digits.proofs.word_at.Given as goal

abbrev pub invariant-loop-k : goal.invariant-loop-k
invariant-loop-k l = Reading l.text l.at l.k l.number
