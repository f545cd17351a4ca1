-- `put_number` goes down from the last digit.
use Rattle.digits.proofs.Words.{Writing}
use Rattle.digits.proofs.put_number.Given as goal

abbrev pub invariant-loop-k : goal.invariant-loop-k
invariant-loop-k l = Writing l.initial.text l.at l.places l.x l.k l.rest l.text
