-- `lowest` keeps the place of the lowest line so far.
use Rattle.rings.proofs.Reading.{Seen}
use Rattle.rings.proofs.circle.lowest.Given as goal

abbrev pub invariant-loop-i : goal.invariant-loop-i
invariant-loop-i l = Seen l.n l.i l.chain l.m
