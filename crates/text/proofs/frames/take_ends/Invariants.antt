-- `take_ends` takes the two numbers of each frame after the first.
use Rattle.text.proofs.Filling.{Taken}
use Rattle.text.proofs.frames.take_ends.Given as goal

abbrev pub invariant-loop-k : goal.invariant-loop-k
invariant-loop-k l = Taken l.text l.lines l.initial.ends l.k l.ends
