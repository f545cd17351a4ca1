-- `put_lines` puts the frames of the lines one after the other.
use Rattle.text.proofs.Filling.{Put}
use Rattle.text.proofs.frames.put_lines.Given as goal

abbrev pub invariant-loop-k : goal.invariant-loop-k
invariant-loop-k l = Put l.ends l.initial.text l.k l.text
