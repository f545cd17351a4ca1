-- `are_frames` computes its definition: the places of the frames passed so far are right.
use Rattle.text.proofs.Places.{Rights}
use Rattle.text.proofs.form.are_frames.Given as goal

abbrev pub invariant-loop-k : goal.invariant-loop-k
invariant-loop-k l = Rights l.text l.lines l.k
