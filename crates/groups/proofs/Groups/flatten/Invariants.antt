-- `flatten` passes the lines from the front.
use Rattle.groups.proofs.Passing.{Flattening}
use Rattle.groups.proofs.Groups.flatten.Given as goal

abbrev pub invariant-loop-b : goal.invariant-loop-b
invariant-loop-b l = Flattening l.lines l.initial.self l.self l.b
