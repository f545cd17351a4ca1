-- `look_up` goes from pointer to pointer; each step is to a lower line.
use Rattle.groups.proofs.Passing.{Climbing}
use Rattle.groups.proofs.Groups.look_up.Given as goal

abbrev pub invariant-loop-y : goal.invariant-loop-y
invariant-loop-y l = Climbing l.b l.initial.self l.self l.x l.turn l.y

abbrev pub decreases-loop-y : goal.decreases-loop-y
decreases-loop-y l = l.x
