-- `start` writes the four places of each line, from the front.
use Rattle.groups.proofs.Setting.{Starting}
use Rattle.groups.proofs.Groups.start.Given as goal

abbrev pub invariant-loop-b : goal.invariant-loop-b
invariant-loop-b l = Starting l.lines l.kinds l.self l.b
