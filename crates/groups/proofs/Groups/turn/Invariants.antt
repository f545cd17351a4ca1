-- `turn` writes the new byte of each line, from the front.
use Rattle.groups.proofs.Filling.{Turns, Filled}
use Rattle.groups.proofs.Groups.turn.Given as goal

abbrev pub invariant-loop-b : goal.invariant-loop-b
invariant-loop-b l = Filled (Turns l.self l.initial.choice l.r) l.lines l.b l.initial.choice l.choice
