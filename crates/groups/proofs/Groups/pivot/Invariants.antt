-- `pivot` looks from the last line down: no line that it has passed leads and is left.
use Rattle.groups.proofs.Filling.{Seeking}
use Rattle.groups.proofs.Groups.pivot.Given as goal

abbrev pub invariant-loop-b : goal.invariant-loop-b
invariant-loop-b l = Seeking l.lines l.b l.self l.choice
