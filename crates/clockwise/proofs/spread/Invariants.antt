-- The lines of the fan up to the next are written.
use Rattle.fans.proofs.Hanging.{remaining}
use Rattle.clockwise.proofs.Spreading.{Spreading}
use Rattle.clockwise.proofs.spread.Given as goal

abbrev pub invariant-loop-next : goal.invariant-loop-next
invariant-loop-next l = Spreading l.v l.uppers l.fans l.groups l.initial.order l.order l.next

abbrev pub decreases-loop-next : goal.decreases-loop-next
decreases-loop-next l = remaining l.fans.after l.next
