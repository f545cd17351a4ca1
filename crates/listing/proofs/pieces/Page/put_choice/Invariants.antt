-- `put_choice` goes over the lines: those with a side add its two digits.
use Rattle.listing.proofs.Putting.{Putting}
use Rattle.listing.proofs.pieces.Page.put_choice.Given as goal

abbrev pub invariant-loop-side : goal.invariant-loop-side
invariant-loop-side l = Putting l.choice l.initial.self.bytes l.initial.self.count l.self.bytes l.self.count l.side-index
