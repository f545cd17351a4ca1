-- `put_ring` goes over the steps: each adds its line.
use Rattle.std.proofs.Common.{length}
use Rattle.listing.proofs.Putting.{Ringing}
use Rattle.listing.proofs.pieces.Page.put_ring.Given as goal

abbrev pub invariant-loop-line : goal.invariant-loop-line
invariant-loop-line l = Ringing l.size l.lines l.kinds l.initial.self.bytes l.initial.self.count l.self.bytes l.self.count (length l.yielded)
