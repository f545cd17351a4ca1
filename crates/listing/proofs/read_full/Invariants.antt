-- What has come fits the buffer; the room that is left falls.
use Prim.Native.Nat.{◌-◌, ◌≤◌}
use lib.ListN.{length}
use Rattle.listing.proofs.read_full.Given as goal

abbrev pub invariant-loop-got : goal.invariant-loop-got
invariant-loop-got g l = l.got ≤ length l.into

abbrev pub decreases-loop-got : goal.decreases-loop-got
decreases-loop-got g l = length l.into - l.got
