-- The vertices passed so far are found.
use Rattle.search.proofs.Reached.{Reaching}
use Rattle.search.proofs.all_found.Given as goal

abbrev pub invariant-loop-v : goal.invariant-loop-v
invariant-loop-v l = Reaching l.vertices l.found l.v
