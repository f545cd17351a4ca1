-- `far` reads the partner's place.
use Rattle.search.proofs.Going.{far_even, far_odd, far_in}
use Rattle.search.proofs.visits.far.Goals as goal

pub bounds-ends-h : goal.bounds-ends-h
bounds-ends-h c = search far_in

pub returns-then-h-eq0 : goal.returns-then-h-eq0
returns-then-h-eq0 c = search far_even

pub returns-else-h-eq0 : goal.returns-else-h-eq0
returns-else-h-eq0 c = search far_odd
