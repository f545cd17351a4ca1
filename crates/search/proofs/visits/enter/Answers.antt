-- `enter` makes the step that finds a vertex.
use Rattle.search.proofs.Going.{enter_leaves}
use Rattle.search.proofs.visits.enter.Goals as goal

pub returns : goal.returns
returns c = search enter_leaves
