-- `fault` keeps the search to itself, and tells what it is refused for.
use Rattle.search.proofs.Calls.{explore_faulted}
use Rattle.search.proofs.fault.Goals as goal

pub returns : goal.returns
returns c = explore_faulted _ _ _ _ _ _ c.explore.ensures
