-- `take` tells what the groups answered.
use Rattle.links.proofs.Tying.{take_joinable, take_agreed, take_joined, take_torn}
use Rattle.links.proofs.take.Goals as goal

pub join-requires : goal.join-requires
join-requires g c = take_joinable c.requires

pub returns-in-Agrees : goal.returns-in-Agrees
returns-in-Agrees g c = take_agreed g.S _ _ _ _ _ c.requires _ (rw c.from.ensures at c.join.ensures) c.in-Agrees.is

pub returns-in-Joins : goal.returns-in-Joins
returns-in-Joins g c = take_joined g.S _ _ _ _ _ c.requires _ (rw c.from.ensures at c.join.ensures) c.in-Joins.is

pub returns-in-Conflicts : goal.returns-in-Conflicts
returns-in-Conflicts g c = take_torn g.S _ _ _ _ _ c.requires _ (rw c.from.ensures at c.join.ensures) c.in-Conflicts.is
