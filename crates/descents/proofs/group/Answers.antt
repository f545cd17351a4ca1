-- The tree is the one in the tables of the search.
use Rattle.descents.proofs.Grouping.{group_spannable, group_walkable, group_flattenable, group_flattened}
use Rattle.descents.proofs.group.Goals as goal

pub span-requires : goal.span-requires
span-requires g c = rw c.requires.0 (group_spannable c.requires.1.0 c.requires.1.1)

pub walk-outcome-requires : goal.walk-outcome-requires
walk-outcome-requires g c = rw c.requires.0 (group_walkable c.requires.1.0 (rw c.requires.0 at c.span.ensures) c.start.ensures)

pub flatten-requires : goal.flatten-requires
flatten-requires g c = group_flattenable c.requires.1.0 (rw c.requires.0 at c.walk-outcome.ensures)

pub returns : goal.returns
returns g c = rw c.requires.0 (group_flattened c.requires.1.0 (rw c.requires.0 at c.walk-outcome.ensures) c.flatten.ensures)
