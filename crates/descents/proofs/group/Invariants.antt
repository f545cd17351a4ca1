-- The tree of the calls is the own one.
use Rattle.descents.proofs.group.Given as goal

abbrev pub ghost-span : goal.ghost-span
ghost-span g a = g.S

abbrev pub ghost-walk : goal.ghost-walk
ghost-walk g a = g.S
