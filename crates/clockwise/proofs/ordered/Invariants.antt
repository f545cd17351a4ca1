-- All of it is about one tree.
use Rattle.clockwise.proofs.ordered.Given as goal

abbrev pub ghost-fanned : goal.ghost-fanned
ghost-fanned g a = g.S

abbrev pub ghost-raised : goal.ghost-raised
ghost-raised g a = g.S
