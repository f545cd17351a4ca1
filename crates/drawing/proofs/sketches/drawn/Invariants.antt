-- The tree of the call is the own one.
use Rattle.drawing.proofs.sketches.drawn.Given as goal

abbrev pub ghost-ordered : goal.ghost-ordered
ghost-ordered g a = g.S
