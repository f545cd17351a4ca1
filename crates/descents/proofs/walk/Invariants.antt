-- The tree of the calls is the own one.
use Rattle.descents.proofs.walk.Given as goal

abbrev pub ghost-lower : goal.ghost-lower
ghost-lower g a = g.S

abbrev pub ghost-rise : goal.ghost-rise
ghost-rise g a = g.S

abbrev pub ghost-measure : goal.ghost-measure
ghost-measure g a = g.S

abbrev pub ghost-rivals : goal.ghost-rivals
ghost-rivals g a = g.S

abbrev pub ghost-fall : goal.ghost-fall
ghost-fall g a = g.S
