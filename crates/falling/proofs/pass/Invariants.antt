-- The tree of the calls is the own one.
use Rattle.falling.proofs.pass.Given as goal

abbrev pub ghost-crown : goal.ghost-crown
ghost-crown g a = g.S

abbrev pub ghost-take : goal.ghost-take
ghost-take g a = g.S
