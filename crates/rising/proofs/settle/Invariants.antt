-- The tree of the calls is the own one.
use Rattle.rising.proofs.settle.Given as goal

abbrev pub ghost-sink : goal.ghost-sink
ghost-sink g a = g.S

abbrev pub ghost-take : goal.ghost-take
ghost-take g a = g.S
