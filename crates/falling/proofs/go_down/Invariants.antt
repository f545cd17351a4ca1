-- The loop keeps `Descent`: what is above the vertex that b has come to has been passed.
use Rattle.laws.specs.Lists.{at}
use Rattle.falling.proofs.Descending.{Descent}
use Rattle.falling.proofs.go_down.Given as goal

abbrev pub invariant-loop-v : goal.invariant-loop-v
invariant-loop-v g l = Descent g.S l.b l.x l.s l.p l.v l.steps l.initial.groups l.jumps l.pairs l.forks l.groups

abbrev pub decreases-loop-v : goal.decreases-loop-v
decreases-loop-v g l = at l.heights l.v

abbrev pub ghost-pass : goal.ghost-pass
ghost-pass g a = g.S
