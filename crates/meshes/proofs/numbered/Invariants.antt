-- The walks with a lowest direction below d have their numbers.
use Rattle.meshes.proofs.Following.{Marking}
use Rattle.meshes.proofs.numbered.Given as goal

abbrev pub invariant-loop-d : goal.invariant-loop-d
invariant-loop-d l = Marking l.directions l.nexts l.mesh l.count l.d
