-- The lines below k are counted.
use Rattle.meshes.specs.Inside.{Sized}
use Rattle.meshes.proofs.sized.Given as goal

abbrev pub invariant-loop-k : goal.invariant-loop-k
invariant-loop-k l = Sized l.k l.mesh l.sizes
