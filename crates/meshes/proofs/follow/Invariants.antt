-- The walk from d is marked up to x.
use lib.ListN.{take}
use Rattle.laws.specs.Counting.{many}
use Rattle.network.specs.Marks.{absent}
use Rattle.meshes.proofs.Following.{Following}
use Rattle.meshes.proofs.follow.Given as goal

abbrev pub invariant-loop-mesh : goal.invariant-loop-mesh
invariant-loop-mesh l = Following l.directions l.d l.number l.nexts l.mesh l.x

abbrev pub decreases-loop-mesh : goal.decreases-loop-mesh
decreases-loop-mesh l = many absent (take l.directions l.mesh)
