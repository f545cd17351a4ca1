-- The first i places of v are done.
use Rattle.network.specs.Network.{network_of}
use Rattle.meshes.proofs.Links.{Linking}
use Rattle.meshes.proofs.turns.link.Given as goal

abbrev pub invariant-loop-i : goal.invariant-loop-i
invariant-loop-i l = Linking (network_of l.vertices l.lines l.ends) l.order l.starts l.v l.i l.nexts
