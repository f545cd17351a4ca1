-- What arrives at a vertex below v has what follows it.
use Rattle.network.specs.Network.{network_of}
use Rattle.meshes.specs.Inside.{Linked}
use Rattle.meshes.proofs.turns.linked.Given as goal

abbrev pub invariant-loop-v : goal.invariant-loop-v
invariant-loop-v l = Linked (network_of l.vertices l.lines l.ends) l.order l.starts l.v l.nexts
