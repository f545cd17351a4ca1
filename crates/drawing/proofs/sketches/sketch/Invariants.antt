-- The tree is that of the network's search.
use Rattle.network.specs.Network.{network}
use Rattle.search.specs.Machine.{tree_in}
use Rattle.drawing.proofs.sketches.sketch.Given as goal

abbrev pub ghost-drawn : goal.ghost-drawn
ghost-drawn a = tree_in (network a.vertices a.ends.now)
