-- The walk from d is marked up to x.
use Rattle.meshes.proofs.Following.{following_start, following_less, following_more, following_done}
use Rattle.meshes.proofs.follow.Goals as goal

pub loop-mesh-init : goal.loop-mesh-init
loop-mesh-init c = search following_start

pub loop-mesh-smaller : goal.loop-mesh-smaller
loop-mesh-smaller c = search following_less

pub loop-mesh-preserved : goal.loop-mesh-preserved
loop-mesh-preserved c = search following_more

pub returns : goal.returns
returns c = search following_done
