-- The walks with a lowest direction below d have their numbers.
use Rattle.meshes.proofs.Following.{marking_start, marking_more, marking_pass, marking_done}
use Rattle.meshes.proofs.numbered.Goals.{then-mesh-d, else-mesh-d}
use Rattle.meshes.proofs.numbered.Goals as goal

pub loop-d-init : goal.loop-d-init
loop-d-init c = search marking_start

pub loop-d-preserved : goal.loop-d-preserved
loop-d-preserved c =
    elim c.if-mesh-d.branch [
      | then-mesh-d w ↦ rw (w.mesh-is, w.count-is) (search marking_more)
      | else-mesh-d w ↦ rw (w.mesh-is, w.count-is) (search marking_pass)
    ]

pub returns : goal.returns
returns c = search marking_done
