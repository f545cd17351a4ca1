-- The lines below k are counted.
use Rattle.meshes.proofs.Sizing.{sizing_start, sizing_add, sizing_add_back, sizing_same, sizing_two}
use Rattle.meshes.proofs.sized.Goals.{then-forth-back, else-forth-back}
use Rattle.meshes.proofs.sized.Goals as goal

pub loop-k-init : goal.loop-k-init
loop-k-init c = search sizing_start

pub overflow_add-sizes : goal.overflow_add-sizes
overflow_add-sizes c = search sizing_add

pub overflow_add-sizes-then-forth-back : goal.overflow_add-sizes-then-forth-back
overflow_add-sizes-then-forth-back c = search sizing_add_back

pub loop-k-preserved : goal.loop-k-preserved
loop-k-preserved c =
    elim c.if-forth-back.branch [
      | then-forth-back w ↦ rw w.sizes-is (search sizing_two)
      | else-forth-back w ↦ rw w.sizes-is (search sizing_same)
    ]
