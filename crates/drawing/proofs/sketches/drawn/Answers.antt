-- The order, the mesh map's table, the meshes, their sizes.
use mathlib.Core.Path.{refl}
use Rattle.drawing.proofs.Meshing.{drawn_laid, drawn_numberable, drawn_meshed, drawn_lone, drawn_some}
use Rattle.drawing.proofs.sketches.drawn.Goals as goal
use Rattle.drawing.proofs.sketches.drawn.Goals.{then-lines-eq0, else-lines-eq0}

pub ordered-requires : goal.ordered-requires
ordered-requires g c = (c.requires.0.orderable, c.requires.1.order)

pub linked-requires : goal.linked-requires
linked-requires g c = record { fit = c.requires.0.fits; laid = drawn_laid c.requires.0 c.ordered.ensures; nexts_len = refl }

pub numbered-found-requires : goal.numbered-found-requires
numbered-found-requires g c = record { numberable = drawn_numberable c.requires.0 c.ordered.ensures c.linked.ensures; unmeshed = c.requires.1.no_mesh }

pub sized-requires : goal.sized-requires
sized-requires g c = record { meshed = drawn_meshed c.requires.0 c.ordered.ensures c.linked.ensures c.numbered-found.ensures; no_sizes = c.requires.1.no_size }

pub returns : goal.returns
returns g c =
    elim c.if-lines-eq0.branch [
      | then-lines-eq0 w ↦ rw w.drawing-is (drawn_lone c.requires.0 c.ordered.ensures c.linked.ensures c.numbered-found.ensures c.sized.ensures w.if-lines-eq0.true)
      | else-lines-eq0 w ↦ rw w.drawing-is (drawn_some c.requires.0 c.ordered.ensures c.linked.ensures c.numbered-found.ensures c.sized.ensures w.if-lines-eq0.false)
    ]
