-- The first i places of v are done.
use native.Mathlib.Omega.{arith}
use Rattle.meshes.proofs.Links.{laid_line, linking_more, linking_done}
use Rattle.meshes.proofs.turns.link.Goals as goal

pub way_out-requires : goal.way_out-requires
way_out-requires c = laid_line c.requires.fit c.requires.laid c.requires.linked_below.0 c.place_after.ensures.1

pub overflow_cast-nexts : goal.overflow_cast-nexts
overflow_cast-nexts c =
    omega (arith, laid_line c.requires.fit c.requires.laid c.requires.linked_below.0 c.place_after.ensures.1, c.way_out.ensures)

pub way_out-requires-in-loop-i : goal.way_out-requires-in-loop-i
way_out-requires-in-loop-i c = laid_line c.requires.fit c.requires.laid c.requires.linked_below.0 c.loop-i-test.true

pub reversed-requires : goal.reversed-requires
reversed-requires c =
    omega (arith, laid_line c.requires.fit c.requires.laid c.requires.linked_below.0 c.loop-i-test.true, c.way_out-in-loop-i.ensures)

pub loop-i-preserved : goal.loop-i-preserved
loop-i-preserved c =
    linking_more c.requires.fit c.requires.laid c.requires.linked_below.0 c.loop-i.invariant c.loop-i-test.true (cc) (cc)

pub returns : goal.returns
returns c = linking_done c.requires.fit c.requires.laid c.requires.linked_below.0 c.loop-i.invariant c.loop-i-test.false
