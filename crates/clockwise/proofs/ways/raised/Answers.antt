-- The lines that lead up to vertices below v are done.
use Rattle.clockwise.proofs.Raising.{raising_start, raising_line, raising_more}
use Rattle.clockwise.proofs.ways.raised.Goals as goal

pub loop-v-init : goal.loop-v-init
loop-v-init g c = rw c.requires.1 (raising_start c.requires.0)

pub bounds-uppers-parents : goal.bounds-uppers-parents
bounds-uppers-parents g c = raising_line c.requires.0 c.loop-v.invariant c.loop-v.auto.v c.loop-v-test.true

pub loop-v-preserved : goal.loop-v-preserved
loop-v-preserved g c = raising_more c.requires.0 c.loop-v.invariant c.loop-v.auto.v c.loop-v-test.true
