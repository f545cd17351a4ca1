-- The vertices below v are done.
use Rattle.clockwise.proofs.Spreading.{laying_over, laying_begins, laying_spreads, laying_more}
use Rattle.clockwise.proofs.laid.Goals as goal

pub loop-v-init : goal.loop-v-init
loop-v-init c = laying_over c.requires.layable c.requires.long

pub begun-requires : goal.begun-requires
begun-requires c = search laying_begins

pub spread-requires : goal.spread-requires
spread-requires c = search laying_spreads

pub loop-v-preserved : goal.loop-v-preserved
loop-v-preserved c = laying_more c.requires.layable c.loop-v.invariant c.loop-v-test.true c.begun.ensures c.spread.ensures
