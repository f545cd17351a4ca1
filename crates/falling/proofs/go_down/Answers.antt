-- The loop keeps `Descent`: what is above the vertex that b has come to has been passed.
use native.Mathlib.Omega.{arith}
use Rattle.meeting.proofs.Overlapping.{torn_on}
use Rattle.falling.proofs.Descending.{descent_start, descent_landing, first_placed, before_placed, descent_less, descent_more, descent_done}
use Rattle.falling.proofs.go_down.Goals as goal

pub loop-v-init : goal.loop-v-init
loop-v-init g c = descent_start c.requires

pub pass-requires : goal.pass-requires
pass-requires g c = descent_landing c.requires c.loop-v.invariant (omega arith)

pub returns-in_err-pass : goal.returns-in_err-pass
returns-in_err-pass g c = torn_on c.in_err-pass.ensures c.from_residual.ensures.1

pub lengthen-requires-clause-s_placed : goal.lengthen-requires-clause-s_placed
lengthen-requires-clause-s_placed g c = first_placed c.requires c.loop-v.invariant (omega arith) c.in_ok-pass.ensures

pub lengthen-requires-clause-p_placed : goal.lengthen-requires-clause-p_placed
lengthen-requires-clause-p_placed g c = before_placed c.requires c.loop-v.invariant (omega arith) c.in_ok-pass.ensures

pub loop-v-smaller : goal.loop-v-smaller
loop-v-smaller g c = descent_less c.requires c.loop-v.invariant (omega arith) c.in_ok-pass.ensures c.lengthen.ensures

pub loop-v-preserved : goal.loop-v-preserved
loop-v-preserved g c = descent_more c.requires c.loop-v.invariant (omega arith) c.in_ok-pass.ensures c.lengthen.ensures

pub returns : goal.returns
returns g c = descent_done c.requires c.loop-v.invariant (omega arith)
