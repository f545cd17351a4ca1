-- `rise` keeps `Levelled` from chain to chain, and `Upward` from back line to back line.
use Rattle.laws.proofs.Passing.{passed_on}
use Rattle.rising.proofs.Rising.{rise_empty, rise_chain, rise_torn, rise_next, rise_up, rise_done}
use Rattle.rising.proofs.rise.Goals as goal

pub returns-then-vertices-eq0 : goal.returns-then-vertices-eq0
returns-then-vertices-eq0 g c = rise_empty c.requires c.if-vertices-eq0.true

pub loop-b-init : goal.loop-b-init
loop-b-init g c = rise_chain c.requires c.loop-x-test.true c.loop-x.invariant

pub returns-in_err-settle : goal.returns-in_err-settle
returns-in_err-settle g c = rw (passed_on c.from_residual.result c.from_residual.ensures.1)
    (rise_torn c.requires c.loop-x-test.true c.loop-b.invariant c.loop-b-test.true c.settle.ensures c.in_err-settle.was)

pub loop-b-preserved : goal.loop-b-preserved
loop-b-preserved g c = rise_next c.requires c.loop-x-test.true c.loop-b.invariant c.loop-b-test.true c.settle.ensures c.in_ok-settle.was

pub loop-x-preserved : goal.loop-x-preserved
loop-x-preserved g c = rise_up c.requires c.loop-x-test.true c.loop-b.invariant c.loop-b-test.false

pub returns : goal.returns
returns g c = rise_done c.requires c.loop-x.invariant c.loop-x-test.false
