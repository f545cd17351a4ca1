-- `sink` keeps `SunkTo`: what was passed is made its own.
use Rattle.rising.proofs.Sinking.{sink_end, sink_met, sink_more}
use Rattle.rising.proofs.sink.Goals as goal

pub returns-in-Some-clause-sunk : goal.returns-in-Some-clause-sunk
returns-in-Some-clause-sunk g c = sink_met c.requires c.loop-v.invariant c.loop-v-test.true c.in-Some.ensures

pub loop-v-preserved : goal.loop-v-preserved
loop-v-preserved g c = sink_more c.requires c.loop-v.invariant c.loop-v-test.true c.in_default.ensures

pub returns-clause-sunk : goal.returns-clause-sunk
returns-clause-sunk g c = sink_end c.requires c.loop-v.invariant c.loop-v-test.false
