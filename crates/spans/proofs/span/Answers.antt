-- `span` fills its columns line by line.
use Rattle.spans.proofs.Spanning.{spanning_more, spanning_done}
use Rattle.spans.proofs.span.Goals as goal

pub loop-k-preserved : goal.loop-k-preserved
loop-k-preserved g c = spanning_more c.requires c.loop-k.invariant c.loop-k-test.true
    c.choose-end.ensures c.choose.ensures c.choose-in-loop-k.ensures c.choose-in-loop-k-2.ensures c.choose-in-loop-k-3.ensures

pub returns : goal.returns
returns g c = spanning_done c.requires c.loop-k.invariant c.loop-k-test.false
