-- `weigh` keeps the two least of the lows passed, for each vertex.
use Rattle.lows.proofs.Lessening.{lessening_start, lessening_more, lessening_done}
use Rattle.lows.proofs.weigh.Goals as goal

pub loop-k-init : goal.loop-k-init
loop-k-init g c = lessening_start c.requires

pub loop-k-preserved : goal.loop-k-preserved
loop-k-preserved g c = lessening_more c.requires c.loop-k.invariant c.loop-k-test.true c.min.ensures c.max.ensures
    c.min-in-loop-k.ensures

pub returns : goal.returns
returns g c = lessening_done c.requires c.loop-k.invariant c.loop-k-test.false
