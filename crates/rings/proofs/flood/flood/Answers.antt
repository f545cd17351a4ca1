-- `flood` looks from one place of the queue after the other, until d is reached.
use Rattle.rings.proofs.Flooding.{head_small, flood_less, flood_scanning, flood_more}
use Rattle.rings.proofs.flood.flood.Goals as goal

pub bounds-queue-head : goal.bounds-queue-head
bounds-queue-head c = head_small c.requires c.loop-via.invariant c.loop-via-test.true

pub scan-n-requires : goal.scan-n-requires
scan-n-requires c = flood_scanning c.requires c.loop-via.invariant c.loop-via-test.true

pub loop-via-smaller : goal.loop-via-smaller
loop-via-smaller c = flood_less c.requires c.loop-via.invariant c.loop-via-test.true

pub loop-via-preserved : goal.loop-via-preserved
loop-via-preserved c = flood_more c.requires c.loop-via.invariant c.loop-via-test.true c.scan-n.ensures
