-- The loop over the heights keeps `Walk`, the one along a chain `Turn`.
use Rattle.meeting.proofs.Overlapping.{torn_on}
use Rattle.falling.proofs.Walking.{walk_start, walk_done, turn_first, turn_done, turn_coming, turn_next}
use Rattle.falling.proofs.fall.Goals as goal

pub loop-x-init : goal.loop-x-init
loop-x-init g c = walk_start c.requires

pub loop-b-init : goal.loop-b-init
loop-b-init g c = turn_first c.requires c.loop-x.invariant c.loop-x-test.true

pub loop-x-preserved : goal.loop-x-preserved
loop-x-preserved g c = turn_done c.requires c.loop-b.invariant c.loop-b-test.false

pub come_down-requires : goal.come_down-requires
come_down-requires g c = turn_coming c.requires c.loop-b.invariant c.loop-b-test.true

pub returns-in_err-come_down : goal.returns-in_err-come_down
returns-in_err-come_down g c = torn_on c.in_err-come_down.ensures c.from_residual.ensures.1

pub loop-b-preserved : goal.loop-b-preserved
loop-b-preserved g c = turn_next c.requires c.loop-b.invariant c.loop-b-test.true c.in_ok-come_down.ensures

pub returns : goal.returns
returns g c = walk_done c.requires c.loop-x.invariant c.loop-x-test.false
