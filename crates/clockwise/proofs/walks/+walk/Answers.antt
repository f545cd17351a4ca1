-- `walk` meets its contract: at v the lines of the fan that were taken are done, and at each call of itself v is higher.
use native.Mathlib.Omega.{arith}
use Rattle.clockwise.proofs.Walking.{walk_height, walk_start, walk_line, walk_less, walk_done}
use Rattle.clockwise.proofs.Finding.{walk_collects, walk_collected}
use Rattle.clockwise.proofs.Rising.{walk_up, walk_back}
use Rattle.clockwise.proofs.walks.+walk.Goals as goal

pub loop-next-init : goal.loop-next-init
loop-next-init t c = λ S found s. walk_start s c.first-next.ensures

pub after-next-requires : goal.after-next-requires
after-next-requires t c = walk_line c.requires.asked (c.loop-next.invariant _ _ c.requires.asked) c.in-Some.is

pub offset_bounds-uppers-e : goal.offset_bounds-uppers-e
offset_bounds-uppers-e t c = omega (arith, walk_line c.requires.asked (c.loop-next.invariant _ _ c.requires.asked) c.in-Some.is)

pub bounds-uppers-e : goal.bounds-uppers-e
bounds-uppers-e t c = walk_line c.requires.asked (c.loop-next.invariant _ _ c.requires.asked) c.in-Some.is

pub walk-requires : goal.walk-requires
walk-requires t c = (
  omega (arith, walk_height c.requires.asked, c.decreases),
  record {
    tree = c.requires.tree;
    found = _;
    asked = walk_up c.requires.asked (c.loop-next.invariant _ _ c.requires.asked) c.in-Some.is c.in-Some-named.ensures;
  },
)

pub loop-next-smaller-in-Some-named : goal.loop-next-smaller-in-Some-named
loop-next-smaller-in-Some-named t c = walk_less c.requires.asked (c.loop-next.invariant _ _ c.requires.asked) c.in-Some.is _ c.after-next.ensures

pub loop-next-preserved-in-Some-named : goal.loop-next-preserved-in-Some-named
loop-next-preserved-in-Some-named t c =
    λ S found s.
    let w = c.loop-next.invariant S found s in
    let up = walk_up s w c.in-Some.is c.in-Some-named.ensures in
    walk_back s w c.in-Some.is c.in-Some-named.ensures (c.walk.ensures S _ up) c.after-next.ensures

pub collect-requires : goal.collect-requires
collect-requires t c = walk_collects c.requires.asked (c.loop-next.invariant _ _ c.requires.asked) c.in-Some.is c.in_default-named.ensures

pub loop-next-smaller : goal.loop-next-smaller
loop-next-smaller t c = walk_less c.requires.asked (c.loop-next.invariant _ _ c.requires.asked) c.in-Some.is _ c.after-next.ensures

pub loop-next-preserved : goal.loop-next-preserved
loop-next-preserved t c =
    λ S found s. walk_collected s (c.loop-next.invariant S found s) c.in-Some.is c.in_default-named.ensures c.collect.ensures c.after-next.ensures

pub returns : goal.returns
returns t c = λ S found s. walk_done s (c.loop-next.invariant S found s) c.in_default.is
