-- `rise` keeps `Levelled` from chain to chain, and `Upward` from back line to back line.
use Prim.Native.Nat.{◌-◌}
use Rattle.rising.proofs.Rising.{Levelled, Upward}
use Rattle.rising.proofs.rise.Given as goal

abbrev pub invariant-loop-x : goal.invariant-loop-x
invariant-loop-x g l = Levelled g.S l.x l.bottoms l.fn.groups l.groups

abbrev pub invariant-loop-b : goal.invariant-loop-b
invariant-loop-b g l = Upward g.S l.x l.b l.bottoms l.fn.groups l.groups

abbrev pub decreases-loop-b : goal.decreases-loop-b
decreases-loop-b g l = l.none - l.b

abbrev pub ghost-settle : goal.ghost-settle
ghost-settle g a = g.S
