-- `measure` fills its column tree line by tree line.
use Rattle.network.proofs.Naming.{named_some}
use Rattle.lows.proofs.Plumbing.{plumbing_root, plumbing_none, plumbing_bottom, plumbing_some, plumbing_done}
use native.Mathlib.Omega.{arith}
use Rattle.lows.proofs.measure.Goals as goal
use Rattle.lows.proofs.measure.Goals.{then-height-gt0+in_default, then-height-gt0+in-Some, else-height-gt0}

pub bounds-forks-b : goal.bounds-forks-b
bounds-forks-b g c = omega (
  arith,
  plumbing_bottom c.requires c.loop-v.invariant c.loop-v-test.true c.if-height-gt0.true
      (named_some c.in-Some.ensures),
  c.in-Some.ensures,
)

pub loop-v-preserved : goal.loop-v-preserved
loop-v-preserved g c =
    let l = c.loop-v.invariant in
    elim c.if-height-gt0.branch [
      | then-height-gt0+in_default w ↦ rw w.forks-is (plumbing_none c.requires l c.loop-v-test.true w.if-height-gt0.true w.in_default.ensures)
      | then-height-gt0+in-Some w ↦ rw (w.forks-is, w.in-Some.ensures.0) (plumbing_some c.requires l c.loop-v-test.true w.if-height-gt0.true (named_some w.in-Some.ensures))
      | else-height-gt0 w ↦ rw w.forks-is (plumbing_root c.requires l c.loop-v-test.true w.if-height-gt0.false)
    ]

pub returns : goal.returns
returns g c = plumbing_done c.requires c.loop-v.invariant c.loop-v-test.false
