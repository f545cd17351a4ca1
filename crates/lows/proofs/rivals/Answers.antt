-- `rivals` fills its column vertex by vertex.
use Rattle.lows.proofs.Comparing.{comparing_root, comparing_more}
use Rattle.lows.proofs.rivals.Goals as goal
use Rattle.lows.proofs.rivals.Goals.{then-heights-v-gt0, else-heights-v-gt0}

pub loop-v-preserved : goal.loop-v-preserved
loop-v-preserved g c =
    elim c.if-heights-v-gt0.branch [
      | then-heights-v-gt0 w ↦ rw w.jumps-is (comparing_more c.requires c.loop-v.invariant c.loop-v-test.true w.if-heights-v-gt0.true
          c.weigh.ensures w.choose.ensures)
      | else-heights-v-gt0 w ↦ rw w.jumps-is (comparing_root c.requires c.loop-v.invariant c.loop-v-test.true w.if-heights-v-gt0.false)
    ]
