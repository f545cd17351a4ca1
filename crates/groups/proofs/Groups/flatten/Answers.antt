-- `flatten` passes the lines from the front.
use Rattle.groups.proofs.Passing.{flat_drawn, flat_kept, flattened}
use Rattle.groups.proofs.Groups.flatten.Goals as goal
use Rattle.groups.proofs.Groups.flatten.Goals.{then-l-b, else-l-b}

pub loop-b-preserved : goal.loop-b-preserved
loop-b-preserved c =
    elim c.if-l-b.branch [
      | then-l-b w ↦ rw w.self-is (search flat_drawn)
      | else-l-b w ↦ rw w.self-is (search flat_kept)
    ]

pub returns : goal.returns
returns c = search flattened
