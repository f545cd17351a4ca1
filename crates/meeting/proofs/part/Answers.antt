-- Lines whose ends lie one above the other overlap, so that their tops may be tied.
use native.Mathlib.Omega.{arith}
use Rattle.meeting.proofs.Overlapping.{part_none, part_link, part_tied}
use Rattle.meeting.proofs.part.Goals.{then-x-kept-via-then-x-kept, then-x-kept-via-else-x-kept+then-forks-c}
use Rattle.meeting.proofs.part.Goals as goal

pub returns-then-x-kept : goal.returns-then-x-kept
returns-then-x-kept g c =
    part_none c.requires (λ h. elim c.then-x-kept.branch [ then-x-kept-via-then-x-kept w ↦ absurd (omega arith) | then-x-kept-via-else-x-kept+then-forks-c w ↦ omega arith ])

pub take-requires : goal.take-requires
take-requires g c = part_link (c.requires.facing (omega arith)) (omega arith)

pub returns : goal.returns
returns g c = part_tied (c.requires.facing (omega arith)) c.take.ensures
