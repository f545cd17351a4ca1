-- A line that has met the two kept has met all.
use Rattle.meeting.proofs.Overlapping.{first_beside, second_beside, meeting_then, meet_both, torn_on}
use Rattle.meeting.proofs.meet.Goals as goal

pub part-requires : goal.part-requires
part-requires g c = first_beside c.requires

pub returns-in_err-part : goal.returns-in_err-part
returns-in_err-part g c = torn_on c.in_err-part.ensures c.from_residual.ensures.1

pub part-requires-2 : goal.part-requires-2
part-requires-2 g c = second_beside (meeting_then c.requires c.in_ok-part.ensures)

pub returns : goal.returns
returns g c = meet_both c.requires c.in_ok-part.ensures c.part-2.ensures
