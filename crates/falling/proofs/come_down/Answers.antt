-- The line meets its fork, and goes on.
use Rattle.links.proofs.Outcomes.{outcome_after}
use Rattle.meeting.proofs.Overlapping.{torn_on}
use Rattle.falling.proofs.Descending.{own_meeting, own_met}
use Rattle.falling.proofs.come_down.Goals as goal

pub meet-requires : goal.meet-requires
meet-requires g c = own_meeting c.requires

pub returns-in_err-meet : goal.returns-in_err-meet
returns-in_err-meet g c = torn_on c.in_err-meet.ensures c.from_residual.ensures.1

pub go_down-requires : goal.go_down-requires
go_down-requires g c = own_met c.requires c.in_ok-meet.ensures

pub returns : goal.returns
returns g c = outcome_after c.in_ok-meet.ensures c.go_down.ensures
