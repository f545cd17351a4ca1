-- Each call is asked what it may be asked of a line that nothing has passed; the laws of such a line give the rest.
use Rattle.meeting.proofs.Overlapping.{torn_on}
use Rattle.falling.proofs.Crowning.{crown_meets, crown_keeps, crown_done}
use Rattle.falling.proofs.crown.Goals as goal

pub meet-requires : goal.meet-requires
meet-requires g c = crown_meets c.requires.0 c.requires.1

pub returns-in_err-meet : goal.returns-in_err-meet
returns-in_err-meet g c = torn_on c.in_err-meet.ensures c.from_residual.ensures.1

pub keep-requires : goal.keep-requires
keep-requires g c = crown_keeps c.requires.0 c.requires.1

pub returns : goal.returns
returns g c = crown_done c.requires.0 c.requires.1 c.in_ok-meet.ensures c.keep.ensures c.mark.ensures
