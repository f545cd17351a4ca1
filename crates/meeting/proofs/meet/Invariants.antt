-- The tree of the calls is the own one.
use Rattle.meeting.proofs.meet.Given as goal

abbrev pub ghost-part : goal.ghost-part
ghost-part g a = g.S
