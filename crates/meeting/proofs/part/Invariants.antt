-- The tree of the call is the own one.
use Rattle.meeting.proofs.part.Given as goal

abbrev pub ghost-take : goal.ghost-take
ghost-take g a = g.S
