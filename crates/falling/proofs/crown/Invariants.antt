-- The tree of the call is the own one.
use Rattle.falling.proofs.crown.Given as goal

abbrev pub ghost-meet : goal.ghost-meet
ghost-meet g a = g.S
