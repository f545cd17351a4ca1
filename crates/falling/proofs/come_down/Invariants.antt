-- The tree of the calls is the own one.
use Rattle.falling.proofs.come_down.Given as goal

abbrev pub ghost-meet : goal.ghost-meet
ghost-meet g a = g.S

abbrev pub ghost-go_down : goal.ghost-go_down
ghost-go_down g a = g.S
