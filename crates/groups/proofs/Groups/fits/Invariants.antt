-- `fits` computes its definition: all bytes so far are as they should be.
use Rattle.groups.proofs.Filling.{Fitting}
use Rattle.groups.proofs.Groups.fits.Given as goal

abbrev pub invariant-loop-b : goal.invariant-loop-b
invariant-loop-b l = Fitting l.lines l.b l.self l.choice
