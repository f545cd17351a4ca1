-- `fits` computes its definition: all bytes so far are as they should be.
use Rattle.groups.proofs.Filling.{misfit, fitting_all}
use Rattle.groups.proofs.Groups.fits.Goals as goal

pub returns-then-not-fit : goal.returns-then-not-fit
returns-then-not-fit c = search misfit

pub returns : goal.returns
returns c = search fitting_all
