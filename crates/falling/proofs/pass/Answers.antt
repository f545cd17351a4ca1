-- Nothing has passed the line up to v, or something has and b is tied to what stands for the stretch, or the stretch holds nothing.
use native.Mathlib.Omega.{arith}
use Rattle.network.proofs.Naming.{named_some}
use Rattle.falling.proofs.Overtaking.{pass_idle, pass_tieable, pass_tied}
use Rattle.falling.proofs.pass.Goals as goal

pub returns-then-x-jumps : goal.returns-then-x-jumps
returns-then-x-jumps g c = pass_idle c.requires (named_some c.in-Some.ensures) (omega arith)

pub take-requires : goal.take-requires
take-requires g c = rw c.in-Some.ensures.0 (pass_tieable c.requires (named_some c.in-Some.ensures) (omega arith))

pub returns : goal.returns
returns g c = pass_tied c.requires (named_some c.in-Some.ensures) (rw c.in-Some.ensures.0 at c.take.ensures)
