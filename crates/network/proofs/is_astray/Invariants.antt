-- `is_astray` computes its definition: the ends passed so far are vertices.
use Rattle.network.proofs.Checks.{Inside}
use Rattle.network.proofs.is_astray.Given as goal

abbrev pub invariant-loop-end : goal.invariant-loop-end
invariant-loop-end l = Inside l.vertices l.ends l.end-index
