-- The lines below k have their side.
use Rattle.fans.specs.Nesting.{Tabulated, side_in}
use Rattle.fans.proofs.nests.sided.Given as goal

abbrev pub invariant-loop-k : goal.invariant-loop-k
invariant-loop-k l = Tabulated (side_in l.lines l.forks l.choice) l.k l.sides
