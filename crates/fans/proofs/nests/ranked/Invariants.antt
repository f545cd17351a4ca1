-- The lines below k have their rank.
use Rattle.fans.specs.Nesting.{Tabulated, rank_in}
use Rattle.fans.proofs.nests.ranked.Given as goal

abbrev pub invariant-loop-k : goal.invariant-loop-k
invariant-loop-k l = Tabulated (rank_in l.forks) l.k l.ranks
