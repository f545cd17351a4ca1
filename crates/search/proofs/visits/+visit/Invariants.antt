-- The loop keeps `Going`, and at each call of itself the unfound vertices and the unused lines are fewer.
use Prim.Native.Nat.{◌+◌, ◌-◌}
use lib.ListN.{length}
use Rattle.network.specs.Network.{network}
use Rattle.search.specs.Inside.{state_of, unfound, untaken, EachCount, Visitable}
use Rattle.search.proofs.Going.{Going}
use Rattle.search.proofs.visits.+visit.Given as goal

abbrev pub decreases-visit : goal.decreases-visit
decreases-visit l = unfound 512 l.finds.now.found + untaken 2048 l.finds.now.kinds

abbrev pub invariant-loop-h : goal.invariant-loop-h
invariant-loop-h l =
    EachCount (λ n. Visitable n l.ends (state_of l.v l.initial.finds))
    (λ n. Going (network n l.ends) (state_of l.v l.initial.finds) l.finds.kinds l.finds.found l.finds.heights l.finds.parents l.h)

abbrev pub decreases-loop-h : goal.decreases-loop-h
decreases-loop-h l = length l.ends - l.h
