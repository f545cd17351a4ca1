-- Which way the round trip of a back line turns, by the order and the meshes that draw writes. (docs/RULES.md, "Choices" and "Meshes".)
-- A mesh is on the left hand of its directions. So a way round that goes anticlockwise has what is inside on its left hand, and the outer mesh is not inside.
use Rattle.std.specs.Prelude.{Bool, List, [], ◌∷◌, map, ℕ, ◌+◌, eqb, ltb, length, get_or}
use Rattle.laws.specs.Tests.{both, either, all}
use Rattle.laws.specs.Counting.{many}
use Rattle.laws.specs.Lists.{keep, upto}
use Rattle.tree.specs.Tree.{Tree}
use Rattle.tree.specs.Returns.{end, backb}
use Rattle.meshes.specs.Meshes.{other_way, leave_by}

pub data WayRound : Type 0 where
  anticlockwise : WayRound
  clockwise : WayRound

-- What may be said of the round trip of a back line: the line; the meshes on its left hand and on its right hand, where it is walked down; which way the
-- trip turns; and those of the network's meshes that are inside.
pub data Trip : Type 0 where
  trip : ℕ → ℕ → ℕ → WayRound → List ℕ → Trip

-- A line as the search takes it: a tree line up, a back line down.
abbrev pub along : Tree → List ℕ → ℕ → ℕ
along S ends e = leave_by ends (S.source e) e

-- The round trip of a back line b, as its directions: down b, and up each tree line from the end of b to its start. (By line numbers; the trip itself
-- goes through them in another order.)
unfoldable pub on_trip : Tree → ℕ → ℕ → Bool
on_trip S b e = either (eqb e b) (both (S.tree e) (both (S.above (S.target e) (S.source b)) (ltb (end S b) (end S e))))

unfoldable pub round_trip : Tree → List ℕ → ℕ → List ℕ
round_trip S ends b = map (along S ends) (keep (on_trip S b) (upto S.lines))

-- The outer mesh. Its corner is at vertex 0, between the last line of the order there and the first: the walk that comes in by the last line goes on by
-- the first. (An order, vertex by vertex, begins with vertex 0's.)
unfoldable pub outer_mesh : List ℕ → List ℕ → List ℕ → ℕ
outer_mesh ends order mesh = get_or mesh (leave_by ends 0 (get_or order 0 0)) 0

-- A way round, as its directions, goes anticlockwise round these meshes and no others: from the right hand of a direction to its left hand one comes
-- inside where the way takes the direction, one comes outside where it takes the opposite one, and nothing changes elsewhere; and the outer mesh is
-- outside.
unfoldable pub encircles : List ℕ → ℕ → List ℕ → List ℕ → Bool
encircles mesh outer way inside =
    both (eqb (many outer inside) 0)
    (all (λ d. eqb (many (get_or mesh (other_way d) 0) inside + many d way) (many (get_or mesh d 0) inside + many (other_way d) way)) (length mesh))

-- What goes round something clockwise goes round it anticlockwise when walked back.
unfoldable pub walked : WayRound → List ℕ → List ℕ
walked anticlockwise way = way
walked clockwise way = map other_way way

-- By an order and the mesh of each direction: this is the outer mesh, and the round trips are as they are said to be.
unfoldable pub tripb : Tree → List ℕ → ℕ → List ℕ → Trip → Bool
tripb S ends outer mesh (trip b on_left on_right way inside) =
    both (backb S b)
    (both (both (eqb (get_or mesh (along S ends b) 0) on_left) (eqb (get_or mesh (other_way (along S ends b)) 0) on_right))
    (encircles mesh outer (walked way (round_trip S ends b)) inside))

unfoldable pub tripsb : Tree → List ℕ → ℕ → List Trip → List ℕ → List ℕ → Bool
tripsb S ends outer [] order mesh = eqb (outer_mesh ends order mesh) outer
tripsb S ends outer (t ∷ trips) order mesh = both (tripb S ends outer mesh t) (tripsb S ends outer trips order mesh)
