-- The fan of a vertex: the lines that leave it, clockwise. (docs/RULES.md, "Clockwise order".)
use Rattle.std.specs.Prelude.{Bool, cond, not, List, ◌++◌, reverse, ℕ, ◌+◌, ◌*◌, eqb, length}
use Rattle.laws.specs.Tests.{both}
use Rattle.laws.specs.Lists.{keep, upto}
use Rattle.laws.specs.Sorting.{sort}
use Rattle.side.specs.Sides.{left, right}
use Rattle.tree.specs.Tree.{Tree}
use Rattle.tree.specs.Returns.{returns, low}
use Rattle.fork.specs.Ends.{more, top}

-- The side of a line: a back line has its own; a tree line has that of its return with the highest end, or right where it has no return.
unfoldable pub side_of : Tree → (ℕ → ℕ) → ℕ → ℕ
side_of S side e = cond (S.tree e) (cond (eqb (length (returns S e)) 0) right (side (top S e))) (side e)

abbrev pub is_left : (ℕ → ℕ) → ℕ → Bool
is_left side e = eqb (side e) left

abbrev pub is_right : (ℕ → ℕ) → ℕ → Bool
is_right side e = not (is_left side e)

-- The lines that leave v, by their numbers.
unfoldable pub leaving : Tree → ℕ → List ℕ
leaving S v = keep (λ e. both (S.live e) (eqb (S.source e) v)) (upto S.lines)

-- They nest by a rank: the low first, and where that is equal a line with several heights after those with one or none. Equal ranks go by number.
unfoldable pub rank : Tree → ℕ → ℕ
rank S e = 2 * low S e + more S e

unfoldable pub nested : Tree → ℕ → List ℕ
nested S v = sort (rank S) (leaving S v)

-- Clockwise: the left ones, what nests first standing last, and after them the right ones as they nest.
unfoldable pub fan : Tree → (ℕ → ℕ) → ℕ → List ℕ
fan S side v = reverse (keep (is_left (side_of S side)) (nested S v)) ++ keep (is_right (side_of S side)) (nested S v)
