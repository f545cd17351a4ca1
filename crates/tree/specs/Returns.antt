-- The returns of a line, and its low. (docs/RULES.md, "Returns and lows".)
use Rattle.std.specs.Prelude.{Bool, not, ℕ, min, eqb, ltb}
use mathlib.Core.List.{List, map, foldr}
use Rattle.laws.specs.Tests.{both, either}
use Rattle.laws.specs.Lists.{keep, upto}
use Rattle.tree.specs.Tree.{Tree}

-- The height at which a line ends.
abbrev pub end : Tree → ℕ → ℕ
end S b = S.height (S.target b)

-- b is a back line.
abbrev pub backb : Tree → ℕ → Bool
backb S b = both (S.live b) (not (S.tree b))

-- b is a return of e: a back line by which one gets below the vertex that e leaves, after leaving it by e. So b is e, or e is a tree line and b
-- starts in what is above it.
unfoldable pub returnb : Tree → ℕ → ℕ → Bool
returnb S e b =
    both (backb S b)
    (both (either (eqb b e) (both (S.tree e) (S.above (S.target e) (S.source b))))
    (ltb (end S b) (S.height (S.source e))))

-- The returns of e, by their numbers.
unfoldable pub returns : Tree → ℕ → List ℕ
returns S e = keep (returnb S e) (upto S.lines)

-- The least height at which a return of e ends; where e has none, the height of the vertex that e leaves.
unfoldable pub low : Tree → ℕ → ℕ
low S e = foldr min (S.height (S.source e)) (map (end S) (returns S e))
