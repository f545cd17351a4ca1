-- What orient says. (docs/RULES.md, "Orient".)
use Rattle.std.specs.Prelude.{Bool, List, ◌≡◌, ℕ, ◌/◌, ltb, length, take}
use Rattle.laws.specs.Tests.{either}
use Rattle.laws.specs.Counting.{many}
use Rattle.laws.specs.Lists.{filled}
use Rattle.network.specs.Network.{Network, network}
use Rattle.network.specs.Numbers.{done, Checked, Untouched, pair}
use Rattle.network.specs.Numbers.{Answer}
use Rattle.network.specs.Marks.{back}
use Rattle.search.specs.Machine.{finished}

-- How many back lines a network has.
unfoldable pub back_lines : Network → ℕ
back_lines net = many back (take net.lines (finished net).kind)

-- 3: room for less than a byte a line, or for less than a height a vertex.
unfoldable pub cramped : ℕ → List ℕ → List ℕ → List ℕ → Bool
cramped n ends kinds heights = either (ltb (length kinds) (length ends / 2)) (ltb (length heights) n)

-- With 0, the number of back lines, what each line is, and each vertex's height.
pub record Oriented (net : Network) (kinds heights : List ℕ) (r : Answer) (kinds' heights' : List ℕ) : Type 0 where
  pub answers : r ≡ done (back_lines net) 0
  pub each_kind : kinds' ≡ filled net.lines (finished net).kind kinds
  pub each_height : heights' ≡ filled net.vertices (finished net).height heights

abbrev pub Orient : ℕ → List ℕ → List ℕ → List ℕ → Answer → List ℕ → List ℕ → Type 0
Orient n ends kinds heights r kinds' heights' =
    Checked n ends (cramped n ends kinds heights) (Untouched (pair kinds heights) r (pair kinds' heights')) (Oriented (network n ends) kinds heights r kinds' heights')
