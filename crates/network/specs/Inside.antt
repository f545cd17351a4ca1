-- What functions inside ask of each other. A reader of the calls' statements need not believe any of it.
use Rattle.std.specs.Prelude.{Option, None, Some, List, ◌≡◌, ℕ, ◌*◌, ◌/◌, ◌≤◌, ◌<◌, get_or, length}
use Rattle.network.specs.Marks.{absent}
use Rattle.network.specs.Network.{Network, first, second}

-- What an entry names: nothing where the mark stands, and else the number that it is.
abbrev pub Names : ℕ → Option ℕ → Type 0
Names h None = h ≡ absent
Names h (Some x) = (x ≡ h) × (x < absent)

-- The ends come in pairs of vertex numbers, not more than the limit.
pub record Paired (ends : List ℕ) : Type 0 where
  pub even : length ends ≡ 2 * (length ends / 2)
  pub few : length ends ≤ 4096
  pub small : (i : ℕ) → i < length ends → get_or ends i 0 < 512

-- The network is within the limits, and no line has equal ends.
pub record Fit (net : Network) : Type 0 where
  pub some_vertex : 0 < net.vertices
  pub few_vertices : net.vertices ≤ 512
  pub few_lines : net.lines ≤ 2048
  pub ends_long : length net.ends ≡ 2 * net.lines
  pub ends_in : (i : ℕ) → i < 2 * net.lines → get_or net.ends i 0 < net.vertices
  pub apart : (k : ℕ) → k < net.lines → first net.ends k ≡ second net.ends k → ⊥
