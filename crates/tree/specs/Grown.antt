-- What the tables of a finished search obey.
use Rattle.std.specs.Prelude.{List, ◌≡◌, ℕ, suc, ◌-◌, ◌<◌, get_or}
use Rattle.network.specs.Marks.{tree, back}
use Rattle.network.specs.Network.{first, second}
use Rattle.tree.specs.Tree.{higher, lower, climb}

-- A tree line leads one up, to the vertex that it found; a back line leads down, to a vertex on its path to the root.
pub record Grown (n m : ℕ) (ends kind height parent : List ℕ) : Type 0 where
  pub first_in : (l : ℕ) → l < m → first ends l < n
  pub second_in : (l : ℕ) → l < m → second ends l < n
  pub found : (v : ℕ) → v < n → 0 < get_or height v 0 → (get_or parent v 0 < m) × (get_or kind (get_or parent v 0) 0 ≡ tree) × (higher ends height (get_or parent v 0) ≡ v)
  pub up : (t : ℕ) → t < m → get_or kind t 0 ≡ tree → (get_or parent (higher ends height t) 0 ≡ t) × (get_or height (higher ends height t) 0 ≡ suc (get_or height (lower ends height t) 0))
  pub down : (b : ℕ) → b < m → get_or kind b 0 ≡ back → (get_or height (lower ends height b) 0 < get_or height (higher ends height b) 0)
      × (climb ends height parent (get_or height (higher ends height b) 0 - get_or height (lower ends height b) 0) (higher ends height b) ≡ lower ends height b)
