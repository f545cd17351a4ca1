-- What the meshes that draw leaves are: closed walks, each direction on one of them. (docs/RULES.md, "Meshes".)
use Rattle.std.specs.Prelude.{List, ◌≡◌, ℕ, ◌+◌, ◌*◌, ◌<◌, eqb}
use Rattle.laws.specs.Counting.{count}
use Rattle.laws.specs.Orbits.{walk}
use Rattle.laws.specs.Lists.{at}
use Rattle.network.specs.Network.{Network}
use Rattle.meshes.specs.Meshes.{next_direction}
use Rattle.drawing.specs.Draw.{clockwise_in}

-- The direction after d, by the order that the choice gives.
abbrev pub after : Network → List ℕ → ℕ → ℕ
after net choice d = next_direction net.ends (clockwise_in net choice) d

-- The buffer of meshes, filled by a drawing with so many.
pub record Walked (net : Network) (choice mesh : List ℕ) (meshes : ℕ) : Type 0 where
  -- Each direction is on one of the meshes, the direction after it is on the same, and no two directions have the same after them.
  pub on_one : (d : ℕ) → d < 2 * net.lines → at mesh d < meshes
  pub goes_on : (d : ℕ) → d < 2 * net.lines → (after net choice d < 2 * net.lines) × (at mesh (after net choice d) ≡ at mesh d)
  pub apart : (d e : ℕ) → d < 2 * net.lines → e < 2 * net.lines → after net choice d ≡ after net choice e → d ≡ e
  -- From a direction of a mesh the walk comes to every other one of it.
  pub one_walk : (d e : ℕ) → d < 2 * net.lines → e < 2 * net.lines → at mesh d ≡ at mesh e → (i : ℕ) × (walk (after net choice) i d ≡ e)
  -- So of all meshes one counts a line along its direction, and one, the same or another, against it.
  pub along : (k : ℕ) → k < net.lines → count (λ j. eqb (at mesh (2 * k)) j) meshes ≡ 1
  pub against : (k : ℕ) → k < net.lines → count (λ j. eqb (at mesh (2 * k + 1)) j) meshes ≡ 1
