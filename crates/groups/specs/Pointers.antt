-- What the columns of a table of groups keep to, and the parity of a line by itself. (Every `Groups` keeps to it, so nothing here mentions that struct.)
use Rattle.std.specs.Prelude.{List, ◌≡◌, ℕ, ◌≤◌, ◌<◌, length}
use Rattle.laws.specs.Lists.{at}
use Rattle.groups.specs.Constraints.{Even}

-- There are 2,048 places in each column, one a line.
abbrev pub Long : List ℕ → List ℕ → List ℕ → List ℕ → Type 0
Long leader parity from to = (length leader ≡ 2048) × (length parity ≡ 2048) × (length from ≡ 2048) × (length to ≡ 2048)

-- No pointer leads up.
abbrev pub PointsDown : List ℕ → Type 0
PointsDown leader = (x : ℕ) → x < 2048 → at leader x ≤ x

-- A line that points to itself lies on its own side.
abbrev pub OwnSide : List ℕ → List ℕ → Type 0
OwnSide leader parity = (x : ℕ) → x < 2048 → at leader x ≡ x → Even (at parity x)

-- A back line, of the kind 1, has 0, and any other line 2.
pub record BaseParity (kind parity : ℕ) : Type 0 where
  pub back : kind ≡ 1 → parity ≡ 0
  pub other : (kind ≡ 1 → ⊥) → parity ≡ 2
