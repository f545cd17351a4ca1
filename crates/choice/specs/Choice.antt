-- Choices. (docs/RULES.md, "Choices".)
use Rattle.std.specs.Prelude.{false, ◌≡◌, ℕ, ◌<◌}
use Rattle.laws.specs.Dictionary.{Before}
use Rattle.side.specs.Sides.{none}
use Rattle.tree.specs.Tree.{Tree}
use Rattle.tree.specs.Returns.{backb}
use Rattle.fork.specs.Fork.{Legal, Aligned}

-- Some choice obeys the fork rule.
abbrev pub Drawable : Tree → Type 0
Drawable S = (side : ℕ → ℕ) × Legal S side

-- A choice as it is written: aligned, and with no side where there is no back line.
pub record Proper (S : Tree) (c : ℕ → ℕ) : Type 0 where
  pub no_side : (k : ℕ) → k < S.lines → backb S k ≡ false → c k ≡ none
  pub aligned : Aligned S c

-- Some aligned choice comes later than c.
abbrev pub Outdone : Tree → (ℕ → ℕ) → Type 0
Outdone S c = (d : ℕ → ℕ) × Proper S d × Before S.lines c d
