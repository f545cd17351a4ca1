-- The words of a tree as propositions. (docs/RULES.md, "Returns and lows".)
use Rattle.std.specs.Prelude.{true, false, ◌⊎◌, ◌≡◌, ℕ, ◌<◌}
use Rattle.tree.specs.Tree.{Tree}
use Rattle.tree.specs.Returns.{end}

-- k is a line in service, a tree line, a back line.
pub record Line (S : Tree) (k : ℕ) : Type 0 where
  pub below : k < S.lines
  pub yes : S.live k ≡ true

abbrev pub TreeLine : Tree → ℕ → Type 0
TreeLine S t = Line S t × (S.tree t ≡ true)

abbrev pub BackLine : Tree → ℕ → Type 0
BackLine S b = Line S b × (S.tree b ≡ false)

-- x stands at or above u.
abbrev pub Above : Tree → ℕ → ℕ → Type 0
Above S u x = S.above u x ≡ true

-- f leaves v.
pub record Leaves (S : Tree) (v f : ℕ) : Type 0 where
  pub line : Line S f
  pub from : S.source f ≡ v

-- b is a return of f.
pub record Return (S : Tree) (f b : ℕ) : Type 0 where
  pub is_back : BackLine S b
  pub via : (b ≡ f) ⊎ ((S.tree f ≡ true) × Above S (S.target f) (S.source b))
  pub below : end S b < S.height (S.source f)
