-- The two sides, what stands where there is none, and what a constraint asks of two lines' sides. (docs/RULES.md, "Choices" and "Rings".)
use Rattle.std.specs.Prelude.{cond, ◌≡◌, ℕ, eqb}
use Rattle.side.specs.declared.Wants.{Wants}
use Rattle.side.specs.declared.Wants.TheVariants.{Same, Different}

abbrev pub left : ℕ
left = 0

abbrev pub right : ℕ
right = 1

-- A tree line has no side.
abbrev pub none : ℕ
none = 2

unfoldable pub opposite : ℕ → ℕ
opposite side = cond (eqb side left) right left

-- A constraint's kind: the two lines lie on the same side, or on different sides.
abbrev pub same : ℕ
same = 0

abbrev pub different : ℕ
different = 1

-- .. as the program has it.
abbrev pub code : Wants → ℕ
code Same = same
code Different = different

abbrev pub Coded : Wants → ℕ → Type 0
Coded wants k = k ≡ code wants
