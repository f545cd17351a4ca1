-- The clockwise order of the lines at each vertex. (docs/RULES.md, "Clockwise order".)
use Rattle.std.specs.Prelude.{Bool, cond, List, [], ◌∷◌, ◌++◌, reverse, ℕ, zero, suc, eqb}
use Rattle.laws.specs.Lists.{keep, upto}
use Rattle.laws.specs.Sorting.{gather}
use Rattle.tree.specs.Tree.{Tree}
use Rattle.fans.specs.Fan.{is_left, is_right, fan}

-- The back lines that a walk up the tree from v comes upon, where it takes the leaving lines of each vertex in their order; at most k vertices deep.
unfoldable pub discovered : Tree → (ℕ → List ℕ) → ℕ → ℕ → List ℕ
discovered S out zero v = []
discovered S out (suc k) v = gather (λ e. cond (S.tree e) (discovered S out k (S.target e)) (e ∷ [])) (out v)

-- The back lines of one side that come in to v from above the tree line e, clockwise: those discovered later stand before.
unfoldable pub incoming : Tree → (ℕ → List ℕ) → (ℕ → Bool) → ℕ → ℕ → List ℕ
incoming S out on_side v e = reverse (keep on_side (keep (λ b. eqb (S.target b) v) (discovered S out S.vertices (S.target e))))

-- A line that leaves v, with its company: a tree line has the left ones that come in from above it on the one hand, the right ones on the other.
unfoldable pub beside : Tree → (ℕ → List ℕ) → (ℕ → ℕ) → ℕ → ℕ → List ℕ
beside S out side v e = cond (S.tree e) (incoming S out (is_left side) v e ++ (e ∷ incoming S out (is_right side) v e)) (e ∷ [])

-- The lines at v, clockwise: the one from its parent, where it has a parent, then the lines that leave, each with those beside it.
unfoldable pub clockwise : Tree → (ℕ → List ℕ) → (ℕ → ℕ) → ℕ → List ℕ
clockwise S out side v = cond (eqb (S.height v) 0) [] (S.parent v ∷ []) ++ gather (beside S out side v) (out v)

-- The order that a choice of sides gives, at each vertex; and vertex by vertex, one list.
abbrev pub order_at : Tree → (ℕ → ℕ) → ℕ → List ℕ
order_at S side = clockwise S (fan S side) side

abbrev pub flat : ℕ → (ℕ → List ℕ) → List ℕ
flat n order = gather order (upto n)
