-- The opposite of a side, by cases: each side is the other's, and the two are different.
use mathlib.Core.Path.{◌≡◌}
use Prim.Native.Nat.{ℕ}
use borrow.Author.Tests.{eq-eqb, ne_eqb}
use Rattle.side.specs.Sides.{left, right, opposite}

pub opposite_left : (x : ℕ) → x ≡ left → right ≡ opposite x
unfolding opposite
opposite_left x e = rw (eq-eqb x left e)

pub opposite_other : (x : ℕ) → (x ≡ left → ⊥) → left ≡ opposite x
unfolding opposite
opposite_other x d = rw (ne_eqb x left d)
