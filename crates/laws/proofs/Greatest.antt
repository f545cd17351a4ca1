-- The greatest of a list's values under g, and of z.
use mathlib.Core.List.{List, [], ◌∷◌, map, foldr}
use mathlib.Core.Logic.{◌⊎◌, inl, inr}
use mathlib.Core.Path.{◌≡◌, refl, ap}
use Prim.Native.Nat.{ℕ, ◌≤◌, ◌<◌, max}
use native.Mathlib.Omega.{arith}
use Rattle.laws.specs.Counting.{many}
use Rattle.laws.proofs.Cases.{cases, eq_or, lt_or}
use Rattle.laws.proofs.Counting.{many_nil, many_here, many_other, many_cons}

module _ (g : ℕ → ℕ) (z : ℕ) where
  pub max_le : (b : ℕ) (l : List ℕ) → 0 < many b l → g b ≤ foldr max z (map g l)
  max_le b [] h = absurd (omega (arith, many_nil b))
  max_le b (x ∷ l) h =
      cases (eq_or x b)
      (λ e. let q : g x ≡ g b = ap g e in omega arith)
      (λ d. omega (arith, max_le b l (omega (arith, many_other b x l d))))

  pub max_in : (l : List ℕ) → ((b : ℕ) × (0 < many b l) × (g b ≡ foldr max z (map g l))) ⊎ (foldr max z (map g l) ≡ z)
  max_in [] = inr refl
  max_in (x ∷ l) =
      cases (lt_or (foldr max z (map g l)) (g x))
      (λ h. inl (x, omega (arith, many_here x x l refl), omega arith))
      (λ h. cases (max_in l)
      (λ r. inl (r.0, omega (arith, many_cons r.0 x l, r.1), omega (arith, r.2)))
      (λ r. inr (omega arith)))
