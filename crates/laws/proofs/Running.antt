-- What a loop finds is what the list of those that pass has: its least. By the steps of the loop, each an equation.
use mathlib.Core.Bool.{Bool, true, false}
use mathlib.Core.List.{map, foldr}
use mathlib.Core.Logic.{◌⊎◌, inl, inr, ◌≢◌}
use mathlib.Core.Path.{◌≡◌, refl, ap, subst}
use Prim.Native.Nat.{ℕ, zero, suc, ◌+◌, ◌≤◌, ◌<◌, min}
use native.Mathlib.Omega.{arith}
use Rattle.laws.specs.Counting.{many}
use Rattle.laws.specs.Lists.{from, keep}
use Rattle.laws.specs.Running.{minimum}
use Rattle.laws.proofs.Cases.{cases, bool, eq_or, lt_or}
use Rattle.laws.proofs.Lists.{all_keep, all_kept, all_both, all_many, from_in, from_all, min_le, min_in, min_most}
use Rattle.laws.proofs.Occurring.{many_keep_yes}

-- The numbers below n that pass

module _ (p : ℕ → Bool) (n : ℕ) where
  pub kept_in : (x : ℕ) → x < n → p x ≡ true → 0 < many x (keep p (from 0 n))
  kept_in x h t = omega (arith, many_keep_yes p x (from 0 n) t, from_in 0 n x (omega arith) (omega arith))

  pub kept_of : (x : ℕ) → 0 < many x (keep p (from 0 n)) → (x < n) × (p x ≡ true)
  kept_of x h =
      let q = all_many (λ y. (y < 0 + n) × (p y ≡ true)) x (keep p (from 0 n))
      (all_both (λ y. y < 0 + n) (λ y. p y ≡ true) (keep p (from 0 n)) (all_keep (λ y. y < 0 + n) p (from 0 n) (from_all 0 n)) (all_kept p (from 0 n))) h in
      (omega (arith, q.0), q.1)

module _ (p : ℕ → Bool) (g : ℕ → ℕ) (z : ℕ) where
  -- The least

  pub minimum_yes : (n : ℕ) → p n ≡ true → minimum p g z (suc n) ≡ min (g n) (minimum p g z n)
  unfolding minimum
  minimum_yes n t = rw t

  pub minimum_no : (n : ℕ) → p n ≡ false → minimum p g z (suc n) ≡ minimum p g z n
  unfolding minimum
  minimum_no n f = rw f

  minimum_nil : minimum p g z 0 ≡ z
  unfolding minimum
  minimum_nil = refl

  pub minimum_le : (n x : ℕ) → x < n → p x ≡ true → minimum p g z n ≤ g x
  minimum_le zero x h t = absurd (omega arith)
  minimum_le (suc n) x h t =
      cases (eq_or x n)
      (λ e. let q : g x ≡ g n = ap g e in omega (arith, minimum_yes n (subst (λ y. p y ≡ true) e t)))
      (λ d.
      let d' : x ≢ n = d in
      let r = minimum_le n x (omega arith) t in
      cases (bool (p n)) (λ y. omega (arith, minimum_yes n y)) (λ f. omega (arith, minimum_no n f)))

  pub minimum_most : (n : ℕ) → minimum p g z n ≤ z
  minimum_most zero = omega (arith, minimum_nil)
  minimum_most (suc n) = cases (bool (p n)) (λ y. omega (arith, minimum_yes n y, minimum_most n)) (λ f. omega (arith, minimum_no n f, minimum_most n))

  pub minimum_in : (n : ℕ) → ((x : ℕ) × (x < n) × (p x ≡ true) × (g x ≡ minimum p g z n)) ⊎ (minimum p g z n ≡ z)
  minimum_in zero = inr minimum_nil
  minimum_in (suc n) =
      cases (bool (p n))
      (λ t.
      let s = minimum_yes n t in
      cases (lt_or (g n) (minimum p g z n))
      (λ h. inl (n, omega arith, t, omega arith))
      (λ h. cases (minimum_in n) (λ r. inl (r.0, omega (arith, r.1), r.2, omega (arith, r.3))) (λ e. inr (omega arith))))
      (λ f.
      let s = minimum_no n f in
      cases (minimum_in n) (λ r. inl (r.0, omega (arith, r.1), r.2, omega (arith, r.3))) (λ e. inr (omega arith)))

  pub minimum_is : (n : ℕ) → foldr min z (map g (keep p (from 0 n))) ≡ minimum p g z n
  minimum_is n =
      let l = keep p (from 0 n) in
      let a : foldr min z (map g l) ≤ minimum p g z n =
      cases (minimum_in n) (λ r. omega (arith, min_le g z r.0 l (kept_in p n r.0 r.1 r.2), r.3)) (λ e. omega (arith, min_most g z l)) in
      let b : minimum p g z n ≤ foldr min z (map g l) =
      cases (min_in g z l) (λ r. let q = kept_of p n r.0 r.1 in omega (arith, minimum_le n r.0 q.0 q.1, r.2)) (λ e. omega (arith, minimum_most n)) in
      omega arith
