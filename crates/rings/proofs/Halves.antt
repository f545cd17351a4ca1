-- The two half-steps of a joining lead from each of its lines to the other; and the chains of half-steps, as the code lays them.
use mathlib.Core.Logic.{inl, inr}
use mathlib.Core.Path.{◌≡◌, sym, ◌∙◌, ap}
use Prim.Native.Nat.{ℕ, ◌+◌, ◌*◌, ◌/◌, ◌%◌, ◌<◌}
use native.Mathlib.Omega.{arith}
use borrow.Author.Tests.{eq-eqb, ne_eqb}
use Rattle.laws.specs.Chains.{Chainable}
use Rattle.laws.proofs.Cases.{cases, eq_or}
use Rattle.groups.specs.Groups.{columns}
use Rattle.groups.specs.declared.Groups.{Groups}
use Rattle.rings.specs.Flooding.{WithinLines, Step, leaves, arrives}

-- The ends of a half_step

module _ (g : Groups) (s : ℕ) where
  leaves_even : s % 2 ≡ 0 → leaves g s ≡ (columns g).from (s / 2)
  unfolding leaves
  leaves_even e = rw (eq-eqb (s % 2) 0 e)

  leaves_odd : (s % 2 ≡ 0 → ⊥) → leaves g s ≡ (columns g).to (s / 2)
  unfolding leaves
  leaves_odd n = rw (ne_eqb (s % 2) 0 n)

  arrives_even : s % 2 ≡ 0 → arrives g s ≡ (columns g).to (s / 2)
  unfolding arrives
  arrives_even e = rw (eq-eqb (s % 2) 0 e)

  arrives_odd : (s % 2 ≡ 0 → ⊥) → arrives g s ≡ (columns g).from (s / 2)
  unfolding arrives
  arrives_odd n = rw (ne_eqb (s % 2) 0 n)

-- A half_step goes along a joining

module _ (lines : ℕ) (g : Groups) where
  pub half_step : (s : ℕ) → s < 2 * lines → Step lines (columns g) (leaves g s) (arrives g s)
  half_step s h =
      cases (eq_or (s % 2) 0)
      (λ e. inl (record { place = s / 2; within = omega arith; is_from = sym (leaves_even g s e); is_to = sym (arrives_even g s e) }))
      (λ n. inr (record { place = s / 2; within = omega arith; is_from = sym (arrives_odd g s n); is_to = sym (leaves_odd g s n) }))

  -- .. and each joining has one from either line
  pub half_of : (u v : ℕ) → Step lines (columns g) u v → (s : ℕ) × (s < 2 * lines) × (leaves g s ≡ u) × (arrives g s ≡ v)
  half_of u v (inl j) =
      let e = j.place in
      let h = j.within in
      let z : 2 * e % 2 ≡ 0 = omega arith in
      let q : 2 * e / 2 ≡ e = omega arith in
      (2 * e, omega arith, leaves_even g (2 * e) z ∙ ap (columns g).from q ∙ j.is_from, arrives_even g (2 * e) z ∙ ap (columns g).to q ∙ j.is_to)
  half_of u v (inr j) =
      let e = j.place in
      let h = j.within in
      let z : (2 * e + 1) % 2 ≡ 0 → ⊥ = λ y. omega arith in
      let q : (2 * e + 1) / 2 ≡ e = omega arith in
      (2 * e + 1, omega arith, leaves_odd g (2 * e + 1) z ∙ ap (columns g).to q ∙ j.is_to, arrives_odd g (2 * e + 1) z ∙ ap (columns g).from q ∙ j.is_from)

module _ (lines : ℕ) (g : Groups) (w : WithinLines lines g) (s : ℕ) (h : s < 2 * lines) where
  pub leaves_inside : leaves g s < lines
  leaves_inside =
      let i = w.inside (s / 2) (omega arith) in
      cases (eq_or (s % 2) 0)
      (λ e. rw (leaves_even g s e) i.0)
      (λ n. rw (leaves_odd g s n) i.1)

  pub arrives_inside : arrives g s < lines
  arrives_inside =
      let i = w.inside (s / 2) (omega arith) in
      cases (eq_or (s % 2) 0)
      (λ e. rw (arrives_even g s e) i.1)
      (λ n. rw (arrives_odd g s n) i.0)

-- Chains

pub chainable : (lines : ℕ) (g : Groups) → WithinLines lines g → Chainable 2048 4096 (2 * lines) (leaves g)
chainable lines g w =
    record { few = omega (arith, w.few); small = λ s h. omega (arith, leaves_inside lines g w s h, w.few) }
