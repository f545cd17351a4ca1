-- All rings of a network, by a test: it goes from each line along the constraints, no line twice, and looks at every round that closes. So every ring
-- is looked at, and where only one passes for a ring, it is the only one.
use mathlib.Core.Bool.{Bool, true, false, not}
use mathlib.Core.List.{List, [], ◌∷◌, map}
use mathlib.Core.Logic.{◌≢◌}
use mathlib.Core.Path.{◌≡◌, refl, sym, ap, ◌∙◌, subst}
use Prim.Native.Nat.{ℕ, zero, suc, ◌-◌, ◌<◌}
use native.Mathlib.Omega.{arith}
use lib.Dec.{eqb}
use lib.ListN.{length, length-map}
use borrow.Author.Tests.{eqb-true, eq-eqb}
use Rattle.laws.specs.Tests.{both, either, all}
use Rattle.laws.specs.Counting.{many}
use Rattle.laws.proofs.Cases.{cases, true_false, eq_or}
use Rattle.laws.proofs.Tests.{both_yes, both_of, all_of}
use Rattle.laws.proofs.Counting.{many_nil, many_other}
use Rattle.laws.proofs.Wherever.{implies_of}
use Rattle.laws.specs.Lists.{at, Agree}
use Rattle.tree.specs.Tree.{Tree}
use Rattle.fork.specs.Fork.{Constraint}
use Rattle.rings.proofs.Rings.{apart_of, two_of, ring_agree}
use Rattle.rings.specs.Ring.{ringb, Ring}
use Rattle.trials.specs.Tests.{agreeb, constraintb}
use Rattle.trials.specs.Trials.{step_lines, step_kinds}
use Rattle.trials.proofs.Choosing.{agree_of}
use Rattle.trials.proofs.Ringing.{within, kinds, constraint_yes}

module _ (S : Tree) (test : List (ℕ × ℕ) → Bool) where
  -- From the first line some steps have led along constraints to b. Every round that comes of this with no line twice passes the test, where it
  -- closes; false where so many further steps do not see the end of all.
  unfoldable pub goes_onb : ℕ → ℕ → List (ℕ × ℕ) → ℕ → Bool
  goes_onb first zero steps b = false
  goes_onb first (suc fuel) steps b =
      all
      (λ k.
      both (either (not (constraintb S b first k)) (test ((b, k) ∷ steps)))
      (all (λ c. either (not (both (constraintb S b c k) (eqb (many c (b ∷ step_lines steps)) 0))) (goes_onb first fuel ((b, k) ∷ steps) c)) S.lines))
      2

  unfoldable pub roundsb : Bool
  roundsb = all (λ b. goes_onb b S.lines [] b) S.lines

-- The steps of a round before step i, the last first

abbrev so_far : (ℕ → ℕ) → (ℕ → ℕ) → ℕ → List (ℕ × ℕ)
so_far line kind zero = []
so_far line kind (suc i) = (line i, kind i) ∷ so_far line kind i

so_far_long : (line kind : ℕ → ℕ) (i : ℕ) → length (so_far line kind i) ≡ i
so_far_long line kind zero = refl
so_far_long line kind (suc i) = ap suc (so_far_long line kind i)

fresh : (line kind : ℕ → ℕ) (c i : ℕ) → ((j : ℕ) → j < i → line j ≡ c → ⊥) → many c (step_lines (so_far line kind i)) ≡ 0
fresh line kind c zero f = many_nil c
fresh line kind c (suc i) f = many_other c (line i) (step_lines (so_far line kind i)) (f i (omega arith)) ∙ fresh line kind c i (λ j h. f j (omega arith))

backwards_is : (f : ℕ × ℕ → ℕ) (line kind : ℕ → ℕ) (n i : ℕ) → i < n → at (map f (so_far line kind n)) (n - suc i) ≡ f (line i, kind i)
backwards_is f line kind zero i h = absurd (omega arith)
backwards_is f line kind (suc n) i h =
    cases (eq_or i n)
    (λ e.
    let z : suc n - suc i ≡ 0 = omega arith in
    rw (z, e) refl)
    (λ d.
    let d' : i ≢ n = d in
    let z : suc n - suc i ≡ suc (n - suc i) = omega arith in
    rw z (backwards_is f line kind n i (omega arith)))

-- Every ring is looked at

module _ (S : Tree) (test : List (ℕ × ℕ) → Bool) (n : ℕ) (line kind : ℕ → ℕ) (r : Ring (Constraint S) n line kind) where
  further : (i fuel : ℕ) → suc i < n → goes_onb S test (line 0) fuel (so_far line kind i) (line i) ≡ true
      → (left : ℕ) × (goes_onb S test (line 0) left (so_far line kind (suc i)) (line (suc i)) ≡ true)
  unfolding goes_onb
  further i zero h t = true_false t refl
  further i (suc fuel) h t =
      let q = r.step i h in
      let w = kinds S (line i) (line (suc i)) (kind i) q in
      let new = fresh line kind (line (suc i)) (suc i) (λ j k e. apart_of n line kind r.shape j (suc i) k h e) in (
        fuel,
        implies_of (all_of _ S.lines (both_of (all_of _ 2 t (kind i) (omega arith))).1 (line (suc i)) (within S (line i) (line (suc i)) (kind i) q).1)
            (both_yes (constraint_yes S (line i) (line (suc i)) (kind i) q) (eq-eqb _ 0 new)),
      )

  closes : (i fuel : ℕ) → suc i ≡ n → goes_onb S test (line 0) fuel (so_far line kind i) (line i) ≡ true → test (so_far line kind (suc i)) ≡ true
  unfolding goes_onb
  closes i zero h t = true_false t refl
  closes i (suc fuel) h t =
      let q = r.close i h in
      let w = kinds S (line i) (line 0) (kind i) q in
      implies_of (both_of (all_of _ 2 t (kind i) (omega arith))).0 (constraint_yes S (line i) (line 0) (kind i) q)

  goes : roundsb S test ≡ true → (i : ℕ) → i < n → (fuel : ℕ) × (goes_onb S test (line 0) fuel (so_far line kind i) (line i) ≡ true)
  unfolding roundsb
  goes t zero h =
      let two = two_of n line kind r.shape in
      (S.lines, all_of _ S.lines t (line 0) (within S (line 0) (line 1) (kind 0) (r.step 0 (omega arith))).0)
  goes t (suc i) h = let g = goes t i (omega arith) in further i g.0 h g.1

  looked_at : roundsb S test ≡ true → test (so_far line kind n) ≡ true
  looked_at t = whole n refl
    where
      whole : (m : ℕ) → m ≡ n → test (so_far line kind m) ≡ true
      whole zero e = let two = two_of n line kind r.shape in absurd (omega arith)
      whole (suc i) e = let g = goes t i (omega arith) in closes i g.0 e g.1

-- One ring only

-- what stands at the i-th place of a list that has its last place first
abbrev backwards : List ℕ → ℕ → ℕ
backwards l i = at l (length l - suc i)

-- where some steps, the last first, are a ring, they are these steps
unfoldable pub these : List (ℕ × ℕ) → List (ℕ × ℕ) → Bool
these steps s =
    either (not (ringb (length s) (backwards (step_lines s)) (backwards (step_kinds s))))
    (both (eqb (length s) (length steps))
    (both (agreeb (length s) (backwards (step_lines s)) (at (step_lines steps))) (agreeb (length s) (backwards (step_kinds s)) (at (step_kinds steps)))))

module _ (S : Tree) (steps : List (ℕ × ℕ)) (t : roundsb S (these steps) ≡ true) where
  pub only_ring : (n : ℕ) (line kind : ℕ → ℕ) → Ring (Constraint S) n line kind → (n ≡ length steps) × Agree n line (at (step_lines steps)) × Agree n kind (at (step_kinds steps))
  unfolding these
  only_ring n line kind r =
      let s = so_far line kind n in
      let long = so_far_long line kind n in
      let is_line : Agree n (backwards (step_lines s)) line = λ i h.
      ap (λ (k : ℕ). at (step_lines s) (k - suc i)) (length-map s (λ step. step.0) ∙ long) ∙ backwards_is (λ step. step.0) line kind n i h in
      let is_kind : Agree n (backwards (step_kinds s)) kind = λ i h.
      ap (λ (k : ℕ). at (step_kinds s) (k - suc i)) (length-map s (λ step. step.1) ∙ long) ∙ backwards_is (λ step. step.1) line kind n i h in
      let again = ring_agree (Constraint S) n line kind (backwards (step_lines s)) (backwards (step_kinds s)) r is_line is_kind in
      let q = both_of (implies_of (looked_at S (these steps) n line kind r t) (subst (λ (m : ℕ). ringb m (backwards (step_lines s)) (backwards (step_kinds s)) ≡ true) (sym long) again.shape)) in
      let u = both_of q.1 in (
        sym long ∙ eqb-true _ _ q.0,
        λ i h. sym (is_line i h) ∙ agree_of _ _ (length s) u.0 i (omega (arith, long)),
        λ i h. sym (is_kind i h) ∙ agree_of _ _ (length s) u.1 i (omega (arith, long)),
      )
