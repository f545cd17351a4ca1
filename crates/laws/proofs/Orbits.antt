-- The walks of an injective map of the numbers below n into themselves come back, so that each number stands on one walk, known by the lowest number on it:
-- along a walk the lowest is the same, and two numbers with the same lowest reach each other.
use mathlib.Core.Path.{◌≡◌, refl, sym, ◌∙◌, ap, subst}
use mathlib.Core.Bool.{Bool, true, false, cond}
use mathlib.Core.Logic.{◌⊎◌, inl, inr}
use Prim.Native.Nat.{ℕ, zero, suc, ◌+◌, ◌-◌, ◌≤◌, ◌<◌}
use native.Mathlib.Omega.{arith}
use native.Mathlib.Nat.{zero-add, suc-add}
use lib.Dec.{eqb}
use borrow.Author.Tests.{eq-eqb, eqb-true}
use Rattle.laws.specs.Counting.{count}
use Rattle.laws.specs.Orbits.{walk, lowest_on, leads, walk_number, walks}
use Rattle.laws.proofs.Cases.{cases, bool, true_false, eq_or, lt_or}
use Rattle.laws.proofs.Counting.{count_yes, count_no, count_zero, count_all, count_le, count_eq}

-- Counts

pub count_mono : (p : ℕ → Bool) (x n : ℕ) → x ≤ n → count p x ≤ count p n
count_mono p x zero h = let e : x ≡ 0 = omega arith in rw e (omega arith)
count_mono p x (suc n) h =
    cases (eq_or x (suc n))
    (λ e. rw e (omega arith))
    (λ d.
    let d' : x ≡ suc n → ⊥ = d in
    let r = count_mono p x n (omega arith) in
    cases (bool (p n)) (λ t. omega (arith, count_yes p n t)) (λ g. omega (arith, count_no p n g)))

pub count_few : (p : ℕ → Bool) (n : ℕ) → count p n ≤ n
count_few p zero = omega (arith, count_zero p)
count_few p (suc n) = cases (bool (p n)) (λ t. omega (arith, count_yes p n t, count_few p n)) (λ g. omega (arith, count_no p n g, count_few p n))

pub count_below : (p : ℕ → Bool) (x n : ℕ) → x < n → p x ≡ true → count p x < count p n
count_below p x n h t = omega (arith, count_yes p x t, count_mono p (suc x) n h)

-- Walks

module _ (f : ℕ → ℕ) where
  pub walk_end : (k x : ℕ) → walk f (suc k) x ≡ f (walk f k x)
  unfolding walk
  walk_end zero x = refl
  walk_end (suc k) x = walk_end k (f x)

  pub walk_add : (k j x : ℕ) → walk f (k + j) x ≡ walk f j (walk f k x)
  unfolding walk
  walk_add zero j x = simp zero-add
  walk_add (suc k) j x = simp suc-add (walk_add k j (f x))

  pub lowest_le : (n k x : ℕ) → k ≤ n → lowest_on f n x ≤ walk f k x
  unfolding walk lowest_on
  lowest_le zero zero x h = omega arith
  lowest_le zero (suc k) x h = absurd (omega arith)
  lowest_le (suc n) zero x h = omega arith
  lowest_le (suc n) (suc k) x h = omega (arith, lowest_le n k (f x) (omega arith))

  pub lowest_in : (n x : ℕ) → (k : ℕ) × (k ≤ n) × (walk f k x ≡ lowest_on f n x)
  unfolding walk lowest_on
  lowest_in zero x = (0, omega arith, refl)
  lowest_in (suc n) x =
      let r = lowest_in n (f x) in
      cases (lt_or x (lowest_on f n (f x)))
      (λ h. (0, omega arith, omega arith))
      (λ h. (suc r.0, omega arith, omega (arith, r.2)))

-- x is a number below n that passes the test
pub record In (n : ℕ) (on : ℕ → Bool) (x : ℕ) : Type 0 where
  pub below : x < n
  pub yes : on x ≡ true

-- a map of the numbers below n that pass the test, injective
pub record Turn (n : ℕ) (on : ℕ → Bool) (f : ℕ → ℕ) : Type 0 where
  pub stays : (x : ℕ) → In n on x → In n on (f x)
  pub apart : (x y : ℕ) → In n on x → In n on y → f x ≡ f y → x ≡ y

-- a search below n
pub find : (p : ℕ → Type 0) → ((k : ℕ) → p k ⊎ (p k → ⊥)) → (n : ℕ) → ((k : ℕ) × (k < n) × p k) ⊎ ((k : ℕ) → k < n → p k → ⊥)
find p dec zero = inr (λ k h _. omega arith)
find p dec (suc n) =
    cases (find p dec n)
    (λ r. inl (r.0, omega arith, r.2))
    (λ none. cases (dec n)
    (λ y. inl (n, omega arith, y))
    (λ no'. inr (λ k h y. cases (eq_or k n) (λ e. no' (rw e at y)) (λ d. let d' : k ≡ n → ⊥ = d in none k (omega arith) y))))

module _ (n : ℕ) (on : ℕ → Bool) (f : ℕ → ℕ) (T : Turn n on f) where
  pub walk_stays : (k x : ℕ) → In n on x → In n on (walk f k x)
  unfolding walk
  walk_stays zero x h = h
  walk_stays (suc k) x h = walk_stays k (f x) (T.stays x h)

  pub walk_apart : (k x y : ℕ) → In n on x → In n on y → walk f k x ≡ walk f k y → x ≡ y
  unfolding walk
  walk_apart zero x y h g e = e
  walk_apart (suc k) x y h g e = T.apart x y h g (walk_apart k (f x) (f y) (T.stays x h) (T.stays y g) e)

  none_apart : (x : ℕ) → In n on x → ((k : ℕ) → k < n → walk f (suc k) x ≡ x → ⊥) → (i j : ℕ) → i < j → j < suc n → walk f i x ≡ walk f j x → ⊥
  none_apart x h none i j l g e =
      let d = j - suc i in
      let s : j ≡ suc d + i = omega arith in
      let e' : walk f i x ≡ walk f i (walk f (suc d) x) = e ∙ ap (λ m. walk f m x) s ∙ walk_add f (suc d) i x in
      none d (omega arith) (sym (walk_apart i x (walk f (suc d) x) h (walk_stays (suc d) x h) e'))

  none_never : (x : ℕ) → In n on x → ((k : ℕ) → k < n → walk f (suc k) x ≡ x → ⊥) → ⊥
  none_never x h none =
      omega (
        arith,
        count_all n,
        count_all (suc n),
        count_le (λ i y. walk f i x ≡ y) (λ i. true) (λ i. true) (suc n) n
            (λ i g t. (walk f i x, (walk_stays i x h).below, refl, refl))
            (λ i j y g g' e e'.
            cases (lt_or i j)
            (λ l. absurd (none_apart x h none i j l g' (e ∙ sym e')))
            (λ l. cases (lt_or j i) (λ l'. absurd (none_apart x h none j i l' g (e' ∙ sym e))) (λ l'. omega arith))),
      )

  -- the walk comes back within n steps
  pub comes_back : (x : ℕ) → In n on x → (k : ℕ) × (k < n) × (walk f (suc k) x ≡ x)
  comes_back x h =
      cases (find (λ k. walk f (suc k) x ≡ x) (λ k. eq_or _ _) n)
      (λ r. r)
      (λ none. absurd (none_never x h none))

  -- the lowest is the same all along a walk
  pub lowest_step : (x : ℕ) → In n on x → lowest_on f n (f x) ≡ lowest_on f n x
  unfolding walk
  lowest_step x h =
      let b = comes_back x h in
      let u : lowest_on f n (f x) ≤ lowest_on f n x = down b in
      let v : lowest_on f n x ≤ lowest_on f n (f x) = up b in
      omega arith
    where
      down : (k : ℕ) × (k < n) × (walk f (suc k) x ≡ x) → lowest_on f n (f x) ≤ lowest_on f n x
      down b = go (lowest_in f n x)
        where
          go : (k : ℕ) × (k ≤ n) × (walk f k x ≡ lowest_on f n x) → lowest_on f n (f x) ≤ lowest_on f n x
          go (zero, l, e) = omega (arith, lowest_le f n b.0 (f x) (omega arith), b.2)
          go (suc k, l, e) = omega (arith, lowest_le f n k (f x) (omega arith))

      up : (k : ℕ) × (k < n) × (walk f (suc k) x ≡ x) → lowest_on f n x ≤ lowest_on f n (f x)
      up b =
          let r = lowest_in f n (f x) in
          let p = suc b.0 in
          cases (lt_or r.0 n)
          (λ l. omega (arith, lowest_le f n (suc r.0) x l))
          (λ l.
          let s : suc r.0 ≡ p + (n - b.0) = omega (arith, r.1) in
          let e : walk f r.0 (f x) ≡ walk f (n - b.0) x = ap (λ m. walk f m x) s ∙ walk_add f p (n - b.0) x ∙ ap (walk f (n - b.0)) b.2 in
          omega (arith, lowest_le f n (n - b.0) x (omega arith)))

  pub lowest_walk : (k x : ℕ) → In n on x → lowest_on f n (walk f k x) ≡ lowest_on f n x
  unfolding walk
  lowest_walk zero x h = refl
  lowest_walk (suc k) x h = lowest_walk k (f x) (T.stays x h) ∙ lowest_step x h

  pub lowest_under : (x : ℕ) → lowest_on f n x ≤ x
  unfolding walk
  lowest_under x = lowest_le f n 0 x (omega arith)

  pub lowest_stays : (x : ℕ) → In n on x → In n on (lowest_on f n x)
  lowest_stays x h = let r = lowest_in f n x in rw r.2 at (walk_stays r.0 x h)

  pub lowest_lowest : (x : ℕ) → In n on x → lowest_on f n (lowest_on f n x) ≡ lowest_on f n x
  lowest_lowest x h = let r = lowest_in f n x in ap (lowest_on f n) (sym r.2) ∙ lowest_walk r.0 x h

  -- what a step keeps, the lowest has
  pub lowest_keeps : {A : Type 0} (q : ℕ → A) → ((x : ℕ) → In n on x → q (f x) ≡ q x) → (x : ℕ) → In n on x → q (lowest_on f n x) ≡ q x
  unfolding walk
  lowest_keeps {A} q keeps x h = let r = lowest_in f n x in ap q (sym r.2) ∙ along r.0 x h
    where
      along : (k x : ℕ) → In n on x → q (walk f k x) ≡ q x
      along zero x h = refl
      along (suc k) x h = along k (f x) (T.stays x h) ∙ keeps x h

  pub leads_both : (x : ℕ) → leads on f n x ≡ true → (on x ≡ true) × (lowest_on f n x ≡ x)
  leads_both x e =
      cases (bool (on x))
      (λ t. (t, eqb-true (lowest_on f n x) x (subst (λ b. cond b (eqb (lowest_on f n x) x) false ≡ true) t e)))
      (λ g. true_false (subst (λ b. cond b (eqb (lowest_on f n x) x) false ≡ true) g e) refl)

  pub leads_lowest : (x : ℕ) → In n on x → leads on f n (lowest_on f n x) ≡ true
  leads_lowest x h = rw ((lowest_stays x h).yes, eq-eqb _ _ (lowest_lowest x h))

  -- As many walks as representatives: r 0, .., r (m - 1), of which those count that pass the test t, where every walk meets one, and what tells
  -- the representatives apart is the same all along a walk.
  pub orbits : {A : Type 0} (m : ℕ) (t : ℕ → Bool) (r : ℕ → ℕ) (q : ℕ → A)
      → ((j : ℕ) → j < m → t j ≡ true → In n on (r j))
      → ((x : ℕ) → In n on x → (k j : ℕ) × (j < m) × (t j ≡ true) × (walk f k x ≡ r j))
      → ((x : ℕ) → In n on x → q (f x) ≡ q x)
      → ((i j : ℕ) → i < m → j < m → t i ≡ true → t j ≡ true → q (r i) ≡ q (r j) → i ≡ j)
      → walks on f n ≡ count t m
  orbits m t r q inside meets keeps tells =
      count_eq (λ x j. (x ≡ lowest_on f n x) × (lowest_on f n x ≡ lowest_on f n (r j))) (λ j x. (t j ≡ true) × (lowest_on f n (r j) ≡ x)) (leads on f n) t n m
      (λ x h e.
      let l = leads_both x e in
      let X : In n on x = record { below = h; yes = l.0 } in
      let w = meets x X in
      (w.1, w.2, w.3, (sym l.1, sym (lowest_walk w.0 x X) ∙ ap (lowest_on f n) w.4)))
      (λ x x' j h h' u u'. u.0 ∙ u.1 ∙ sym u'.1 ∙ sym u'.0)
      (λ j h e. let X = lowest_stays (r j) (inside j h e) in (lowest_on f n (r j), X.below, leads_lowest (r j) (inside j h e), (e, refl)))
      (λ i j x h h' u u'. tells i j h h' u.0 u'.0
      (sym (lowest_keeps q keeps (r i) (inside i h u.0)) ∙ ap q (u.1 ∙ sym u'.1) ∙ lowest_keeps q keeps (r j) (inside j h' u'.0)))

  -- A loop that walks from d and marks: k steps from d nothing was met twice, and now something marked is met, marked before the walk or in it. It is d.
  pub meets_start : (Marked : ℕ → Type 0) → ((x : ℕ) → In n on x → Marked (f x) → Marked x) → (d k : ℕ) → In n on d → (Marked d → ⊥)
      → ((i j : ℕ) → i < j → j < k → walk f i d ≡ walk f j d → ⊥)
      → Marked (walk f k d) ⊎ ((i : ℕ) × (i < k) × (walk f i d ≡ walk f k d))
      → walk f k d ≡ d
  unfolding walk
  meets_start Marked back d k h new fresh met = cases met (λ m. absurd (new (all_back k d h m))) (λ r. again k fresh r.0 r.1 r.2)
    where
      all_back : (k x : ℕ) → In n on x → Marked (walk f k x) → Marked x
      all_back zero x h m = m
      all_back (suc k) x h m = back x h (all_back k (f x) (T.stays x h) m)

      again : (k : ℕ) → ((i j : ℕ) → i < j → j < k → walk f i d ≡ walk f j d → ⊥) → (i : ℕ) → i < k → walk f i d ≡ walk f k d → walk f k d ≡ d
      again k fresh zero l e = sym e
      again zero fresh (suc i) l e = absurd (omega arith)
      again (suc k) fresh (suc i) l e =
          absurd (fresh i k (omega arith) (omega arith)
          (T.apart _ _ (walk_stays i d h) (walk_stays k d h) (sym (walk_end f i d) ∙ e ∙ walk_end f k d)))

  reach_back : (j x : ℕ) → In n on x → (i : ℕ) × (walk f i (walk f j x) ≡ x)
  unfolding walk
  reach_back zero x h = (0, refl)
  reach_back (suc j) x h =
      let r = reach_back j (f x) (T.stays x h) in
      let b = comes_back x h in
      (r.0 + b.0, walk_add f r.0 b.0 _ ∙ ap (walk f b.0) r.1 ∙ b.2)

  -- what shares the lowest is reached
  pub reach : (d x : ℕ) → In n on d → In n on x → lowest_on f n x ≡ lowest_on f n d → (i : ℕ) × (walk f i d ≡ x)
  reach d x h g l =
      let a = lowest_in f n d in
      let c = lowest_in f n x in
      let r = reach_back c.0 x g in
      (a.0 + r.0, walk_add f a.0 r.0 d ∙ ap (walk f r.0) (a.2 ∙ sym l ∙ sym c.2) ∙ r.1)

  reduce : (d k j : ℕ) → walk f (suc k) d ≡ d → (i : ℕ) × (i < suc k) × (walk f i d ≡ walk f j d)
  unfolding walk
  reduce d k zero e = (0, omega arith, refl)
  reduce d k (suc j) e =
      let r = reduce d k j e in
      let s : walk f (suc r.0) d ≡ walk f (suc j) d = walk_end f r.0 d ∙ ap f r.2 ∙ sym (walk_end f j d) in
      cases (eq_or r.0 k)
      (λ q. (0, omega arith, sym e ∙ ap (λ m. walk f (suc m) d) (sym q) ∙ s))
      (λ q. let q' : r.0 ≡ k → ⊥ = q in (suc r.0, omega (arith, r.1), s))

  -- back at d after k + 1 steps: whatever shares d's lowest was met
  pub all_met : (d k x : ℕ) → In n on d → In n on x → walk f (suc k) d ≡ d → lowest_on f n x ≡ lowest_on f n d → (i : ℕ) × (i < suc k) × (walk f i d ≡ x)
  all_met d k x h g e l =
      let r = reach d x h g l in
      let s = reduce d k r.0 e in
      (s.0, s.1, s.2 ∙ r.1)

  pub number_below : (x : ℕ) → In n on x → walk_number on f n x < walks on f n
  number_below x h = count_below (leads on f n) (lowest_on f n x) n (lowest_stays x h).below (leads_lowest x h)

  -- a loop over d that numbers whole walks: where the walks with a lowest below d are done and d is not, d leads
  pub leads_new : (d : ℕ) → (lowest_on f n d < d → ⊥) → lowest_on f n d ≡ d
  leads_new d new = cases (lt_or (lowest_on f n d) d) (λ h. absurd (new h)) (λ h. omega (arith, lowest_under d))
