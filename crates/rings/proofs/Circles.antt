-- A circle of lines, of whose steps one alone does not agree with some sides, is a ring when it is read from its lowest line to the lower neighbour:
-- the circle is turned to begin there, and read backwards where that is the lower one.
use mathlib.Core.Logic.{◌⊎◌, inl, inr, ◌≢◌}
use mathlib.Core.Path.{◌≡◌, ◌∙◌, ap}
use Prim.Native.Nat.{ℕ, zero, suc, ◌+◌, ◌-◌, ◌%◌, ◌≤◌, ◌<◌}
use native.Mathlib.Omega.{arith}
use borrow.Author.Tests.{lt-ltb, le-ltb}
use Rattle.laws.proofs.Cases.{cases, eq_or, lt_or}
use Rattle.groups.specs.Constraints.{Constraints, Even}
use Rattle.rings.specs.Rings.{wrap}
use Rattle.rings.specs.Ring.{Ring}
use Rattle.rings.proofs.Rings.{differents, differents_none, differents_more, ringb_of}

-- Places round a circle

pub wrap_low : (n i : ℕ) → i < n → wrap n i ≡ i
unfolding wrap
wrap_low n i h = rw (lt-ltb i n h)

pub wrap_high : (n i : ℕ) → n ≤ i → wrap n i ≡ i - n
unfolding wrap
wrap_high n i h = rw (le-ltb i n h)

-- the two, as one sum for `omega`
pub wrap_or : (n i : ℕ) → ((i < n) × (wrap n i ≡ i)) ⊎ ((n ≤ i) × (wrap n i ≡ i - n))
wrap_or n i = cases (lt_or i n) (λ h. inl (h, wrap_low n i h)) (λ h. inr (h, wrap_high n i h))

pub wrap_next : (n m j : ℕ) → m < n → j < n → wrap n (suc (wrap n (m + j))) ≡ wrap n (m + wrap n (suc j))
wrap_next n m j hm hj =
    cases (wrap_or n (m + j))
    (λ a. rw a.1
    (cases (wrap_or n (suc j))
    (λ b. rw b.1 (ap (wrap n) (omega arith)))
    (λ b. rw b.1 (cases (wrap_or n (suc (m + j))) (λ c. omega (arith, a.0, b.0, c.0)) (λ c. omega (arith, a.0, b.0, c.1, wrap_low n (m + (suc j - n)) (omega (arith, b.0))))))))
    (λ a. rw a.1
    (cases (wrap_or n (suc j))
    (λ b. rw b.1 (omega (arith, wrap_low n (suc (m + j - n)) (omega (arith, a.0, b.0)), wrap_high n (m + suc j) (omega (arith, a.0)), a.0)))
    (λ b. rw b.1 (omega (arith, wrap_low n (suc (m + j - n)) (omega (arith, a.0, b.0)), wrap_low n (m + (suc j - n)) (omega (arith, b.0)), a.0, b.0)))))

pub wrap_back : (n m j : ℕ) → m < n → j < n → wrap n (suc (wrap n (m + n - suc j))) ≡ wrap n (m + n - j)
wrap_back n m j hm hj =
    cases (wrap_or n (m + n - suc j))
    (λ a. rw a.1 (ap (wrap n) (omega arith)))
    (λ a. rw a.1 (omega (arith, a.0, wrap_low n (suc (m + n - suc j - n)) (omega (arith, a.0)), wrap_high n (m + n - j) (omega (arith, a.0)))))

pub wrap_last : (n m j : ℕ) → m < n → j < n → wrap n (m + n - wrap n (suc j)) ≡ wrap n (m + n - suc j)
wrap_last n m j hm hj =
    cases (wrap_or n (suc j))
    (λ a. rw a.1)
    (λ a. rw a.1 (omega (arith, a.0, wrap_high n (m + n - (suc j - n)) (omega (arith, a.0)), wrap_low n (m + n - suc j) (omega (arith, a.0)))))

pub wrap_within : (n i : ℕ) → i < n + n → wrap n i < n
wrap_within n i h = cases (wrap_or n i) (λ a. omega (arith, a.0, a.1)) (λ a. omega (arith, a.0, a.1))

-- Circles

-- a step of the kind k from u to v; it agrees with the sides s but where i is t
pub record Hop (Q : Constraints) (s : ℕ → ℕ) (t i k u v : ℕ) : Type 0 where
  pub link : Q u v k
  pub small : k ≤ 1
  pub even : (i ≡ t → ⊥) → Even (s u + s v + k)
  pub odd : i ≡ t → (s u + s v + k) % 2 ≡ 1

pub record Circle (Q : Constraints) (s : ℕ → ℕ) (n t : ℕ) (line kind : ℕ → ℕ) : Type 0 where
  pub two : 2 ≤ n
  pub within : t < n
  pub apart : (i j : ℕ) → i < n → j < n → line i ≡ line j → i ≡ j
  pub hop : (i : ℕ) → i < n → Hop Q s t i (kind i) (line i) (line (wrap n (suc i)))

module _ (Q : Constraints) (s : ℕ → ℕ) (n t : ℕ) (line kind : ℕ → ℕ) (c : Circle Q s n t line kind) where
  hop_on : (i : ℕ) → suc i < n → Hop Q s t i (kind i) (line i) (line (suc i))
  hop_on i h = rw (wrap_low n (suc i) h) at (c.hop i (omega arith))

  hop_home : (i : ℕ) → suc i ≡ n → Hop Q s t i (kind i) (line i) (line 0)
  hop_home i h =
      let z : wrap n (suc i) ≡ 0 = wrap_high n (suc i) (omega arith) ∙ omega arith in
      rw z at (c.hop i (omega arith))

  -- the sum turns odd at t
  circle_walk : (i : ℕ) → i < n → (i ≤ t → Even (s (line 0) + s (line i) + differents kind i)) × (t < i → (s (line 0) + s (line i) + differents kind i) % 2 ≡ 1)
  circle_walk zero h = (λ o. omega (arith, differents_none kind), λ o. absurd (omega arith))
  circle_walk (suc i) h =
      let w = circle_walk i (omega arith) in
      let p = hop_on i h in
      let m = differents_more kind i p.small in (
        λ o. omega (arith, w.0 (omega arith), p.even (λ e. omega arith)),
        λ o.
            cases (eq_or i t)
            (λ e. omega (arith, w.0 (omega arith), p.odd e))
            (λ d. let d' : i ≢ t = d in omega (arith, w.1 (omega arith), p.even d)),
      )

  circle_odd : (i : ℕ) → suc i ≡ n → differents kind n % 2 ≡ 1
  circle_odd i h =
      let w = circle_walk i (omega arith) in
      let p = hop_home i h in
      let m = differents_more kind i p.small in
      rw (← h)
      (cases (eq_or i t)
      (λ e. omega (arith, w.0 (omega arith), p.odd e))
      (λ d. let d' : i ≢ t = d in omega (arith, w.1 (omega (arith, c.within)), p.even d)))

  pub circle_ring : ((i : ℕ) → i < n → line 0 ≤ line i) → line 1 ≤ line (n - 1) → (n ≡ 2 → kind 0 ≡ 0) → Ring Q n line kind
  circle_ring low turn first =
      record {
        shape =
            ringb_of n line kind
            (record {
              two = c.two;
              apart = λ i j h o e. omega (arith, c.apart i j (omega arith) o e);
              odd = circle_odd (n - 1) (omega (arith, c.two));
              low = low;
              turn = turn;
              first = first;
            });
        step = λ i h. (hop_on i h).link;
        close = λ i h. (hop_home i h).link;
      }

module _ (Q : Constraints) (turned : (u v k : ℕ) → Q u v k → Q v u k) (s : ℕ → ℕ) (n : ℕ) (line kind : ℕ → ℕ) (c : Circle Q s n (n - 1) line kind)
    (m : ℕ) (hm : m < n) where
  -- begun at m
  up_circle : Circle Q s n (n - 1 - m) (λ j. line (wrap n (m + j))) (λ j. kind (wrap n (m + j)))
  up_circle =
      record {
        two = c.two;
        within = omega (arith, c.two);
        apart = λ i j hi hj e.
            let q = c.apart (wrap n (m + i)) (wrap n (m + j)) (wrap_within n (m + i) (omega arith)) (wrap_within n (m + j) (omega arith)) e in
            cases (wrap_or n (m + i))
            (λ a. cases (wrap_or n (m + j)) (λ b. omega (arith, a.1, b.1)) (λ b. omega (arith, a.0, a.1, b.0, b.1)))
            (λ a. cases (wrap_or n (m + j)) (λ b. omega (arith, a.0, a.1, b.0, b.1)) (λ b. omega (arith, a.0, a.1, b.0, b.1)));
        hop = λ j hj.
            let p = c.hop (wrap n (m + j)) (wrap_within n (m + j) (omega arith)) in
            let e = wrap_next n m j hm hj in
            let o = wrap_or n (m + j) in
            record {
              link = rw (← e) p.link;
              small = p.small;
              even = λ d.
                  let d' : j ≢ n - 1 - m = d in
                  rw (← e) (p.even (cases o (λ a z. omega (arith, a.1)) (λ a z. omega (arith, a.0, a.1))));
              odd = λ z. rw (← e) (p.odd (cases o (λ a. omega (arith, a.1)) (λ a. absurd (omega (arith, a.0, a.1)))));
            };
      }

  -- .. and read backwards
  down_circle : Circle Q s n m (λ j. line (wrap n (m + n - j))) (λ j. kind (wrap n (m + n - suc j)))
  down_circle =
      record {
        two = c.two;
        within = hm;
        apart = λ i j hi hj e.
            let q = c.apart (wrap n (m + n - i)) (wrap n (m + n - j)) (wrap_within n (m + n - i) (omega arith)) (wrap_within n (m + n - j) (omega arith)) e in
            cases (wrap_or n (m + n - i))
            (λ a. cases (wrap_or n (m + n - j)) (λ b. omega (arith, a.1, b.1)) (λ b. omega (arith, a.0, a.1, b.0, b.1)))
            (λ a. cases (wrap_or n (m + n - j)) (λ b. omega (arith, a.0, a.1, b.0, b.1)) (λ b. omega (arith, a.0, a.1, b.0, b.1)));
        hop = λ j hj.
            let p = c.hop (wrap n (m + n - suc j)) (wrap_within n (m + n - suc j) (omega arith)) in
            let e = wrap_back n m j hm hj in
            let f = wrap_last n m j hm hj in
            let o = wrap_or n (m + n - suc j) in
            let p' : Hop Q s (n - 1) (wrap n (m + n - suc j)) (kind (wrap n (m + n - suc j))) (line (wrap n (m + n - suc j))) (line (wrap n (m + n - j))) = rw e at p in
            record {
              link = rw f (turned _ _ _ p'.link);
              small = p'.small;
              even = λ d.
                  let d' : j ≢ m = d in
                  rw f (let z = p'.even (cases o (λ a z. omega (arith, a.1)) (λ a z. omega (arith, a.0, a.1))) in omega arith);
              odd = λ z. rw f (let y = p'.odd (cases o (λ a. omega (arith, a.1)) (λ a. absurd (omega (arith, a.0, a.1)))) in omega arith);
            };
      }

  -- from its lowest line, to the lower neighbour
  module _ (low : (i : ℕ) → i < n → line m ≤ line i) where
    at_m : wrap n (m + 0) ≡ m
    at_m = ap (wrap n) (omega arith) ∙ wrap_low n m hm

    at_m' : wrap n (m + n - 0) ≡ m
    at_m' = wrap_high n (m + n - 0) (omega arith) ∙ omega arith

    pub up_ring : line (wrap n (m + 1)) ≤ line (wrap n (m + n - 1)) → (n ≡ 2 → kind m ≡ 0)
        → Ring Q n (λ j. line (wrap n (m + j))) (λ j. kind (wrap n (m + j)))
    up_ring turn first =
        circle_ring Q s n (n - 1 - m) (λ j. line (wrap n (m + j))) (λ j. kind (wrap n (m + j))) up_circle
        (λ i h. rw at_m (low (wrap n (m + i)) (wrap_within n (m + i) (omega arith))))
        (let e : m + (n - 1) ≡ m + n - 1 = omega (arith, c.two) in rw e turn)
        (λ e. rw at_m (first e))

    pub down_ring : line (wrap n (m + n - 1)) ≤ line (wrap n (m + 1)) → (n ≡ 2 → kind m ≡ 0 → ⊥)
        → Ring Q n (λ j. line (wrap n (m + n - j))) (λ j. kind (wrap n (m + n - suc j)))
    down_ring turn first =
        circle_ring Q s n m (λ j. line (wrap n (m + n - j))) (λ j. kind (wrap n (m + n - suc j))) down_circle
        (λ i h. rw at_m' (low (wrap n (m + n - i)) (wrap_within n (m + n - i) (omega arith))))
        (let e : m + n - (n - 1) ≡ m + 1 = omega (arith, c.two) in rw e turn)
        other
      where
        -- of two steps one is odd, so one is "same"
        other : n ≡ 2 → kind (wrap n (m + n - 1)) ≡ 0
        other e =
            let d : kind m ≢ 0 = first e in
            let i = wrap n (m + n - 1) in
            let p = c.hop m hm in
            let q = c.hop i (wrap_within n (m + n - 1) (omega arith)) in
            let f : wrap n (suc m) ≡ i = ap (wrap n) (omega arith) in
            let g : wrap n (suc i) ≡ m = wrap_back n m 0 hm (omega arith) ∙ at_m' in
            let p' : Hop Q s (n - 1) m (kind m) (line m) (line i) = rw f at p in
            let q' : Hop Q s (n - 1) i (kind i) (line i) (line m) = rw g at q in
            cases (eq_or m (n - 1))
            (λ z. omega (arith, p'.odd z, p'.small, q'.small, q'.even (λ y. omega (arith, wrap_high n (m + n - 1) (omega arith)))))
            (λ z.
            let z' : m ≢ n - 1 = z in
            omega (arith, p'.even z, p'.small, q'.small, q'.odd (wrap_low n (m + n - 1) (omega arith) ∙ omega arith)))
