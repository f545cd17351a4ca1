-- A ring admits no choice. Its test says what a ring is in words, and it is what stands in its places.
use mathlib.Core.Bool.{true, not}
use mathlib.Core.Logic.{◌≢◌}
use mathlib.Core.Path.{◌≡◌, refl, sym, ◌∙◌, ap}
use Prim.Native.Nat.{ℕ, zero, suc, ◌+◌, ◌-◌, ◌%◌, ◌≤◌, ◌<◌}
use native.Mathlib.Omega.{arith}
use lib.Dec.{eqb}
use borrow.Author.Tests.{eq-eqb, ne_eqb, le-leb, eqb-true, eqb-false, leb-true, not-true}
use Rattle.laws.specs.Counting.{count}
use Rattle.laws.proofs.Cases.{cases, eq_or}
use Rattle.laws.proofs.Tests.{both_yes, both_of, either_first, either_second, either_of, all_yes, all_of}
use Rattle.laws.proofs.Counting.{count_zero, count_yes, count_no, count_same}
use Rattle.groups.specs.Constraints.{Constraints, Even, Keeps}
use Rattle.rings.specs.Ring.{apartb, oddb, orderedb, ringb, Ring}

-- The shape

unfoldable pub differents : (ℕ → ℕ) → ℕ → ℕ
differents kind n = count (λ i. eqb (kind i) 1) n

pub differents_none : (kind : ℕ → ℕ) → differents kind 0 ≡ 0
unfolding differents
differents_none kind = count_zero _

pub differents_more : (kind : ℕ → ℕ) (n : ℕ) → kind n ≤ 1 → differents kind (suc n) ≡ kind n + differents kind n
unfolding differents
differents_more kind n h =
    cases (eq_or (kind n) 1)
    (λ e. omega (arith, count_yes (λ i. eqb (kind i) 1) n (eq-eqb (kind n) 1 e)))
    (λ d. let d' : kind n ≢ 1 = d in omega (arith, count_no (λ i. eqb (kind i) 1) n (ne_eqb (kind n) 1 d)))

pub record Shape (n : ℕ) (line kind : ℕ → ℕ) : Type 0 where
  pub two : 2 ≤ n
  pub apart : (i j : ℕ) → i < j → j < n → line i ≡ line j → ⊥
  pub odd : differents kind n % 2 ≡ 1
  pub low : (i : ℕ) → i < n → line 0 ≤ line i
  pub turn : line 1 ≤ line (n - 1)
  pub first : n ≡ 2 → kind 0 ≡ 0

pub ringb_of : (n : ℕ) (line kind : ℕ → ℕ) → Shape n line kind → ringb n line kind ≡ true
unfolding ringb apartb oddb orderedb differents
ringb_of n line kind s =
    both_yes (le-leb 2 n s.two)
    (both_yes
    (all_yes _ n (λ j h. all_yes _ j (λ i o. ap not (ne_eqb (line i) (line j) (s.apart i j o h)))))
    (both_yes
    (eq-eqb _ 1 s.odd)
    (both_yes
    (all_yes _ n (λ i h. le-leb (line 0) (line i) (s.low i h)))
    (both_yes (le-leb (line 1) (line (n - 1)) s.turn)
    (cases (eq_or n 2)
    (λ e. either_second _ _ (eq-eqb (kind 0) 0 (s.first e)))
    (λ d. either_first _ _ (ap not (ne_eqb n 2 d))))))))

pub two_of : (n : ℕ) (line kind : ℕ → ℕ) → ringb n line kind ≡ true → 2 ≤ n
unfolding ringb
two_of n line kind e = leb-true 2 n (both_of e).0

pub apart_of : (n : ℕ) (line kind : ℕ → ℕ) → ringb n line kind ≡ true → (i j : ℕ) → i < j → j < n → line i ≡ line j → ⊥
unfolding ringb apartb
apart_of n line kind e i j h o = eqb-false (line i) (line j) (not-true _ (all_of _ j (all_of _ n (both_of (both_of e).1).0 j o) i h))

odd_of : (n : ℕ) (line kind : ℕ → ℕ) → ringb n line kind ≡ true → differents kind n % 2 ≡ 1
unfolding ringb oddb differents
odd_of n line kind e = eqb-true _ 1 (both_of (both_of (both_of e).1).1).0

shape_of : (n : ℕ) (line kind : ℕ → ℕ) → ringb n line kind ≡ true → Shape n line kind
unfolding ringb apartb oddb orderedb differents
shape_of n line kind e =
    let q = both_of (both_of (both_of (both_of e).1).1).1 in
    let r = both_of q.1 in
    record {
      two = two_of n line kind e;
      apart = apart_of n line kind e;
      odd = odd_of n line kind e;
      low = λ i h. leb-true (line 0) (line i) (all_of _ n q.0 i h);
      turn = leb-true (line 1) (line (n - 1)) r.0;
      first = λ z.
          cases (either_of r.1)
          (λ t. absurd (eqb-false n 2 (not-true _ t) z))
          (λ t. eqb-true (kind 0) 0 t);
    }

-- a ring is what stands in its n places
pub ring_agree : (P : Constraints) (n : ℕ) (line kind line' kind' : ℕ → ℕ) → Ring P n line kind → ((j : ℕ) → j < n → line' j ≡ line j)
    → ((j : ℕ) → j < n → kind' j ≡ kind j) → Ring P n line' kind'
unfolding differents
ring_agree P n line kind line' kind' r a a' =
    let s = shape_of n line kind r.shape in
    let two = s.two in
    record {
      shape =
          ringb_of n line' kind'
          (record {
            two = s.two;
            apart = λ i j h o e. s.apart i j h o (sym (a i (omega arith)) ∙ e ∙ a j o);
            odd = ap (λ (x : ℕ). x % 2) (count_same (λ i. eqb (kind' i) 1) (λ i. eqb (kind i) 1) n (λ i h. ap (λ (x : ℕ). eqb x 1) (a' i h))) ∙ s.odd;
            low = λ i h. omega (arith, a 0 (omega arith), a i h, s.low i h);
            turn = omega (arith, a 1 (omega arith), a (n - 1) (omega arith), s.turn);
            first = λ z. a' 0 (omega arith) ∙ s.first z;
          });
      step = λ i h. rw (a i (omega arith), a (suc i) h, a' i (omega arith)) (r.step i h);
      close = λ i h. rw (a i (omega arith), a 0 (omega arith), a' i (omega arith)) (r.close i h);
    }

-- No choice keeps the constraints of a ring

module _ (P : Constraints) (small : (b d k : ℕ) → P b d k → k ≤ 1) (s : ℕ → ℕ) (keeps : Keeps P s) where
  ring_walk : (n : ℕ) (line kind : ℕ → ℕ) → Ring P n line kind → (i : ℕ) → i < n → Even (s (line 0) + s (line i) + differents kind i)
  ring_walk n line kind r zero h = omega (arith, differents_none kind)
  ring_walk n line kind r (suc i) h =
      let p = r.step i h in
      omega (arith, ring_walk n line kind r i (omega arith), keeps (line i) (line (suc i)) (kind i) p, differents_more kind i (small _ _ _ p))

  pub ring_refutes : (n : ℕ) (line kind : ℕ → ℕ) → Ring P n line kind → ⊥
  ring_refutes zero line kind r = omega (arith, two_of 0 line kind r.shape)
  ring_refutes (suc i) line kind r =
      let p = r.close i refl in
      omega (arith, ring_walk (suc i) line kind r i (omega arith), keeps (line i) (line 0) (kind i) p, differents_more kind i (small _ _ _ p), odd_of (suc i) line kind r.shape)

-- the constraints may be put for others, between different lines
pub ring_map : (P Q : Constraints) (n : ℕ) (line kind : ℕ → ℕ) → ((u v k : ℕ) → (u ≡ v → ⊥) → P u v k → Q u v k) → Ring P n line kind → Ring Q n line kind
ring_map P Q n line kind f r =
    record {
      shape = r.shape;
      step = λ i h. f _ _ _ (apart_of n line kind r.shape i (suc i) (omega arith) h) (r.step i h);
      close = λ i h.
          f _ _ _
          (λ e. apart_of n line kind r.shape 0 i (omega (arith, two_of n line kind r.shape)) (omega arith) (sym e)) (r.close i h);
    }
