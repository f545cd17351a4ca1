-- A line's two directions are each other's reverse, and one of them leaves each end; what follows a member of a cyclic list, by its place.
use mathlib.Core.Bool.{true}
use mathlib.Core.List.{List, [], ◌∷◌}
use mathlib.Core.Logic.{◌⊎◌, inl, inr, ◌≢◌}
use mathlib.Core.Path.{◌≡◌, refl, sym, ◌∙◌, ap}
use Prim.Native.Nat.{ℕ, zero, suc, ◌+◌, ◌*◌, ◌-◌, ◌/◌, ◌%◌, ◌≤◌, ◌<◌}
use native.Mathlib.Omega.{arith}
use lib.ListN.{length, get_or, get_or-eq_default}
use borrow.Author.Tests.{eq-eqb, ne_eqb, lt-ltb, le-ltb}
use Rattle.laws.specs.Counting.{many}
use Rattle.laws.proofs.Cases.{cases, eq_or, lt_or}
use Rattle.laws.proofs.Counting.{many_here, many_other}
use Rattle.laws.proofs.Places.{many_at}
use Rattle.network.specs.Network.{Network, first, touches}
use Rattle.network.specs.Inside.{Fit}
use Rattle.network.proofs.Lines.{touches_first, touches_second, touches_of}
use Rattle.meshes.specs.Meshes.{other_way, leave_by, follow_in, follow}
use Rattle.meshes.specs.Inside.{place_after}

-- The other way

pub other_way_even : (d : ℕ) → d % 2 ≡ 0 → other_way d ≡ suc d
unfolding other_way
other_way_even d e = rw (eq-eqb (d % 2) 0 e)

pub other_way_odd : (d : ℕ) → d % 2 ≡ 1 → other_way d ≡ d - 1
unfolding other_way
other_way_odd d e = rw (ne_eqb (d % 2) 0 (λ z. omega arith))

pub parity : (d : ℕ) → (d % 2 ≡ 0) ⊎ (d % 2 ≡ 1)
parity d = cases (eq_or (d % 2) 0) (λ e. inl e) (λ n. let n' : d % 2 ≢ 0 = n in inr (omega arith))

pub other_way_twice : (d : ℕ) → other_way (other_way d) ≡ d
other_way_twice d =
    cases (parity d)
    (λ e. rw (other_way_even d e) (other_way_odd (suc d) (omega arith) ∙ omega arith))
    (λ e. rw (other_way_odd d e) (other_way_even (d - 1) (omega arith) ∙ omega arith))

pub other_way_half : (d : ℕ) → other_way d / 2 ≡ d / 2
other_way_half d = cases (parity d) (λ e. rw (other_way_even d e) (omega arith)) (λ e. rw (other_way_odd d e) (omega arith))

pub other_way_below : (d m : ℕ) → d < 2 * m → other_way d < 2 * m
other_way_below d m h = cases (parity d) (λ e. rw (other_way_even d e) (omega arith)) (λ e. rw (other_way_odd d e) (omega arith))

-- the line's two directions
pub two : (d e : ℕ) → d / 2 ≡ e / 2 → (d ≡ e) ⊎ (d ≡ other_way e)
two d e q =
    cases (parity e)
    (λ x. cases (parity d) (λ y. inl (omega arith)) (λ y. inr (omega (arith, other_way_even e x))))
    (λ x. cases (parity d) (λ y. inr (omega (arith, other_way_odd e x))) (λ y. inl (omega arith)))

-- The direction that leaves an end

pub leave_first : (ends : List ℕ) (v k : ℕ) → first ends k ≡ v → leave_by ends v k ≡ 2 * k
unfolding leave_by
leave_first ends v k e = rw (eq-eqb (first ends k) v e)

pub leave_second : (ends : List ℕ) (v k : ℕ) → (first ends k ≡ v → ⊥) → leave_by ends v k ≡ 2 * k + 1
unfolding leave_by
leave_second ends v k e = rw (ne_eqb (first ends k) v e)

pub leave_half : (ends : List ℕ) (v k : ℕ) → leave_by ends v k / 2 ≡ k
leave_half ends v k =
    cases (eq_or (first ends k) v)
    (λ e. rw (leave_first ends v k e) (omega arith))
    (λ e. rw (leave_second ends v k e) (omega arith))

pub leave_below : (ends : List ℕ) (v k m : ℕ) → k < m → leave_by ends v k < 2 * m
leave_below ends v k m h = omega (arith, leave_half ends v k)

pub leave_one : (ends : List ℕ) (v x y : ℕ) → leave_by ends v x ≡ leave_by ends v y → x ≡ y
leave_one ends v x y e = sym (leave_half ends v x) ∙ ap (λ (d : ℕ). d / 2) e ∙ leave_half ends v y

-- it does leave v
pub leave_from : (ends : List ℕ) (v k : ℕ) → touches ends v k ≡ true → get_or ends (leave_by ends v k) 0 ≡ v
leave_from ends v k t =
    cases (eq_or (first ends k) v)
    (λ e. rw (leave_first ends v k e) e)
    (λ d. rw (leave_second ends v k d) (cases (touches_of ends v k t) (λ e. absurd (d e)) (λ e. e)))

module _ (net : Network) (fit : Fit net) where
  abbrev ends : List ℕ
  ends = net.ends

  -- a direction leaves an end of its line, and is the one that leaves it
  pub from_end : (d : ℕ) → touches ends (get_or ends d 0) (d / 2) ≡ true
  from_end d =
      cases (parity d)
      (λ e. let q : 2 * (d / 2) ≡ d = omega arith in touches_first ends (get_or ends d 0) (d / 2) (ap (λ (x : ℕ). get_or ends x 0) q))
      (λ e. let q : 2 * (d / 2) + 1 ≡ d = omega arith in touches_second ends (get_or ends d 0) (d / 2) (ap (λ (x : ℕ). get_or ends x 0) q))

  pub from_leaves : (d : ℕ) → d < 2 * net.lines → leave_by ends (get_or ends d 0) (d / 2) ≡ d
  from_leaves d h =
      cases (parity d)
      (λ e. let q : 2 * (d / 2) ≡ d = omega arith in leave_first ends (get_or ends d 0) (d / 2) (ap (λ (x : ℕ). get_or ends x 0) q) ∙ q)
      (λ e.
      let q : 2 * (d / 2) + 1 ≡ d = omega arith in
      leave_second ends (get_or ends d 0) (d / 2) (λ z. fit.apart (d / 2) (omega arith) (z ∙ sym (ap (λ (x : ℕ). get_or ends x 0) q))) ∙ q)

-- What follows in a cyclic list

pub after_more : (n i : ℕ) → suc i < n → place_after n i ≡ suc i
unfolding place_after
after_more n i h = rw (lt-ltb (suc i) n h)

pub after_last : (n i : ℕ) → n ≤ suc i → place_after n i ≡ 0
unfolding place_after
after_last n i h = rw (le-ltb (suc i) n h)

pub after_in : (n i : ℕ) → i < n → place_after n i < n
after_in n i h = cases (lt_or (suc i) n) (λ g. rw (after_more n i g) g) (λ g. rw (after_last n i g) (omega arith))

pub after_one : (n i j : ℕ) → i < n → j < n → place_after n i ≡ place_after n j → i ≡ j
after_one n i j h g e =
    cases (lt_or (suc i) n)
    (λ a.
    cases (lt_or (suc j) n)
    (λ b. omega (arith, after_more n i a, after_more n j b))
    (λ b. absurd (omega (arith, after_more n i a, after_last n j b))))
    (λ a.
    cases (lt_or (suc j) n)
    (λ b. absurd (omega (arith, after_last n i a, after_more n j b)))
    (λ b. omega arith))

follow_in_at : (first : ℕ) (r : List ℕ) → ((z : ℕ) → many z r ≤ 1) → (i : ℕ) → i < length r → follow_in first r (get_or r i 0) ≡ get_or r (suc i) first
unfolding follow_in
follow_in_at first [] o i h = absurd (omega arith)
follow_in_at first (y ∷ r) o zero h = rw (eq-eqb y y refl)
follow_in_at first (y ∷ r) o (suc i) h =
    let x = get_or r i 0 in
    let d : y ≡ x → ⊥ = λ e. omega (arith, many_here x y r e, many_at 0 r i (omega arith), o x) in
    rw (ne_eqb y x d) (follow_in_at first r (λ z. cases (eq_or y z) (λ e. omega (arith, many_here z y r e, o z)) (λ n. omega (arith, many_other z y r n, o z))) i (omega arith))

default : (r : List ℕ) (i a b : ℕ) → i < length r → get_or r i a ≡ get_or r i b
default [] i a b h = absurd (omega arith)
default (x ∷ r) zero a b h = refl
default (x ∷ r) (suc i) a b h = default r i a b (omega arith)

pub follow_at : (r : List ℕ) → ((z : ℕ) → many z r ≤ 1) → (i : ℕ) → i < length r → follow r (get_or r i 0) ≡ get_or r (place_after (length r) i) 0
follow_at r o i h =
    follow_in_at (get_or r 0 0) r o i h
    ∙ cases (lt_or (suc i) (length r))
    (λ g. rw (after_more (length r) i g) (default r (suc i) (get_or r 0 0) 0 g))
    (λ g. rw (after_last (length r) i g) (get_or-eq_default r (get_or r 0 0) g))
