-- Laws of `many` and `count`. One law does most of the work: where each x that is p has a y of its own that is q, there are not more p than q.
use mathlib.Core.Bool.{Bool, true, false, cond, not}
use mathlib.Core.List.{List, [], ◌∷◌, ◌++◌}
use mathlib.Core.Path.{◌≡◌, refl, sym, ◌∙◌, ap}
use Prim.Native.Nat.{ℕ, zero, suc, ◌+◌, ◌≤◌, ◌<◌}
use native.Mathlib.Nat.{le_of_suc-le-suc, not-suc-le-zero}
use native.Mathlib.Omega.{arith}
use lib.Dec.{eqb}
use lib.ListN.{get_or, set, length, take}
use lib.Seq.{take-suc, get_or-take, take-set-lt, length-take-le}
use borrow.Author.Tests.{eq-eqb, ne_eqb}
use Rattle.laws.specs.Counting.{bit, many, count}
use Rattle.laws.proofs.Cases.{cases, bool, eq_or}

-- many

pub many_nil : (x : ℕ) → many x [] ≡ 0
unfolding many
many_nil x = refl

pub many_here : (x y : ℕ) (l : List ℕ) → y ≡ x → many x (y ∷ l) ≡ suc (many x l)
unfolding many
many_here x y l e = rw (eq-eqb y x e) (omega arith)

pub many_other : (x y : ℕ) (l : List ℕ) → (y ≡ x → ⊥) → many x (y ∷ l) ≡ many x l
unfolding many
many_other x y l e = rw (ne_eqb y x e) (omega arith)

pub many_cons : (x y : ℕ) (l : List ℕ) → many x (y ∷ l) ≡ many x (y ∷ []) + many x l
unfolding many
many_cons x y l = omega arith

pub many_le : (x : ℕ) (l : List ℕ) → many x l ≤ length l
unfolding many
many_le x [] = omega arith
many_le x (y ∷ l) =
    cases (bool (eqb y x))
    (λ t. rw t (omega (arith, many_le x l)))
    (λ f. rw f (omega (arith, many_le x l)))

-- one x fewer
pub many_set : (x y : ℕ) (l : List ℕ) (i : ℕ) → i < length l → get_or l i 0 ≡ x → (y ≡ x → ⊥) → suc (many x (set l i y)) ≡ many x l
unfolding many
many_set x y [] i h e d = absurd (not-suc-le-zero h)
many_set x y (z ∷ l) zero h e d = rw (ne_eqb y x d, eq-eqb z x e) (omega arith)
many_set x y (z ∷ l) (suc i) h e d = omega (arith, many_set x y l i (le_of_suc-le-suc h) e d)

-- .. among the first n
pub many_take_set : (x y n : ℕ) (l : List ℕ) (i : ℕ) → n ≤ length l → i < n → get_or l i 0 ≡ x → (y ≡ x → ⊥) → suc (many x (take n (set l i y))) ≡ many x (take n l)
many_take_set x y n l i long h e d =
    let same : length (take n l) ≡ n = length-take-le n l long in
    rw (take-set-lt n l i y h) (many_set x y (take n l) i (omega arith) (get_or-take n l i 0 h ∙ e) d)

-- count

pub count_zero : (p : ℕ → Bool) → count p 0 ≡ 0
unfolding count
count_zero p = refl

pub count_yes : (p : ℕ → Bool) (n : ℕ) → p n ≡ true → count p (suc n) ≡ suc (count p n)
unfolding count
count_yes p n e = rw e (omega arith)

pub count_no : (p : ℕ → Bool) (n : ℕ) → p n ≡ false → count p (suc n) ≡ count p n
unfolding count
count_no p n e = rw e (omega arith)

pub count_same : (p q : ℕ → Bool) (n : ℕ) → ((x : ℕ) → x < n → p x ≡ q x) → count p n ≡ count q n
unfolding count
count_same p q zero h = refl
count_same p q (suc n) h = rw (h n (omega arith), count_same p q n (λ x k. h x (omega arith)))

pub count_all : (n : ℕ) → count (λ x. true) n ≡ n
unfolding count
count_all zero = refl
count_all (suc n) = omega (arith, count_all n)

-- the test, but for y
abbrev but : (ℕ → Bool) → ℕ → ℕ → Bool
but q y x = cond (eqb x y) false (q x)

but_other : (q : ℕ → Bool) (x y : ℕ) → (x ≡ y → ⊥) → but q y x ≡ q x
but_other q x y d = rw (ne_eqb x y d)

but_self : (q : ℕ → Bool) (y : ℕ) → but q y y ≡ false
but_self q y = rw (eq-eqb y y refl)

count_but : (q : ℕ → Bool) (y m : ℕ) → y < m → q y ≡ true → count q m ≡ suc (count (but q y) m)
count_but q y zero h t = absurd (omega arith)
count_but q y (suc m) h t =
    cases (eq_or m y)
    (λ e.
    let tm : q m ≡ true = rw e t in
    let bm : but q y m ≡ false = rw e (but_self q y) in
    let sm : count q m ≡ count (but q y) m = count_same q (but q y) m (λ x k. sym (but_other q x y (λ e'. omega arith))) in
    omega (arith, count_yes q m tm, count_no (but q y) m bm))
    (λ d.
    let r = count_but q y m (let d' : m ≡ y → ⊥ = d in omega arith) t in
    cases (bool (q m))
    (λ tm. omega (arith, count_yes q m tm, count_yes (but q y) m (but_other q m y d ∙ tm)))
    (λ fm. omega (arith, count_no q m fm, count_no (but q y) m (but_other q m y d ∙ fm))))

pub count_le : (U : ℕ → ℕ → Type 0) (p q : ℕ → Bool) (n m : ℕ)
    → ((x : ℕ) → x < n → p x ≡ true → (y : ℕ) × (y < m) × (q y ≡ true) × U x y)
    → ((x x' y : ℕ) → x < n → x' < n → U x y → U x' y → x ≡ x')
    → count p n ≤ count q m
count_le U p q zero m to one = omega (arith, count_zero p)
count_le U p q (suc n) m to one =
    cases (bool (p n))
    (λ t.
    let w = to n (omega arith) t in
    let y = w.0 in
    let r : count p n ≤ count (but q y) m =
    count_le U p (but q y) n m
    (λ x h e.
    let v = to x (omega arith) e in (
      v.0,
      v.1,
      but_other q v.0 y (λ e'.
          let ux : U x y = rw e' at v.3 in
          let z : x ≡ n = one x n y (omega arith) (omega arith) ux w.3 in omega arith) ∙ v.2,
      v.3,
    ))
    (λ x x' z h h'. one x x' z (omega arith) (omega arith)) in
    omega (arith, count_yes p n t, count_but q y m w.1 w.2))
    (λ f. omega (arith, count_no p n f, count_le U p q n m (λ x h. to x (omega arith)) (λ x x' z h h'. one x x' z (omega arith) (omega arith))))

-- .. and the other way round too: as many
pub count_eq : (U U' : ℕ → ℕ → Type 0) (p q : ℕ → Bool) (n m : ℕ)
    → ((x : ℕ) → x < n → p x ≡ true → (y : ℕ) × (y < m) × (q y ≡ true) × U x y)
    → ((x x' y : ℕ) → x < n → x' < n → U x y → U x' y → x ≡ x')
    → ((y : ℕ) → y < m → q y ≡ true → (x : ℕ) × (x < n) × (p x ≡ true) × U' y x)
    → ((y y' x : ℕ) → y < m → y' < m → U' y x → U' y' x → y ≡ y')
    → count p n ≡ count q m
count_eq U U' p q n m a b c d = omega (arith, count_le U p q n m a b, count_le U' q p m n c d)

-- those that pass and those that do not are all
pub count_split : (p : ℕ → Bool) (n : ℕ) → count p n + count (λ x. not (p x)) n ≡ n
unfolding count
count_split p zero = refl
count_split p (suc n) =
    cases (bool (p n))
    (λ t. rw t (omega (arith, count_split p n)))
    (λ f. rw f (omega (arith, count_split p n)))

-- all numbers below n but 0
pub count_not_zero : (n : ℕ) → 0 < n → suc (count (λ x. not (eqb x 0)) n) ≡ n
count_not_zero zero h = absurd (omega arith)
count_not_zero (suc zero) h = unfold count in refl
count_not_zero (suc (suc n)) h =
    omega (arith, count_yes (λ x. not (eqb x 0)) (suc n) (ap not (ne_eqb (suc n) 0 (λ e. omega arith))), count_not_zero (suc n) (omega arith))

-- how often x stands among the first n is at how many of the first n places it stands
many_snoc : (x : ℕ) (l : List ℕ) (y : ℕ) → many x (l ++ (y ∷ [])) ≡ bit (eqb y x) + many x l
unfolding many
many_snoc x [] y = refl
many_snoc x (z ∷ l) y = omega (arith, many_snoc x l y)

pub count_more : (p : ℕ → Bool) (n : ℕ) → count p (suc n) ≡ bit (p n) + count p n
unfolding count
count_more p n = refl

pub many_count : (x n : ℕ) (l : List ℕ) → n ≤ length l → many x (take n l) ≡ count (λ i. eqb (get_or l i 0) x) n
many_count x zero l h = many_nil x ∙ sym (count_zero _)
many_count x (suc n) l h =
    rw (take-suc l n 0 (omega arith))
    (omega (arith, many_snoc x (take n l) (get_or l n 0), many_count x n l (omega arith), count_more (λ i. eqb (get_or l i 0) x) n))

-- where some are counted, there is one
pub count_some : (p : ℕ → Bool) (n : ℕ) → 0 < count p n → (x : ℕ) × (x < n) × (p x ≡ true)
count_some p zero h = absurd (omega (arith, count_zero p))
count_some p (suc n) h =
    cases (bool (p n))
    (λ t. (n, omega arith, t))
    (λ f. let r = count_some p n (omega (arith, count_no p n f)) in (r.0, omega (arith, r.1), r.2))
