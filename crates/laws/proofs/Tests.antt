-- What the tests of specs/Tests.antt say, as propositions; and that the least number is the least.
use mathlib.Core.Bool.{Bool, true, false, cond}
use mathlib.Core.Logic.{◌⊎◌, inl, inr, ◌≢◌}
use mathlib.Core.Path.{◌≡◌, refl, sym, ap, subst}
use Prim.Native.Nat.{ℕ, zero, suc, ◌<◌, zero-le, suc-le-suc}
use native.Mathlib.Nat.{le_of_suc-le-suc}
use native.Mathlib.Omega.{arith}
use Rattle.laws.specs.Tests.{both, either, all, any, least}
use Rattle.laws.proofs.Cases.{cases, bool, true_false, eq_or}

-- both, either

-- two tests that pass together have the same outcome
pub same_test : (a b : Bool) → (a ≡ true → b ≡ true) → (b ≡ true → a ≡ true) → a ≡ b
same_test true b f g = sym (f refl)
same_test false true f g = g refl
same_test false false f g = refl

pub both_yes : {a b : Bool} → a ≡ true → b ≡ true → both a b ≡ true
unfolding both
both_yes s t = rw (s, t)

pub both_of : {a b : Bool} → both a b ≡ true → (a ≡ true) × (b ≡ true)
unfolding both
both_of {a = true} {b} e = (refl, e)
both_of {a = false} {b} e = true_false e refl

pub both_no_first : (a b : Bool) → a ≡ false → both a b ≡ false
unfolding both
both_no_first a b e = rw e

pub both_no_second : (a b : Bool) → b ≡ false → both a b ≡ false
unfolding both
both_no_second true b e = e
both_no_second false b e = refl

pub either_first : (a b : Bool) → a ≡ true → either a b ≡ true
unfolding either
either_first a b e = rw e

pub either_second : (a b : Bool) → b ≡ true → either a b ≡ true
unfolding either
either_second true b e = refl
either_second false b e = e

pub either_of : {a b : Bool} → either a b ≡ true → (a ≡ true) ⊎ (b ≡ true)
unfolding either
either_of {a = true} {b} e = inl refl
either_of {a = false} {b} e = inr e

pub either_no : {a b : Bool} → a ≡ false → b ≡ false → either a b ≡ false
unfolding either
either_no s t = rw (s, t)

pub either_neither : {a b : Bool} → either a b ≡ false → (a ≡ false) × (b ≡ false)
unfolding either
either_neither {a = true} {b} e = true_false refl e
either_neither {a = false} {b} e = (refl, e)

-- all, any

pub all_of : (p : ℕ → Bool) (n : ℕ) → all p n ≡ true → (x : ℕ) → x < n → p x ≡ true
unfolding all
all_of p zero e x h = absurd (omega arith)
all_of p (suc n) e x h =
    let q = both_of e in
    cases (eq_or x n)
    (λ z. subst (λ (y : ℕ). p y ≡ true) (sym z) q.0)
    (λ d. let d' : x ≢ n = d in all_of p n q.1 x (omega arith))

pub all_yes : (p : ℕ → Bool) (n : ℕ) → ((x : ℕ) → x < n → p x ≡ true) → all p n ≡ true
unfolding all
all_yes p zero f = refl
all_yes p (suc n) f = both_yes (f n (omega arith)) (all_yes p n (λ x h. f x (omega arith)))

pub any_of : (p : ℕ → Bool) (n : ℕ) → any p n ≡ true → (x : ℕ) × (x < n) × (p x ≡ true)
unfolding any
any_of p zero e = true_false e refl
any_of p (suc n) e =
    cases (either_of e)
    (λ t. (n, omega arith, t))
    (λ t. let r = any_of p n t in (r.0, omega (arith, r.1), r.2))

pub any_yes : (p : ℕ → Bool) (n x : ℕ) → x < n → p x ≡ true → any p n ≡ true
unfolding any
any_yes p zero x h t = absurd (omega arith)
any_yes p (suc n) x h t =
    cases (eq_or x n)
    (λ z. either_first (p n) (any p n) (subst (λ (y : ℕ). p y ≡ true) z t))
    (λ d. let d' : x ≢ n = d in either_second (p n) (any p n) (any_yes p n x (omega arith) t))

pub any_no : (p : ℕ → Bool) (n : ℕ) → ((x : ℕ) → x < n → p x ≡ false) → any p n ≡ false
unfolding any
any_no p zero f = refl
any_no p (suc n) f = either_no (f n (omega arith)) (any_no p n (λ x h. f x (omega arith)))

pub any_none : (p : ℕ → Bool) (n : ℕ) → any p n ≡ false → (x : ℕ) → x < n → p x ≡ false
any_none p n e x h = cases (bool (p x)) (λ t. true_false (any_yes p n x h t) e) (λ f. f)

-- least

-- k is the first number below m that passes
pub record First (p : ℕ → Bool) (m k : ℕ) : Type 0 where
  pub below : k < m
  pub passes : p k ≡ true
  pub before : (j : ℕ) → j < k → p j ≡ false

pub least_is : (p : ℕ → Bool) (m k : ℕ) → First p m k → least p m ≡ k
unfolding least
least_is p zero k f = absurd (omega (arith, f.below))
least_is p (suc m) zero f = rw f.passes
least_is p (suc m) (suc k) f =
    rw (f.before 0 (suc-le-suc zero-le))
    (ap suc
    (least_is (λ (j : ℕ). p (suc j)) m k
    (record { below = le_of_suc-le-suc f.below; passes = f.passes; before = λ j g. f.before (suc j) (suc-le-suc g) })))

pub least_none : (p : ℕ → Bool) (m : ℕ) → ((j : ℕ) → j < m → p j ≡ false) → least p m ≡ m
unfolding least
least_none p zero f = refl
least_none p (suc m) f =
    rw (f 0 (suc-le-suc zero-le))
    (ap suc (least_none (λ (j : ℕ). p (suc j)) m (λ j g. f (suc j) (suc-le-suc g))))

pub least_same : (p q : ℕ → Bool) (m : ℕ) → ((k : ℕ) → p k ≡ q k) → least p m ≡ least q m
unfolding least
least_same p q zero e = refl
least_same p q (suc m) e =
    rw (e 0)
    (ap (λ (r : ℕ). cond (q 0) 0 (suc r)) (least_same (λ (k : ℕ). p (suc k)) (λ (k : ℕ). q (suc k)) m (λ k. e (suc k))))

-- there is a first number below m that passes, or none passes
pub find_first : (p : ℕ → Bool) (m : ℕ) → ((k : ℕ) × First p m k) ⊎ ((j : ℕ) → j < m → p j ≡ false)
find_first p zero = inr (λ j h. absurd (omega arith))
find_first p (suc m) =
    cases (find_first p m)
    (λ r. inl (r.0, record { below = omega (arith, r.1.below); passes = r.1.passes; before = r.1.before }))
    (λ none.
    cases (bool (p m))
    (λ t. inl (m, record { below = omega arith; passes = t; before = none }))
    (λ f. inr (λ j h. cases (eq_or j m) (λ e. rw e f) (λ d. let d' : j ≢ m = d in none j (omega arith)))))

-- the least number, by cases
pub least_cases : (p : ℕ → Bool) (m : ℕ) → First p m (least p m) ⊎ ((least p m ≡ m) × ((j : ℕ) → j < m → p j ≡ false))
least_cases p m =
    cases (find_first p m)
    (λ r. inl (subst (λ (k : ℕ). First p m k) (sym (least_is p m r.0 r.1)) r.1))
    (λ none. inr (least_none p m none, none))
