-- Laws of lists: what passes a test, what holds of all members, of all pairs of members, and the least.
use mathlib.Core.Bool.{Bool, true, false}
use mathlib.Core.List.{List, [], ◌∷◌, ◌++◌, reverse, reverse-cons, map, foldr}
use mathlib.Core.Logic.{◌⊎◌, inl, inr, ◌≢◌}
use mathlib.Core.Path.{◌≡◌, refl, sym, ◌∙◌, ap, subst}
use Prim.Native.Nat.{ℕ, zero, suc, ◌+◌, ◌≤◌, ◌<◌, min}
use native.Mathlib.Omega.{arith}
use Rattle.laws.specs.Counting.{many}
use Rattle.laws.specs.Lists.{from, keep}
use Rattle.laws.proofs.Cases.{bool, cases, true_false, eq_or, lt_or}
use Rattle.laws.proofs.Counting.{many_nil, many_here, many_other, many_cons}

-- P holds of each member
abbrev pub All : {A : Type 0} → (A → Type 0) → List A → Type 0
All P [] = Unit {0}
All P (x ∷ l) = P x × All P l

-- R holds of each and each later one
abbrev pub Pairs : (ℕ → ℕ → Type 0) → List ℕ → Type 0
Pairs R [] = Unit {0}
Pairs R (x ∷ l) = All (R x) l × Pairs R l

pub keep_nil : (p : ℕ → Bool) → keep p [] ≡ []
unfolding keep
keep_nil p = refl

pub keep_yes : (p : ℕ → Bool) (x : ℕ) (l : List ℕ) → p x ≡ true → keep p (x ∷ l) ≡ x ∷ keep p l
unfolding keep
keep_yes p x l e = rw e

pub keep_no : (p : ℕ → Bool) (x : ℕ) (l : List ℕ) → p x ≡ false → keep p (x ∷ l) ≡ keep p l
unfolding keep
keep_no p x l e = rw e

pub keep_append : (p : ℕ → Bool) (l r : List ℕ) → keep p (l ++ r) ≡ keep p l ++ keep p r
keep_append p [] r = rw (keep_nil p)
keep_append p (x ∷ l) r =
    cases (bool (p x))
    (λ t. rw (keep_yes p x (l ++ r) t, keep_yes p x l t) (ap (λ z. x ∷ z) (keep_append p l r)))
    (λ f. rw (keep_no p x (l ++ r) f, keep_no p x l f) (keep_append p l r))

-- what fails q fails p
pub keep_keep : (p q : ℕ → Bool) → ((x : ℕ) → p x ≡ true → q x ≡ true) → (l : List ℕ) → keep p (keep q l) ≡ keep p l
keep_keep p q s [] = rw (keep_nil q)
keep_keep p q s (x ∷ l) =
    cases (bool (q x))
    (λ t. rw (keep_yes q x l t)
    (cases (bool (p x))
    (λ t'. rw (keep_yes p x (keep q l) t', keep_yes p x l t') (ap (λ z. x ∷ z) (keep_keep p q s l)))
    (λ f'. rw (keep_no p x (keep q l) f', keep_no p x l f') (keep_keep p q s l))))
    (λ f. rw (keep_no q x l f)
    (cases (bool (p x))
    (λ t'. true_false (s x t') f)
    (λ f'. rw (keep_no p x l f') (keep_keep p q s l))))

pub all_keep : (P : ℕ → Type 0) (p : ℕ → Bool) (l : List ℕ) → All P l → All P (keep p l)
all_keep P p [] a = rw (keep_nil p) tt
all_keep P p (x ∷ l) a =
    cases (bool (p x))
    (λ t. rw (keep_yes p x l t) (a.0, all_keep P p l a.1))
    (λ f. rw (keep_no p x l f) (all_keep P p l a.1))

pub all_kept : (p : ℕ → Bool) (l : List ℕ) → All (λ x. p x ≡ true) (keep p l)
all_kept p [] = rw (keep_nil p) tt
all_kept p (x ∷ l) =
    cases (bool (p x))
    (λ t. rw (keep_yes p x l t) (t, all_kept p l))
    (λ f. rw (keep_no p x l f) (all_kept p l))

pub all_map : {A : Type 0} (P Q : A → Type 0) (l : List A) → ((x : A) → P x → Q x) → All P l → All Q l
all_map P Q [] f a = tt
all_map P Q (x ∷ l) f a = (f x a.0, all_map P Q l f a.1)

pub all_both : (P Q : ℕ → Type 0) (l : List ℕ) → All P l → All Q l → All (λ x. P x × Q x) l
all_both P Q [] a b = tt
all_both P Q (x ∷ l) a b = ((a.0, b.0), all_both P Q l a.1 b.1)

pub all_append : {A : Type 0} (P : A → Type 0) (l r : List A) → All P l → All P r → All P (l ++ r)
all_append P [] r a b = b
all_append P (x ∷ l) r a b = (a.0, all_append P l r a.1 b)

pub all_left : {A : Type 0} (P : A → Type 0) (l r : List A) → All P (l ++ r) → All P l
all_left P [] r a = tt
all_left P (x ∷ l) r a = (a.0, all_left P l r a.1)

pub all_reverse : (P : ℕ → Type 0) (l : List ℕ) → All P l → All P (reverse l)
all_reverse P [] a = tt
all_reverse P (x ∷ l) a = rw (reverse-cons x l) (all_append P (reverse l) (x ∷ []) (all_reverse P l a.1) (a.0, tt))

pub keep_none : (p : ℕ → Bool) (l : List ℕ) → All (λ x. p x ≡ false) l → keep p l ≡ []
keep_none p [] a = keep_nil p
keep_none p (x ∷ l) a = rw (keep_no p x l a.0) (keep_none p l a.1)

pub pairs_keep : (R : ℕ → ℕ → Type 0) (p : ℕ → Bool) (l : List ℕ) → Pairs R l → Pairs R (keep p l)
pairs_keep R p [] a = rw (keep_nil p) tt
pairs_keep R p (x ∷ l) a =
    cases (bool (p x))
    (λ t. rw (keep_yes p x l t) (all_keep (R x) p l a.0, pairs_keep R p l a.1))
    (λ f. rw (keep_no p x l f) (pairs_keep R p l a.1))

pub pairs_append : (R : ℕ → ℕ → Type 0) (l r : List ℕ) → Pairs R l → Pairs R r → All (λ x. All (R x) r) l → Pairs R (l ++ r)
pairs_append R [] r a b c = b
pairs_append R (x ∷ l) r a b c = (all_append (R x) l r a.0 c.0, pairs_append R l r a.1 b c.1)

pub keep_same : (p q : ℕ → Bool) (l : List ℕ) → All (λ x. p x ≡ q x) l → keep p l ≡ keep q l
keep_same p q [] a = keep_nil p ∙ sym (keep_nil q)
keep_same p q (x ∷ l) a =
    cases (bool (p x))
    (λ t. rw (keep_yes p x l t, keep_yes q x l (sym a.0 ∙ t)) (ap (λ z. x ∷ z) (keep_same p q l a.1)))
    (λ f. rw (keep_no p x l f, keep_no q x l (sym a.0 ∙ f)) (keep_same p q l a.1))

-- a member has what all have
pub all_many : (P : ℕ → Type 0) (x : ℕ) (l : List ℕ) → All P l → 0 < many x l → P x
all_many P x [] a h = absurd (omega (arith, many_nil x))
all_many P x (y ∷ l) a h =
    cases (eq_or y x)
    (λ e. subst P e a.0)
    (λ d. all_many P x l a.1 (omega (arith, many_other x y l d)))

-- The numbers from a on

from_out : (a n x : ℕ) → x < a → many x (from a n) ≡ 0
unfolding from
from_out a zero x h = many_nil x
from_out a (suc n) x h = omega (arith, many_other x a (from (suc a) n) (λ e. omega arith), from_out (suc a) n x (omega arith))

pub from_in : (a n x : ℕ) → a ≤ x → x < a + n → many x (from a n) ≡ 1
unfolding from
from_in a zero x h g = absurd (omega arith)
from_in a (suc n) x h g =
    cases (eq_or a x)
    (λ e. omega (arith, many_here x a (from (suc a) n) e, from_out (suc a) n x (omega arith)))
    (λ d. let d' : a ≢ x = d in omega (arith, many_other x a (from (suc a) n) d, from_in (suc a) n x (omega arith) (omega arith)))

pub from_all : (a n : ℕ) → All (λ x. x < a + n) (from a n)
unfolding from
from_all a zero = tt
from_all a (suc n) = (omega arith, all_map (λ x. x < suc a + n) (λ x. x < a + suc n) (from (suc a) n) (λ x h. omega arith) (from_all (suc a) n))

-- The least and the greatest of a list's values under g, and of z

module _ (g : ℕ → ℕ) (z : ℕ) where
  pub min_le : (b : ℕ) (l : List ℕ) → 0 < many b l → foldr min z (map g l) ≤ g b
  min_le b [] h = absurd (omega (arith, many_nil b))
  min_le b (x ∷ l) h =
      cases (eq_or x b)
      (λ e. let q : g x ≡ g b = ap g e in omega arith)
      (λ d. omega (arith, min_le b l (omega (arith, many_other b x l d))))

  pub min_in : (l : List ℕ) → ((b : ℕ) × (0 < many b l) × (g b ≡ foldr min z (map g l))) ⊎ (foldr min z (map g l) ≡ z)
  min_in [] = inr refl
  min_in (x ∷ l) =
      cases (lt_or (g x) (foldr min z (map g l)))
      (λ h. inl (x, omega (arith, many_here x x l refl), omega arith))
      (λ h. cases (min_in l)
      (λ r. inl (r.0, omega (arith, many_cons r.0 x l, r.1), omega (arith, r.2)))
      (λ r. inr (omega arith)))

  pub min_most : (l : List ℕ) → foldr min z (map g l) ≤ z
  min_most [] = omega arith
  min_most (x ∷ l) = omega (arith, min_most l)
