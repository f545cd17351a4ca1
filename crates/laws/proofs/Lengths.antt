-- How long lists are that were counted up, kept, sorted or gathered; and that different numbers below m are not more than m.
use mathlib.Core.Bool.{Bool, true}
use mathlib.Core.List.{List, [], ◌∷◌}
use mathlib.Core.Path.{◌≡◌, refl, sym, ◌∙◌, ap}
use Prim.Native.Nat.{ℕ, zero, suc, ◌+◌, ◌≤◌, ◌<◌}
use native.Mathlib.Omega.{arith}
use lib.Dec.{leb}
use lib.ListN.{length, get_or, length-append}
use Rattle.laws.specs.Counting.{many}
use Rattle.laws.specs.Lists.{from, keep, upto}
use Rattle.laws.specs.Sorting.{gather, insert, sort}
use Rattle.laws.proofs.Cases.{cases, bool, lt_or}
use Rattle.laws.proofs.Counting.{count_all, count_le}
use Rattle.laws.proofs.Lists.{All, all_map, all_many, keep_nil, keep_yes, keep_no, from_all}
use Rattle.laws.proofs.Gathering.{gather_same}
use Rattle.laws.proofs.Places.{place, place_at, many_at, gather_next}

pub length_from : (a n : ℕ) → length (from a n) ≡ n
unfolding from
length_from a zero = refl
length_from a (suc n) = ap suc (length_from (suc a) n)

pub from_least : (a n : ℕ) → All (λ x. a ≤ x) (from a n)
unfolding from
from_least a zero = tt
from_least a (suc n) = (omega arith, all_map (λ x. suc a ≤ x) (λ x. a ≤ x) (from (suc a) n) (λ x h. omega arith) (from_least (suc a) n))

pub from_cons : (a n : ℕ) → from a (suc n) ≡ a ∷ from (suc a) n
unfolding from
from_cons a n = refl

pub from_nil : (a : ℕ) → from a 0 ≡ []
unfolding from
from_nil a = refl

pub length_keep : (p : ℕ → Bool) (l : List ℕ) → length (keep p l) ≤ length l
length_keep p [] = rw (keep_nil p) (omega arith)
length_keep p (x ∷ l) =
    cases (bool (p x))
    (λ t. rw (keep_yes p x l t) (omega (arith, length_keep p l)))
    (λ t. rw (keep_no p x l t) (omega (arith, length_keep p l)))

module _ (key : ℕ → ℕ) where
  length_insert : (e : ℕ) (l : List ℕ) → length (insert key e l) ≡ suc (length l)
  unfolding insert
  length_insert e [] = refl
  length_insert e (g ∷ l) = cases (bool (leb (key e) (key g))) (λ t. rw t) (λ t. rw t (ap suc (length_insert e l)))

  pub length_sort : (l : List ℕ) → length (sort key l) ≡ length l
  unfolding sort
  length_sort [] = refl
  length_sort (e ∷ l) = length_insert e (sort key l) ∙ ap suc (length_sort l)

-- a longer gathering begins with the shorter
pub gather_rises : (f : ℕ → List ℕ) (v n : ℕ) → v ≤ n → length (gather f (upto v)) ≤ length (gather f (upto n))
gather_rises f v zero h = let e : v ≡ 0 = omega arith in rw e (omega arith)
gather_rises f v (suc n) h =
    cases (lt_or v (suc n))
    (λ g. omega (arith, gather_rises f v n (omega arith), ap length (gather_next f n), length-append (gather f (upto n)) (f n)))
    (λ g. let e : v ≡ suc n = omega arith in rw e (omega arith))

pub gather_length : (f : ℕ → List ℕ) (v : ℕ) → length (gather f (upto (suc v))) ≡ length (gather f (upto v)) + length (f v)
gather_length f v = ap length (gather_next f v) ∙ length-append (gather f (upto v)) (f v)

-- as many as in lists of the same lengths
pub gather_long : (f g : ℕ → List ℕ) (l : List ℕ) → ((x : ℕ) → length (f x) ≡ length (g x)) → length (gather f l) ≡ length (gather g l)
unfolding gather
gather_long f g [] h = refl
gather_long f g (x ∷ l) h = omega (arith, length-append (f x) (gather f l), length-append (g x) (gather g l), h x, gather_long f g l h)

-- the same lists gathered
pub gather_upto : (f g : ℕ → List ℕ) (n v : ℕ) → v ≤ n → ((u : ℕ) → u < n → f u ≡ g u) → gather f (upto v) ≡ gather g (upto v)
gather_upto f g n v h same = gather_same f g (upto v) (all_map (λ u. u < 0 + v) (λ u. f u ≡ g u) (upto v) (λ u k. same u (omega arith)) (from_all 0 v))

-- a list of different numbers below m is not longer than m
pub few_distinct : (m : ℕ) (l : List ℕ) → All (λ x. x < m) l → ((x : ℕ) → many x l ≤ 1) → length l ≤ m
few_distinct m l a o =
    omega (
      arith,
      count_all (length l),
      count_all m,
      count_le (λ i x. get_or l i 0 ≡ x) (λ i. true) (λ x. true) (length l) m
          (λ i h t. (get_or l i 0, all_many (λ x. x < m) (get_or l i 0) l a (many_at 0 l i h), refl, refl))
          (λ i j x h g e f. sym (place_at 0 l i h (o (get_or l i 0))) ∙ ap (λ (y : ℕ). place y l) (e ∙ sym f) ∙ place_at 0 l j g (o (get_or l j 0))),
    )
