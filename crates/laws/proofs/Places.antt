-- Where a number stands in a list, and how often it stands in a list that was mapped or gathered.
use mathlib.Core.Bool.{cond}
use mathlib.Core.List.{List, [], ◌∷◌, ◌++◌, append-nil, append_assoc, map}
use mathlib.Core.Logic.{◌≢◌}
use mathlib.Core.Path.{◌≡◌, refl, sym, ◌∙◌, ap}
use Prim.Native.Nat.{ℕ, zero, suc, ◌+◌, ◌≤◌, ◌<◌}
use native.Mathlib.Omega.{arith}
use lib.Dec.{eqb}
use lib.ListN.{length, get_or}
use borrow.Author.Tests.{eq-eqb, ne_eqb}
use Rattle.laws.specs.Counting.{many}
use Rattle.laws.specs.Lists.{from, upto}
use Rattle.laws.specs.Sorting.{gather}
use Rattle.laws.proofs.Cases.{cases, eq_or}
use Rattle.laws.proofs.Counting.{many_nil, many_here, many_other, many_cons}
use Rattle.laws.proofs.Lists.{All}
use Rattle.laws.proofs.Occurring.{many_append}

-- where x stands first
unfoldable pub place : ℕ → List ℕ → ℕ
place x [] = 0
place x (y ∷ l) = cond (eqb y x) 0 (suc (place x l))

pub many_map : (f : ℕ → ℕ) → ((x y : ℕ) → f x ≡ f y → x ≡ y) → (x : ℕ) (l : List ℕ) → many (f x) (map f l) ≡ many x l
many_map f i x [] = many_nil (f x) ∙ sym (many_nil x)
many_map f i x (y ∷ l) =
    cases (eq_or y x)
    (λ e. omega (arith, many_here x y l e, many_here (f x) (f y) (map f l) (ap f e), many_map f i x l))
    (λ d. omega (arith, many_other x y l d, many_other (f x) (f y) (map f l) (λ e. d (i y x e)), many_map f i x l))

-- places
pub place_in : (x : ℕ) (l : List ℕ) → 0 < many x l → place x l < length l
unfolding place
place_in x [] h = absurd (omega (arith, many_nil x))
place_in x (y ∷ l) h =
    cases (eq_or y x)
    (λ e. rw (eq-eqb y x e) (omega arith))
    (λ d. rw (ne_eqb y x d) (omega (arith, place_in x l (omega (arith, many_other x y l d)))))

pub at_place : (o x : ℕ) (l : List ℕ) → 0 < many x l → get_or l (place x l) o ≡ x
unfolding place
at_place o x [] h = absurd (omega (arith, many_nil x))
at_place o x (y ∷ l) h =
    cases (eq_or y x)
    (λ e. rw (eq-eqb y x e) e)
    (λ d. rw (ne_eqb y x d) (at_place o x l (omega (arith, many_other x y l d))))

pub many_at : (o : ℕ) (l : List ℕ) (i : ℕ) → i < length l → 0 < many (get_or l i o) l
many_at o [] i h = absurd (omega arith)
many_at o (y ∷ l) zero h = omega (arith, many_here y y l refl)
many_at o (y ∷ l) (suc i) h = omega (arith, many_at o l i (omega arith), many_cons (get_or l i o) y l)

pub place_at : (o : ℕ) (l : List ℕ) (i : ℕ) → i < length l → many (get_or l i o) l ≤ 1 → place (get_or l i o) l ≡ i
unfolding place
place_at o [] i h q = absurd (omega arith)
place_at o (y ∷ l) zero h q = rw (eq-eqb y y refl)
place_at o (y ∷ l) (suc i) h q =
    let p = many_at o l i (omega arith) in
    let d : y ≡ get_or l i o → ⊥ = λ e. omega (arith, many_here (get_or l i o) y l e) in
    rw (ne_eqb y (get_or l i o) d) (ap suc (place_at o l i (omega arith) (omega (arith, many_other (get_or l i o) y l d))))

-- Lists gathered

-- one more number, at the end
pub from_snoc : (a n : ℕ) → from a (suc n) ≡ from a n ++ ((a + n) ∷ [])
unfolding from
from_snoc a zero = let e : a + 0 ≡ a = omega arith in rw e
from_snoc a (suc n) = let e : a + suc n ≡ suc a + n = omega arith in rw e (ap (λ l. a ∷ l) (from_snoc (suc a) n))

pub gather_append : (f : ℕ → List ℕ) (l r : List ℕ) → gather f (l ++ r) ≡ gather f l ++ gather f r
unfolding gather
gather_append f [] r = refl
gather_append f (x ∷ l) r = ap (λ m. f x ++ m) (gather_append f l r) ∙ sym (append_assoc (f x) (gather f l) (gather f r))

-- what the vertex v adds
pub gather_next : (f : ℕ → List ℕ) (v : ℕ) → gather f (upto (suc v)) ≡ gather f (upto v) ++ f v
unfolding gather
gather_next f v = let z : 0 + v ≡ v = omega arith in ap (gather f) (from_snoc 0 v) ∙ gather_append f (upto v) ((0 + v) ∷ []) ∙ ap (λ m. gather f (upto v) ++ m) (rw z (append-nil (f v)))

-- all, from the members
pub all_members : (P : ℕ → Type 0) (l : List ℕ) → ((x : ℕ) → 0 < many x l → P x) → All P l
all_members P [] h = tt
all_members P (x ∷ l) h = (h x (omega (arith, many_here x x l refl)), all_members P l (λ y g. h y (later y g)))
  where
    later : (y : ℕ) → 0 < many y l → 0 < many y (x ∷ l)
    later y g = cases (eq_or x y) (λ e. omega (arith, many_here y x l e)) (λ d. omega (arith, many_other y x l d))

pub many_map_out : (f : ℕ → ℕ) (x : ℕ) (l : List ℕ) → All (λ y. f y ≡ x → ⊥) l → many x (map f l) ≡ 0
many_map_out f x [] a = many_nil x
many_map_out f x (y ∷ l) a = omega (arith, many_other x (f y) (map f l) a.0, many_map_out f x l a.1)

-- how often in a gathered list
module _ (x : ℕ) (f : ℕ → List ℕ) where
  pub gather_none : (n : ℕ) → ((v : ℕ) → v < n → many x (f v) ≡ 0) → many x (gather f (upto n)) ≡ 0
  unfolding gather from
  gather_none zero h = many_nil x
  gather_none (suc n) h = ap (many x) (gather_next f n) ∙ omega (arith, many_append x (gather f (upto n)) (f n), gather_none n (λ v g. h v (omega arith)), h n (omega arith))

  pub gather_one : (n v : ℕ) → v < n → ((w : ℕ) → w < n → (w ≡ v → ⊥) → many x (f w) ≡ 0) → many x (gather f (upto n)) ≡ many x (f v)
  gather_one zero v g h = absurd (omega arith)
  gather_one (suc n) v g h =
      ap (many x) (gather_next f n)
      ∙ cases (eq_or n v)
      (λ e. let q : many x (f n) ≡ many x (f v) = ap (λ w. many x (f w)) e in
      omega (arith, many_append x (gather f (upto n)) (f n), gather_none n (λ w k. h w (omega arith) (λ z. omega arith))))
      (λ d. let d' : n ≢ v = d in
      omega (arith, many_append x (gather f (upto n)) (f n), gather_one n v (omega arith) (λ w k. h w (omega arith)), h n (omega arith) d))
