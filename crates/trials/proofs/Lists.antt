-- Lists of numbers, and lists of such lists, are the same where a test says so.
use mathlib.Core.Bool.{Bool, true, false}
use mathlib.Core.List.{List, [], ◌∷◌}
use mathlib.Core.Path.{◌≡◌, refl, ap, ◌∙◌}
use Prim.Native.Nat.{ℕ}
use lib.Dec.{eqb}
use borrow.Author.Tests.{eqb-true}
use Rattle.laws.specs.Tests.{both}
use Rattle.laws.proofs.Cases.{true_false}
use Rattle.laws.proofs.Tests.{both_of}

unfoldable pub alike : {A : Type 0} → (A → A → Bool) → List A → List A → Bool
alike eq [] [] = true
alike eq [] (y ∷ r) = false
alike eq (x ∷ l) [] = false
alike eq (x ∷ l) (y ∷ r) = both (eq x y) (alike eq l r)

pub alike_of : {A : Type 0} (eq : A → A → Bool) → ((x y : A) → eq x y ≡ true → x ≡ y) → (l r : List A) → alike eq l r ≡ true → l ≡ r
unfolding alike
alike_of eq f [] [] t = refl
alike_of eq f [] (y ∷ r) t = true_false t refl
alike_of eq f (x ∷ l) [] t = true_false t refl
alike_of eq f (x ∷ l) (y ∷ r) t = let q = both_of t in ap (λ z. z ∷ l) (f x y q.0) ∙ ap (λ z. y ∷ z) (alike_of eq f l r q.1)

abbrev pub numbers : List ℕ → List ℕ → Bool
numbers = alike eqb

pub numbers_of : (l r : List ℕ) → numbers l r ≡ true → l ≡ r
numbers_of = alike_of eqb eqb-true

abbrev pub rows : List (List ℕ) → List (List ℕ) → Bool
rows = alike numbers

pub rows_of : (l r : List (List ℕ)) → rows l r ≡ true → l ≡ r
rows_of = alike_of numbers numbers_of
