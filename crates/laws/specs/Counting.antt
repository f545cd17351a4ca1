-- How often, and how many.
use Rattle.std.specs.Prelude.{Bool, true, false, List, [], ◌∷◌, ℕ, zero, suc, ◌+◌, eqb}

abbrev pub bit : Bool → ℕ
bit true = 1
bit false = 0

-- How often x stands in a list.
unfoldable pub many : ℕ → List ℕ → ℕ
many x [] = 0
many x (y ∷ l) = bit (eqb y x) + many x l

-- How many numbers below n pass the test.
unfoldable pub count : (ℕ → Bool) → ℕ → ℕ
count p zero = 0
count p (suc n) = bit (p n) + count p n
