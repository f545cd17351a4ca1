-- Numbers as text: small hexadecimal digits, the highest first. (docs/RULES.md, "Text".)
use Rattle.std.specs.Prelude.{Bool, cond, List, [], ◌∷◌, ◌++◌, ℕ, zero, suc, ◌+◌, ◌*◌, ◌/◌, ◌%◌, eqb, ltb, take}
use Rattle.laws.specs.Tests.{any, least}

-- The byte of a digit: 0 to 9, then a to f, small.
unfoldable pub digit : ℕ → ℕ
digit d = cond (ltb d 10) (48 + d) (87 + d)

-- A byte is one of the sixteen digits, and which one it is.
unfoldable pub is_digit : ℕ → Bool
is_digit b = any (λ d. eqb (digit d) b) 16

unfoldable pub value : ℕ → ℕ
value b = least (λ d. eqb (digit d) b) 16

-- A number in so many digits, the highest first.
unfoldable pub digits : ℕ → ℕ → List ℕ
digits zero x = []
digits (suc n) x = digits n (x / 16) ++ (digit (x % 16) ∷ [])

-- The number that digits say: each counts sixteen times what stands before it, and itself.
unfoldable pub number_on : ℕ → List ℕ → ℕ
number_on a [] = a
number_on a (b ∷ l) = number_on (16 * a + value b) l

abbrev pub number : List ℕ → ℕ
number l = number_on 0 l

-- The number in the next four digits of a text.
unfoldable pub word : List ℕ → ℕ
word t = number (take 4 t)
