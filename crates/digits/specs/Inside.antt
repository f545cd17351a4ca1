-- What the functions on digits ask and say. A reader of the calls' statements need not believe any of it.
use Rattle.std.specs.Prelude.{Bool, true, List, ◌≡◌, ℕ, ◌+◌, ◌≤◌, ◌<◌, get_or, length, drop}
use Rattle.laws.specs.Tests.{all}
use Rattle.digits.specs.Digits.{is_digit, word}

-- The next four bytes from a place on are digits.
unfoldable pub is_word : List ℕ → ℕ → Bool
is_word text at = all (λ j. is_digit (get_or text (at + j) 0)) 4

-- Four digits stand at a place.
pub record Word (text : List ℕ) (at : ℕ) : Type 0 where
  pub within : at + 4 ≤ length text
  pub digits : is_word text at ≡ true

-- The number that they say.
pub record Number (text : List ℕ) (at x : ℕ) : Type 0 where
  pub said : x ≡ word (drop at text)
  pub small : x < 65536
