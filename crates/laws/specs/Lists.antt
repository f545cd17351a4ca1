-- Lists of numbers.
use Rattle.std.specs.Prelude.{Bool, cond, List, [], ◌∷◌, ◌++◌, ◌≡◌, ℕ, zero, suc, ◌≤◌, ◌<◌, get_or, length, take, drop}

-- What stands at each place of a list; past its end, 0.
abbrev pub at : List ℕ → ℕ → ℕ
at l b = get_or l b 0

-- The same at the places below n.
abbrev pub Agree : ℕ → (ℕ → ℕ) → (ℕ → ℕ) → Type 0
Agree n c d = (b : ℕ) → b < n → c b ≡ d b

-- The same from place n on.
abbrev pub Past : ℕ → List ℕ → List ℕ → Type 0
Past n old new = (j : ℕ) → n ≤ j → at new j ≡ at old j

-- A buffer whose first n places may have changed, and nothing else.
pub record Kept (n : ℕ) (old new : List ℕ) : Type 0 where
  pub long : length new ≡ length old
  pub past : Past n old new

-- a, a + 1, .., n of them.
unfoldable pub from : ℕ → ℕ → List ℕ
from a zero = []
from a (suc n) = a ∷ from (suc a) n

abbrev pub upto : ℕ → List ℕ
upto n = from 0 n

-- What passes the test, in its order.
unfoldable pub keep : (ℕ → Bool) → List ℕ → List ℕ
keep p [] = []
keep p (x ∷ l) = cond (p x) (x ∷ keep p l) (keep p l)

-- A buffer whose first n numbers are those of a table, and whose rest is as it was.
abbrev pub filled : {A : Type 0} → ℕ → List A → List A → List A
filled n table old = take n table ++ drop n old
