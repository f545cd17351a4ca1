-- The walks of a map among the numbers below n: the orbits of the map, where it is one-to-one. A walk is known by the lowest number on it.
use Rattle.std.specs.Prelude.{Bool, false, cond, ℕ, zero, suc, min, eqb}
use Rattle.laws.specs.Counting.{count}

-- k steps of f from x.
unfoldable pub walk : (ℕ → ℕ) → ℕ → ℕ → ℕ
walk f zero x = x
walk f (suc k) x = walk f k (f x)

-- The lowest number on the walk of n steps from x.
unfoldable pub lowest_on : (ℕ → ℕ) → ℕ → ℕ → ℕ
lowest_on f zero x = x
lowest_on f (suc n) x = min x (lowest_on f n (f x))

-- x takes part, and is the lowest number on its walk.
abbrev pub leads : (ℕ → Bool) → (ℕ → ℕ) → ℕ → ℕ → Bool
leads on f n x = cond (on x) (eqb (lowest_on f n x) x) false

-- The number of the walk of x: how many lowest numbers stand below its own.
abbrev pub walk_number : (ℕ → Bool) → (ℕ → ℕ) → ℕ → ℕ → ℕ
walk_number on f n x = count (leads on f n) (lowest_on f n x)

-- How many walks there are.
abbrev pub walks : (ℕ → Bool) → (ℕ → ℕ) → ℕ → ℕ
walks on f n = count (leads on f n) n
