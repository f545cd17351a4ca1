-- The least of the numbers below n that pass a test, as a loop over them finds it.
use Rattle.std.specs.Prelude.{Bool, cond, ℕ, zero, suc, min}

-- The least value under g of the numbers that pass, and of z.
unfoldable pub minimum : (ℕ → Bool) → (ℕ → ℕ) → ℕ → ℕ → ℕ
minimum p g z zero = z
minimum p g z (suc n) = let r = minimum p g z n in cond (p n) (min (g n) r) r
