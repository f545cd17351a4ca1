-- Tests that compute: of two things, of every number below a bound, of some number below it, and the first number that passes.
use Rattle.std.specs.Prelude.{Bool, true, false, cond, ℕ, zero, suc}

-- `&&` and `||` that stay shut, so that a proof can read the two parts off a goal.
unfoldable pub both : Bool → Bool → Bool
both true b = b
both false b = false

unfoldable pub either : Bool → Bool → Bool
either true b = true
either false b = b

-- The test holds of every number below the bound, or of some number below it.
unfoldable pub all : (ℕ → Bool) → ℕ → Bool
all p zero = true
all p (suc n) = both (p n) (all p n)

unfoldable pub any : (ℕ → Bool) → ℕ → Bool
any p zero = false
any p (suc n) = either (p n) (any p n)

-- The least number below m that passes; m where none does.
unfoldable pub least : (ℕ → Bool) → ℕ → ℕ
least p zero = 0
least p (suc m) =
    let r = suc (least (λ (k : ℕ). p (suc k)) m) in
    cond (p 0) 0 r
