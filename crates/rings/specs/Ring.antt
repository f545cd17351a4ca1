-- What a ring is: constraints, each between a line and the next, round and back to the first, that no choice can obey. (docs/RULES.md, "Rings".)
use Rattle.std.specs.Prelude.{Bool, true, not, ◌≡◌, ℕ, suc, ◌-◌, ◌%◌, ◌<◌, eqb, leb}
use Rattle.laws.specs.Tests.{both, either, all}
use Rattle.laws.specs.Counting.{count}
use Rattle.side.specs.Sides.{same, different}
use Rattle.groups.specs.Constraints.{Constraints}

-- The shape of a ring: n steps, a line and a kind each. No line has two steps, there are at least two, and oddly many kinds are `different`. Of the
-- ways to go round it the written one starts with the smallest line and has its smaller neighbour second; where there are two lines, `same` is first.
unfoldable pub apartb : ℕ → (ℕ → ℕ) → Bool
apartb n line = all (λ j. all (λ i. not (eqb (line i) (line j))) j) n

unfoldable pub oddb : ℕ → (ℕ → ℕ) → Bool
oddb n kind = eqb (count (λ i. eqb (kind i) different) n % 2) 1

unfoldable pub orderedb : ℕ → (ℕ → ℕ) → (ℕ → ℕ) → Bool
orderedb n line kind =
    both (all (λ i. leb (line 0) (line i)) n)
    (both (leb (line 1) (line (n - 1))) (either (not (eqb n 2)) (eqb (kind 0) same)))

unfoldable pub ringb : ℕ → (ℕ → ℕ) → (ℕ → ℕ) → Bool
ringb n line kind = both (leb 2 n) (both (apartb n line) (both (oddb n kind) (orderedb n line kind)))

-- A ring: the shape, and a constraint of its kind at each step, the last one back to the first line.
pub record Ring (P : Constraints) (n : ℕ) (line kind : ℕ → ℕ) : Type 0 where
  pub shape : ringb n line kind ≡ true
  pub step : (i : ℕ) → suc i < n → P (line i) (line (suc i)) (kind i)
  pub close : (i : ℕ) → suc i ≡ n → P (line i) (line 0) (kind i)
