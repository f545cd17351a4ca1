-- Tests that compute, of what the statements of the calls say: which choice is the first, which comes next, which is the last, and what is a ring.
-- Each says no more and no less than its proposition: proofs/Choosing.antt and proofs/Ringing.antt.
use Rattle.std.specs.Prelude.{Bool, true, false, cond, not, List, [], ◌∷◌, map, ℕ, suc, eqb, ltb}
use Rattle.rings.specs.Ring.{ringb}
use Rattle.laws.specs.Tests.{both, either, all, any}
use Rattle.laws.specs.Lists.{upto, at}
use Rattle.side.specs.Sides.{left, right, none, same, different}
use Rattle.tree.specs.Tree.{Tree}
use Rattle.tree.specs.Returns.{backb}
use Rattle.fork.specs.Fork.{sameb, differentb}
use Rattle.runs.proofs.Granted.{properb}

-- Two choices: they agree, or the second comes later.
unfoldable pub agreeb : ℕ → (ℕ → ℕ) → (ℕ → ℕ) → Bool
agreeb n c d = all (λ b. eqb (c b) (d b)) n

unfoldable pub beforeb : ℕ → (ℕ → ℕ) → (ℕ → ℕ) → Bool
beforeb n c d = any (λ p. both (agreeb p c d) (ltb (c p) (d p))) n

-- d is c or comes later.
unfoldable pub not_later : ℕ → (ℕ → ℕ) → (ℕ → ℕ) → Bool
not_later n c d = either (agreeb n c d) (beforeb n c d)

-- The test passes of all ways to write a side where the list says true, and none where it says false.
unfoldable pub scan : List Bool → (List ℕ → Bool) → Bool
scan [] test = test []
scan (false ∷ backs) test = scan backs (λ l. test (none ∷ l))
scan (true ∷ backs) test = both (scan backs (λ l. test (left ∷ l))) (scan backs (λ l. test (right ∷ l)))

module _ (S : Tree) where
  -- The test passes of every proper choice.
  unfoldable pub everyb : ((ℕ → ℕ) → Bool) → Bool
  everyb test = scan (map (backb S) (upto S.lines)) (λ l. either (not (properb S (at l))) (test (at l)))

  unfoldable pub firstb : (ℕ → ℕ) → Bool
  firstb c = both (properb S c) (everyb (not_later S.lines c))

  unfoldable pub nextb : (ℕ → ℕ) → (ℕ → ℕ) → Bool
  nextb c d = both (properb S d) (both (beforeb S.lines c d) (everyb (λ e. either (not (beforeb S.lines c e)) (not_later S.lines d e))))

  unfoldable pub lastb : (ℕ → ℕ) → Bool
  lastb c = everyb (λ e. not (beforeb S.lines c e))

  -- A constraint of the kind k between b and c.
  unfoldable pub constraintb : ℕ → ℕ → ℕ → Bool
  constraintb b c k =
      both (both (ltb b S.lines) (ltb c S.lines))
      (either (both (eqb k same) (sameb S b c)) (both (eqb k different) (differentb S b c)))

  -- The shape of a ring of n lines, and a constraint at each step, the last one back to the first line.
  unfoldable pub roundb : ℕ → (ℕ → ℕ) → (ℕ → ℕ) → Bool
  roundb n line kind = both (ringb n line kind) (all (λ i. constraintb (line i) (line (cond (eqb (suc i) n) 0 (suc i))) (kind i)) n)
