-- What first choice and next choice say. (docs/RULES.md, "First choice", "Next choice".)
use Rattle.std.specs.Prelude.{Bool, List, ◌≡◌, ℕ, ◌/◌, ◌≤◌, ltb, length}
use Rattle.laws.specs.Tests.{either}
use Rattle.laws.specs.Checks.{Check}
use Rattle.laws.specs.Lists.{at, Kept}
use Rattle.laws.specs.Dictionary.{First, Next}
use Rattle.network.specs.Network.{Network, network}
use Rattle.network.specs.Numbers.{done, Checked, Untouched, triple}
use Rattle.network.specs.Numbers.{Answer}
use Rattle.search.specs.Machine.{tree_in}
use Rattle.search.specs.Orient.{back_lines}
use Rattle.fork.specs.Fork.{Constraint}
use Rattle.rings.specs.Ring.{Ring}
use Rattle.choice.specs.Choice.{Drawable, Proper, Outdone}

-- First choice

-- 3: room for less than a byte a line, a ring's line a line, or a ring's kind a line.
unfoldable pub cramped_first : List ℕ → List ℕ → List ℕ → List ℕ → Bool
cramped_first ends choice lines kinds =
    either (ltb (length choice) (length ends / 2)) (either (ltb (length lines) (length ends / 2)) (ltb (length kinds) (length ends / 2)))

-- With 0, the number of back lines and the first aligned choice; no ring is written.
pub record Chosen (net : Network) (choice lines kinds : List ℕ) (r : Answer) (choice' lines' kinds' : List ℕ) : Type 0 where
  pub answers : r ≡ done (back_lines net) 0
  pub first : First net.lines (Proper (tree_in net)) (at choice')
  pub rest : Kept net.lines choice choice'
  pub same_lines : lines' ≡ lines
  pub same_kinds : kinds' ≡ kinds

-- With 7, a ring of fork constraints and its length; the choice stays.
pub record Ringed (net : Network) (choice lines kinds : List ℕ) (r : Answer) (choice' lines' kinds' : List ℕ) : Type 0 where
  pub size : ℕ
  pub answers : r ≡ record { number = 7; count = 0; second = size }
  pub few : size ≤ net.lines
  pub ring : Ring (Constraint (tree_in net)) size (at lines') (at kinds')
  pub lines_rest : Kept size lines lines'
  pub kinds_rest : Kept size kinds kinds'
  pub same_choice : choice' ≡ choice

-- 7 exactly where no choice obeys the fork rule.
abbrev pub FirstChoice : ℕ → List ℕ → List ℕ → List ℕ → List ℕ → Answer → List ℕ → List ℕ → List ℕ → Type 0
FirstChoice n ends choice lines kinds r choice' lines' kinds' =
    Checked n ends (cramped_first ends choice lines kinds) (Untouched (triple choice lines kinds) r (triple choice' lines' kinds'))
    (Check (Drawable (tree_in (network n ends)))
    (Chosen (network n ends) choice lines kinds r choice' lines' kinds')
    (Ringed (network n ends) choice lines kinds r choice' lines' kinds'))

-- Next choice

-- 3: room for less than a byte a line.
unfoldable pub cramped_next : List ℕ → List ℕ → Bool
cramped_next ends choice = ltb (length choice) (length ends / 2)

-- With 0, the number of back lines and the aligned choice that comes next.
pub record Stepped (net : Network) (choice : List ℕ) (r : Answer) (choice' : List ℕ) : Type 0 where
  pub answers : r ≡ done (back_lines net) 0
  pub next : Next net.lines (Proper (tree_in net)) (at choice) (at choice')
  pub rest : Kept net.lines choice choice'

-- 8 exactly where the lent choice is not aligned or not written as it should be, 9 exactly where none comes later.
abbrev pub NextChoice : ℕ → List ℕ → List ℕ → Answer → List ℕ → Type 0
NextChoice n ends choice r choice' =
    Checked n ends (cramped_next ends choice) (Untouched choice r choice')
    (Check (Proper (tree_in (network n ends)) (at choice))
    (Check (Outdone (tree_in (network n ends)) (at choice)) (Stepped (network n ends) choice r choice') (Untouched choice r choice' 9))
    (Untouched choice r choice' 8))
