-- The list of choices that the two calls give: first choice, and then next choice again and again, until it says 9. (docs/RULES.md, "Next choice".)
use Rattle.std.specs.Prelude.{List, ◌≡◌, ℕ, suc, ◌/◌, ◌≤◌, ◌<◌, length}
use Rattle.laws.specs.Lists.{at, Agree}
use Rattle.laws.specs.Dictionary.{Before}
use Rattle.network.specs.Network.{network}
use Rattle.network.specs.Numbers.{Answer}
use Rattle.search.specs.Machine.{tree_in}
use Rattle.choice.specs.Choice.{Proper}
use Rattle.choice.specs.Calls.{FirstChoice, NextChoice}

-- First choice, lent some buffers, says the number x and leaves c in the choice's.
abbrev pub FirstSays : ℕ → List ℕ → ℕ → List ℕ → Type 0
FirstSays n ends x c = (choice lines kinds l k : List ℕ) × (r : Answer) × FirstChoice n ends choice lines kinds r c l k × (r.number ≡ x)

-- Next choice, lent c, says the number x and leaves d.
abbrev pub NextSays : ℕ → List ℕ → List ℕ → ℕ → List ℕ → Type 0
NextSays n ends c x d = (r : Answer) × NextChoice n ends c r d × (r.number ≡ x)

-- So many steps of the calls: `held 0` is what first choice left, and `held (j + 1)` what next choice left when it was lent `held j`. Each said 0.
pub record Steps (n : ℕ) (ends : List ℕ) (count : ℕ) (held : ℕ → List ℕ) : Type 0 where
  pub begins : FirstSays n ends 0 (held 0)
  pub goes_on : (j : ℕ) → j < count → NextSays n ends (held j) 0 (held (suc j))

-- A run: steps of the calls up to the one where next choice, lent what was left last, says 9.
pub record Run (n : ℕ) (ends : List ℕ) (last : ℕ) (held : ℕ → List ℕ) : Type 0 where
  pub steps : Steps n ends last held
  pub nine : (d : List ℕ) × NextSays n ends (held last) 9 d

-- First choice, lent room, and then next choice again and again, whatever they say: `held j` is what stands in the choice's buffer after j calls of
-- next choice.
pub record Asked (n : ℕ) (ends : List ℕ) (held : ℕ → List ℕ) : Type 0 where
  pub choice : List ℕ
  pub lines : List ℕ
  pub kinds : List ℕ
  pub room : (length ends / 2 ≤ length choice) × (length ends / 2 ≤ length lines) × (length ends / 2 ≤ length kinds)
  pub begins : (r : Answer) × (l k : List ℕ) × FirstChoice n ends choice lines kinds r (held 0) l k
  pub again : (j : ℕ) → (r : Answer) × NextChoice n ends (held j) r (held (suc j))

-- What a run holds is complete: only proper choices, every one of them, none twice, and the later the step the later the choice.
pub record Complete (n : ℕ) (ends : List ℕ) (last : ℕ) (held : ℕ → List ℕ) : Type 0 where
  pub proper : (j : ℕ) → j ≤ last → Proper (tree_in (network n ends)) (at (held j))
  pub every : (c : ℕ → ℕ) → Proper (tree_in (network n ends)) c → (j : ℕ) × (j ≤ last) × Agree (length ends / 2) c (at (held j))
  pub once : (i j : ℕ) → i ≤ last → j ≤ last → Agree (length ends / 2) (at (held i)) (at (held j)) → i ≡ j
  pub rising : (i j : ℕ) → i < j → j ≤ last → Before (length ends / 2) (at (held i)) (at (held j))

-- The calls list the choices of a network, whatever buffers they are lent. First choice, given room, begins. Next choice says 0 up to the step
-- `last`, and 9 there, so that no steps go further. At the same step all hold the same choice. There is a run, and every run is as long and is complete.
pub record Lists (n : ℕ) (ends : List ℕ) (last : ℕ) : Type 0 where
  pub begins : {choice lines kinds c l k : List ℕ} {r : Answer} → length ends / 2 ≤ length choice → length ends / 2 ≤ length lines → length ends / 2 ≤ length kinds
      → FirstChoice n ends choice lines kinds r c l k → r.number ≡ 0
  pub goes_on : {j : ℕ} {held : ℕ → List ℕ} {d : List ℕ} {r : Answer} → Steps n ends j held → NextChoice n ends (held j) r d → j < last → r.number ≡ 0
  pub stops : {held : ℕ → List ℕ} {d : List ℕ} {r : Answer} → Steps n ends last held → NextChoice n ends (held last) r d → r.number ≡ 9
  pub no_further : {j : ℕ} {held : ℕ → List ℕ} → Steps n ends j held → j ≤ last
  pub same : {j k : ℕ} {held held' : ℕ → List ℕ} → Steps n ends j held → Steps n ends k held' → (i : ℕ) → i ≤ j → i ≤ k
      → Agree (length ends / 2) (at (held i)) (at (held' i))
  pub some_run : (held : ℕ → List ℕ) × Run n ends last held
  pub complete : {k : ℕ} {held : ℕ → List ℕ} → Run n ends k held → (k ≡ last) × Complete n ends k held
