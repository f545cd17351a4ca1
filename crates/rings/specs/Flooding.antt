-- How a chain of joinings between two lines of a group is found, in steps that the functions tell each other. A reader of the calls' statements need
-- not believe any of it: what a ring is stands in Ring.antt.
use Rattle.std.specs.Prelude.{cond, List, ◌⊎◌, ◌≡◌, ℕ, suc, ◌*◌, ◌/◌, ◌%◌, ◌≤◌, ◌<◌, eqb, length}
use Rattle.laws.specs.Lists.{at}
use Rattle.laws.specs.Chains.{Chained}
use Rattle.groups.specs.Groups.{Tables, columns, Joins, Way}
use Rattle.groups.specs.declared.Groups.{Groups}

-- Each joining in the table is between two lines.
pub record WithinLines (lines : ℕ) (g : Groups) : Type 0 where
  pub few : lines ≤ 2048
  pub inside : (x : ℕ) → x < lines → ((columns g).from x < lines) × ((columns g).to x < lines)

-- A joining between u and v, or between v and u.
abbrev pub Step : ℕ → Tables → ℕ → ℕ → Type 0
Step lines t u v = Joins lines t.from t.to u v ⊎ Joins lines t.from t.to v u

-- Half-step 2e goes from the first line of joining e to its second, half-step 2e + 1 back: the line that one leaves, and the line that it leads to.
unfoldable pub leaves : Groups → ℕ → ℕ
leaves g s = cond (eqb (s % 2) 0) ((columns g).from (s / 2)) ((columns g).to (s / 2))

unfoldable pub arrives : Groups → ℕ → ℕ
arrives g s = cond (eqb (s % 2) 0) ((columns g).to (s / 2)) ((columns g).from (s / 2))

-- For each line the chain of the half-steps that leave it.
abbrev pub StepChains : ℕ → Groups → List ℕ → List ℕ → Type 0
StepChains lines g heads nexts = Chained 2048 4096 (2 * lines) (leaves g) heads nexts

-- The first n places of the queue have the lines that are reached, each once. A line is reached where `via` has a line for it: that is one earlier in
-- the queue, for all but the first.
pub record Queued (lines n : ℕ) (queue via : ℕ → ℕ) : Type 0 where
  pub some : 0 < n
  pub inside : (i : ℕ) → i < n → queue i < lines
  pub once : (i j : ℕ) → i < n → j < n → queue i ≡ queue j → i ≡ j
  pub met : (i : ℕ) → i < n → via (queue i) < lines
  pub spot : (x : ℕ) → x < lines → via x < lines → (i : ℕ) × (i < n) × (queue i ≡ x)
  pub earlier : (i : ℕ) → 0 < i → i < n → (j : ℕ) × (j < i) × (via (queue i) ≡ queue j)

-- .. with a joining between the two.
pub record Reach (lines : ℕ) (g : Groups) (n : ℕ) (queue via : List ℕ) : Type 0 where
  pub queues : length queue ≡ 2048
  pub vias : length via ≡ 2048
  pub queued : Queued lines n (at queue) (at via)
  pub twig : (i : ℕ) → 0 < i → i < n → Step lines (columns g) (at via (at queue i)) (at queue i)

-- The flood went on from n lines to n': what was reached is reached still, at its place.
pub record Further (lines : ℕ) (g : Groups) (n n' : ℕ) (queue via queue' via' : List ℕ) : Type 0 where
  pub reach : Reach lines g n' queue' via'
  pub more : n ≤ n'
  pub same : (i : ℕ) → i < n → at queue' i ≡ at queue i
  pub still : (y : ℕ) → at via y < lines → at via' y < lines

-- The half-steps below m that leave x lead to lines that are reached.
abbrev pub Spread : ℕ → Groups → ℕ → (ℕ → ℕ) → ℕ → Type 0
Spread lines g m via x = (s : ℕ) → s < m → leaves g s ≡ x → via (arrives g s) < lines

-- x is reached, so that one may look from it.
pub record Standing (lines x n : ℕ) (g : Groups) (queue via : List ℕ) : Type 0 where
  pub sound : WithinLines lines g
  pub inside : x < lines
  pub most : n ≤ lines
  pub reach : Reach lines g n queue via
  pub place : ℕ
  pub within : place < n
  pub is_x : at queue place ≡ x

-- What a look from x along the half-step s asks, and what it comes to.
pub record LookFrom (lines x s n : ℕ) (g : Groups) (queue via : List ℕ) : Type 0 where
  pub standing : Standing lines x n g queue via
  pub below : s < 2 * lines
  pub here : leaves g s ≡ x

pub record Looked (lines s n n' : ℕ) (g : Groups) (queue via queue' via' : List ℕ) : Type 0 where
  pub further : Further lines g n n' queue via queue' via'
  pub met : at via' (arrives g s) < lines

-- .. and looks along all half-steps of x.
pub record ScanFrom (lines x n : ℕ) (g : Groups) (heads nexts queue via : List ℕ) : Type 0 where
  pub standing : Standing lines x n g queue via
  pub chains : StepChains lines g heads nexts

pub record Scanned (lines x n n' : ℕ) (g : Groups) (queue via queue' via' : List ℕ) : Type 0 where
  pub further : Further lines g n n' queue via queue' via'
  pub spread : Spread lines g (2 * lines) (at via') x

-- What the flood from b to d asks: nothing is reached yet, and a way leads there.
pub record Unflooded (lines b d : ℕ) (g : Groups) (heads nexts via : List ℕ) : Type 0 where
  pub sound : WithinLines lines g
  pub chains : StepChains lines g heads nexts
  pub root : b < lines
  pub goal : d < lines
  pub vias : length via ≡ 2048
  pub fresh : (x : ℕ) → x < lines → at via x ≡ lines
  pub way : Way (Joins lines (columns g).from (columns g).to) b d

-- What it comes to: d is reached.
pub record Found (lines b d : ℕ) (g : Groups) (via : List ℕ) : Type 0 where
  pub size : ℕ
  pub queue : List ℕ
  pub reach : Reach lines g size queue via
  pub root : at queue 0 ≡ b
  pub goal : at via d < lines

-- What the climb back from d asks: d is reached from b.
pub record Climbable (lines b d : ℕ) (via chain : List ℕ) : Type 0 where
  pub few : lines ≤ 2048
  pub long : length chain ≡ 2048
  pub inside : d < lines
  pub size : ℕ
  pub queue : ℕ → ℕ
  pub queued : Queued lines size queue (at via)
  pub root : queue 0 ≡ b
  pub goal : at via d < lines

-- The n lines from d to b, each the one that the line before was reached from.
pub record Trail (lines b d : ℕ) (via : ℕ → ℕ) (n : ℕ) (chain : List ℕ) : Type 0 where
  pub some : 0 < n
  pub first : at chain 0 ≡ d
  pub last : (i : ℕ) → suc i ≡ n → at chain i ≡ b
  pub inside : (i : ℕ) → i < n → at chain i < lines
  pub met : (i : ℕ) → i < n → via (at chain i) < lines
  pub apart : (i j : ℕ) → i < j → j < n → at chain i ≡ at chain j → ⊥
  pub along : (i : ℕ) → suc i < n → at chain (suc i) ≡ via (at chain i)

-- What finding a chain of joinings asks, and what it gives: n different lines from d to b.
pub record Reachable (lines b d : ℕ) (g : Groups) (chain : List ℕ) : Type 0 where
  pub sound : WithinLines lines g
  pub first : b < lines
  pub second : d < lines
  pub long : length chain ≡ 2048
  pub way : Way (Joins lines (columns g).from (columns g).to) b d

pub record SimpleWay (lines b d : ℕ) (t : Tables) (n : ℕ) (line : ℕ → ℕ) : Type 0 where
  pub some : 0 < n
  pub few : n ≤ lines
  pub first : line 0 ≡ d
  pub last : (i : ℕ) → suc i ≡ n → line i ≡ b
  pub inside : (s : ℕ) → s < n → line s < lines
  pub apart : (i j : ℕ) → i < n → j < n → line i ≡ line j → i ≡ j
  pub steps : (s : ℕ) → suc s < n → Step lines t (line (suc s)) (line s)
