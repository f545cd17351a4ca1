-- How a ring is read off the tables after a conflict, in steps that the functions tell each other. A reader of the calls' statements need not
-- believe any of it: what a ring is stands in Ring.antt.
use Rattle.std.specs.Prelude.{Bool, true, false, cond, List, ◌⊎◌, ◌≡◌, ℕ, suc, ◌+◌, ◌-◌, ◌%◌, ◌≤◌, ◌<◌, eqb, ltb, length}
use Rattle.laws.specs.Lists.{at, Past}
use Rattle.side.specs.Sides.{same}
use Rattle.groups.specs.Constraints.{Constraints, Between}
use Rattle.groups.specs.Groups.{Tables, columns, Joins, Way}
use Rattle.groups.specs.declared.Groups.{Groups}
use Rattle.rings.specs.Ring.{Ring}

-- The constraints that joined groups, with the kinds that the parities say, and the one between b and d that does not agree.
abbrev pub Noted : ℕ → Tables → ℕ → ℕ → ℕ → Constraints
Noted lines t b d k u v z = (Joins lines t.from t.to u v × (z ≡ (t.parity u + t.parity v) % 2)) ⊎ ((u ≡ b) × (v ≡ d) × (z ≡ k))

-- A conflict: b and d are in one group, and the constraint between them does not agree with the parities.
pub record Torn (lines : ℕ) (t : Tables) (b d k : ℕ) : Type 0 where
  pub few : lines ≤ 2048
  pub first : b < lines
  pub second : d < lines
  pub apart : b ≡ d → ⊥
  pub small : k ≤ 1
  pub odd : (t.parity b + t.parity d + k) % 2 ≡ 1
  pub inside : (x : ℕ) → x < lines → (t.from x < lines) × (t.to x < lines)
  pub way : Way (Joins lines t.from t.to) b d

-- What is asked: a conflict in the table of groups, and room for as many lines as there are.
pub record Showing (lines b d k : ℕ) (g : Groups) (ring kinds : List ℕ) : Type 0 where
  pub conflict : Torn lines (columns g) b d k
  pub ring_room : lines ≤ length ring
  pub kind_room : lines ≤ length kinds

-- What is answered: a ring, in the first n places of the buffers.
pub record Shown (lines : ℕ) (t : Tables) (b d k n : ℕ) (ring kinds ring' kinds' : List ℕ) : Type 0 where
  pub few : n ≤ lines
  pub is_ring : Ring (Between (Noted lines t b d k)) n (at ring') (at kinds')
  pub ring_rest : Past n ring ring'
  pub kinds_rest : Past n kinds kinds'

-- m is the place of the lowest of n lines.
pub record LowestPlace (n : ℕ) (line : ℕ → ℕ) (m : ℕ) : Type 0 where
  pub within : m < n
  pub low : (i : ℕ) → i < n → line m ≤ line i

-- Places of a circle of n go on from its end at 0.
unfoldable pub wrap : ℕ → ℕ → ℕ
wrap n i = cond (ltb i n) i (i - n)

-- The kind of the step from place i of the chain to the next; from the last place, b, to the first, d, it is k.
unfoldable pub kind_of : (ℕ → ℕ) → (ℕ → ℕ) → ℕ → ℕ → ℕ → ℕ
kind_of parity line n k i = cond (eqb (suc i) n) k ((parity (line i) + parity (line (suc i))) % 2)

-- Where in the chain the ring's place j is, going up from m or down; and where the step from it to the next place is.
unfoldable pub spot_of : ℕ → ℕ → Bool → ℕ → ℕ
spot_of n m up j = cond up (wrap n (m + j)) (wrap n (m + n - j))

unfoldable pub link_of : ℕ → ℕ → Bool → ℕ → ℕ
link_of n m up j = cond up (wrap n (m + j)) (wrap n (m + n - suc j))

pub record Spot (n m : ℕ) (up : Bool) (j r : ℕ) : Type 0 where
  pub is : r ≡ spot_of n m up j
  pub within : r < n

pub record StepPlace (n m : ℕ) (up : Bool) (j r : ℕ) : Type 0 where
  pub is : r ≡ link_of n m up j
  pub within : r < n

-- The way to go on from the lowest line, where k is the kind of the step up and the neighbours are x, upwards, and y.
abbrev pub Upward : ℕ → ℕ → ℕ → ℕ → Bool → Type 0
Upward n k x y true = (n ≡ 2 → k ≡ same) × ((n ≡ 2 → ⊥) → x ≤ y)
Upward n k x y false = (n ≡ 2 → k ≡ same → ⊥) × ((n ≡ 2 → ⊥) → y ≤ x)

-- What reading the chain asks: it has n lines, and they have parities.
pub record Readable (n : ℕ) (chain : List ℕ) : Type 0 where
  pub some : 0 < n
  pub few : n ≤ 2048
  pub small : (s : ℕ) → s < n → at chain s < 2048

-- The ring's lines and its kinds as written, and what lies past them as it was.
pub record TracedLines (line : ℕ → ℕ) (n m : ℕ) (up : Bool) (ring ring' : List ℕ) : Type 0 where
  pub written : (j : ℕ) → j < n → at ring' j ≡ line (spot_of n m up j)
  pub rest : Past n ring ring'

pub record TracedKinds (parity line : ℕ → ℕ) (n m : ℕ) (up : Bool) (k : ℕ) (kinds kinds' : List ℕ) : Type 0 where
  pub written : (j : ℕ) → j < n → at kinds' j ≡ kind_of parity line n k (link_of n m up j)
  pub rest : Past n kinds kinds'

-- What writing the ring asks, and what it does.
pub record RingRoom (n : ℕ) (chain ring kinds : List ℕ) : Type 0 where
  pub readable : Readable n chain
  pub ring_room : n ≤ length ring
  pub kind_room : n ≤ length kinds

pub record Written (parity line : ℕ → ℕ) (n k : ℕ) (ring kinds ring' kinds' : List ℕ) : Type 0 where
  pub from_place : ℕ
  pub up : Bool
  pub lowest : LowestPlace n line from_place
  pub upward : Upward n (kind_of parity line n k from_place) (line (wrap n (from_place + 1))) (line (wrap n (from_place + n - 1))) up
  pub its_lines : TracedLines line n from_place up ring ring'
  pub its_kinds : TracedKinds parity line n from_place up k kinds kinds'
