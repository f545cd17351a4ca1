-- What the functions ask of each other and tell each other, of the lists in their buffers. A reader of the calls' statements need not believe any of it.
use Rattle.std.specs.Prelude.{Bool, true, false, List, Option, Some, None, ◌⊎◌, ◌≡◌, ℕ, ◌+◌, ◌%◌, ◌≤◌, ◌<◌, length}
use Rattle.laws.specs.Lists.{at, Agree, Past}
use Rattle.groups.specs.Constraints.{Even}
use Rattle.groups.specs.Pointers.{Long, PointsDown, OwnSide, BaseParity}
use Rattle.groups.specs.Groups.{Tables, columns, pointed, Merged, Turned, Pivot, NoPivot}
use Rattle.groups.specs.declared.Groups.{Groups}
use Rattle.groups.specs.declared.Joining.{Joining}
use Rattle.groups.specs.declared.Joining.TheVariants.{Agrees, Conflicts, Joins}

-- The tables agree on the first n lines.
pub record Alike (n : ℕ) (t t' : Tables) : Type 0 where
  pub leaders : (x : ℕ) → x < n → t'.leader x ≡ t.leader x
  pub parities : (x : ℕ) → x < n → t'.parity x ≡ t.parity x
  pub froms : (x : ℕ) → x < n → t'.from x ≡ t.from x
  pub tos : (x : ℕ) → x < n → t'.to x ≡ t.to x

-- No pointer leads up, and a line that points to itself lies on its own side. (So it is in every table: `pointing`, proofs/Pointers.antt.)
pub record Pointing (g : Groups) : Type 0 where
  pub long : Long g.leader g.parity g.from g.to
  pub down : PointsDown g.leader
  pub own : OwnSide g.leader g.parity

-- The table at the start: each line leads itself.
pub record Started (lines : ℕ) (kinds : List ℕ) (g : Groups) : Type 0 where
  pub leaders : (b : ℕ) → b < lines → (pointed g).leader b ≡ b
  pub parities : (b : ℕ) → b < lines → BaseParity (at kinds b) ((pointed g).parity b)
  pub froms : (b : ℕ) → b < lines → (pointed g).from b ≡ b
  pub tos : (b : ℕ) → b < lines → (pointed g).to b ≡ b

-- A constraint that is to be taken in.
pub record Joinable (b d : ℕ) : Type 0 where
  pub first : b < 2048
  pub second : d < 2048

-- A pointer that is to be drawn past the line y that it leads to.
pub record Passable (x y : ℕ) (g : Groups) : Type 0 where
  pub within : x < 2048
  pub next : y ≡ at g.leader x
  pub less : y < x

-- It leads to where y's does, and its turn is that of both. What the table stands for is the same.
pub record PassedBy (x y : ℕ) (g g' : Groups) : Type 0 where
  pub alike : Alike 2048 (pointed g) (pointed g')
  pub next : at g'.leader x ≡ at g.leader y
  pub turn : (columns g').parity x ≡ ((columns g).parity x + (columns g).parity y) % 2
  pub leaders : (w : ℕ) → w < 2048 → (w ≡ x → ⊥) → at g'.leader w ≡ at g.leader w
  pub parities : (w : ℕ) → w < 2048 → (w ≡ x → ⊥) → (columns g').parity w ≡ (columns g).parity w

-- The leader of b was looked up, with b's turn against it.
pub record LookedUp (b : ℕ) (g g' : Groups) (line turn : ℕ) : Type 0 where
  pub alike : Alike 2048 (pointed g) (pointed g')
  pub leader : (pointed g).leader b ≡ line
  pub within : line < 2048
  pub leads : (pointed g).leader line ≡ line
  pub turned : Even (turn + (pointed g).parity b)

-- Two leaders, of which the higher is to point to the lower, by a constraint between b and d.
pub record Mergeable (low high b d : ℕ) (g : Groups) : Type 0 where
  pub first : b < 2048
  pub second : d < 2048
  pub less : low < high
  pub within : high < 2048
  pub low_leads : (pointed g).leader low ≡ low
  pub high_leads : (pointed g).leader high ≡ high

pub record GivenOver (low high turn b d : ℕ) (g g' : Groups) : Type 0 where
  pub merged : Merged 2048 low high turn b d (pointed g) (pointed g')

-- Two groups became one.
pub record Joined (lines b d kind : ℕ) (t t' : Tables) : Type 0 where
  pub low : ℕ
  pub high : ℕ
  pub less : low < high
  pub who : ((t.leader b ≡ low) × (t.leader d ≡ high)) ⊎ ((t.leader b ≡ high) × (t.leader d ≡ low))
  pub merged : Merged lines low high ((t.parity b + t.parity d + kind) % 2) b d t t'

-- What taking in a constraint answers.
abbrev pub JoiningGives : ℕ → ℕ → ℕ → Tables → Tables → Joining → Type 0
JoiningGives b d kind t t' Agrees = (t.leader b ≡ t.leader d) × Even (t.parity b + t.parity d + kind) × Alike 2048 t t'
JoiningGives b d kind t t' Conflicts = (t.leader b ≡ t.leader d) × ((t.parity b + t.parity d + kind) % 2 ≡ 1) × Alike 2048 t t'
JoiningGives b d kind t t' Joins = Joined 2048 b d kind t t'

pub record Replied (b d kind : ℕ) (g g' : Groups) (r : Joining) : Type 0 where
  pub answer : JoiningGives b d kind (pointed g) (pointed g') r

-- The columns themselves say what the pointers stood for.
pub record Flattened (lines : ℕ) (g g' : Groups) : Type 0 where
  pub alike : Alike lines (pointed g) (columns g')

-- The choice's buffer and the groups for it.
pub record Reading (lines : ℕ) (g : Groups) (choice : List ℕ) : Type 0 where
  pub few : lines ≤ 2048
  pub bytes : lines ≤ length choice
  pub inside : (x : ℕ) → x < lines → (columns g).leader x < lines

-- The parities are copied into the choice.
pub record Copied (lines : ℕ) (g : Groups) (choice choice' : List ℕ) : Type 0 where
  pub bytes : Agree lines (at choice') (columns g).parity
  pub rest : Past lines choice choice'

-- What the search for the pivot among the lines below n finds: the pivot, where there is one.
abbrev pub Sought : ℕ → (ℕ → ℕ) → (ℕ → ℕ) → Option ℕ → Type 0
Sought n leader c (Some r) = Pivot n leader c r
Sought n leader c None = NoPivot n leader c

-- The choice is turned at r.
pub record Rewritten (lines r : ℕ) (g : Groups) (choice choice' : List ℕ) : Type 0 where
  pub bytes : Turned lines (columns g).leader (columns g).parity (at choice) r (at choice')
  pub rest : Past lines choice choice'

pub record Advanced (lines : ℕ) (g : Groups) (choice choice' : List ℕ) : Type 0 where
  pub pivot : ℕ
  pub highest : Pivot lines (columns g).leader (at choice) pivot
  pub turned : Rewritten lines pivot g choice choice'

pub record Stuck (lines : ℕ) (g : Groups) (choice choice' : List ℕ) : Type 0 where
  pub none : NoPivot lines (columns g).leader (at choice)
  pub same : choice' ≡ choice

-- What the step to the next choice does: true and the step, or false where there is no pivot, and the choice is as it was.
abbrev pub StepGives : ℕ → Groups → List ℕ → List ℕ → Bool → Type 0
StepGives lines g choice choice' true = Advanced lines g choice choice'
StepGives lines g choice choice' false = Stuck lines g choice choice'
