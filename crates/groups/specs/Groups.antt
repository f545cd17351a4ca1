-- Groups of back lines that constraints hold together, in tables. Of each group one line, the lowest, leads.
-- A constraint is taken in by joining the groups of its two lines: the group of the higher leader is given to the lower one.
use Rattle.std.specs.Prelude.{Bool, false, cond, ◌⊎◌, ◌≡◌, ℕ, zero, suc, ◌+◌, ◌-◌, ◌%◌, ◌≤◌, ◌<◌, eqb, leb}
use Rattle.laws.specs.Tests.{both, all}
use Rattle.laws.specs.Lists.{at}
use Rattle.groups.specs.Constraints.{Constraints, Even, Keeps, Sided}
use Rattle.groups.specs.declared.Groups.{Groups}

-- By lines: the leader of its group; its side where the leader is left, with 2 at a tree line; and the two lines of the constraint that joined
-- the group it led to another, both the line itself where there is none.
pub record Tables : Type 0 where
  pub leader : ℕ → ℕ
  pub parity : ℕ → ℕ
  pub from : ℕ → ℕ
  pub to : ℕ → ℕ

-- .. as the columns of the table that the code has.
abbrev pub columns : Groups → Tables
columns g = record { leader = at g.leader; parity = at g.parity; from = at g.from; to = at g.to }

-- While constraints are taken in, the column `leader` points: a line to a lower one of its group, or to itself where it leads; and `parity` says whether
-- the line is on the other side of that one. Where n steps along the pointers lead, and what the turns on the way come to.
unfoldable pub root : (ℕ → ℕ) → ℕ → ℕ → ℕ
root up zero x = x
root up (suc n) x = root up n (up x)

unfoldable pub facing : (ℕ → ℕ) → (ℕ → ℕ) → ℕ → ℕ → ℕ
facing up entry zero x = entry x
facing up entry (suc n) x = cond (eqb (up x) x) (entry x) ((entry x + facing up entry n (up x)) % 2)

-- .. and what the table then stands for: no pointer leads up, so a line's own number of steps is enough.
unfoldable pub pointed : Groups → Tables
pointed g =
    record {
      leader = λ b. root (columns g).leader b b;
      parity = λ b. facing (columns g).leader (columns g).parity b b;
      from = (columns g).from;
      to = (columns g).to;
    }

-- A constraint that joined two groups was one between u and v.
pub record Joins (lines : ℕ) (from to : ℕ → ℕ) (u v : ℕ) : Type 0 where
  pub place : ℕ
  pub within : place < lines
  pub is_from : from place ≡ u
  pub is_to : to place ≡ v

-- A way from a along steps, taken in either direction.
pub data Way (J : ℕ → ℕ → Type 0) (a : ℕ) : ℕ → Type 0 where
  stay : Way J a a
  onward : {b d : ℕ} → Way J a b → J b d ⊎ J d b → Way J a d

-- What the tables say where P are the constraints taken in.
pub record Grouped (lines : ℕ) (back : ℕ → Bool) (P : Constraints) (t : Tables) : Type 0 where
  -- a group is led by its lowest line
  pub low : (b : ℕ) → b < lines → t.leader b ≤ b
  pub home : (b : ℕ) → b < lines → t.leader (t.leader b) ≡ t.leader b
  -- a tree line is in no group but its own
  pub tree : (b : ℕ) → b < lines → back b ≡ false → (t.leader b ≡ b) × (t.parity b ≡ 2)
  pub kin : (b : ℕ) → Sided lines back b → Sided lines back (t.leader b)
  pub side : (b : ℕ) → Sided lines back b → t.parity b ≤ 1
  pub base : (b : ℕ) → Sided lines back b → t.leader b ≡ b → t.parity b ≡ 0
  -- each constraint is within a group, and the parities are as it wants them
  pub ends : (b d k : ℕ) → P b d k → Sided lines back b × Sided lines back d
  pub closed : (b d k : ℕ) → P b d k → (t.leader b ≡ t.leader d) × Even (t.parity b + t.parity d + k)
  -- sides that keep the constraints are told by those of the leaders
  pub told : (s : ℕ → ℕ) → Keeps P s → (b : ℕ) → Sided lines back b → Even (s (t.leader b) + s b + t.parity b)
  -- the constraints that joined groups lead from a leader to every line of its group
  pub inside : (x : ℕ) → x < lines → (t.from x < lines) × (t.to x < lines)
  pub idle : (x : ℕ) → x < lines → t.leader x ≡ x → t.from x ≡ t.to x
  pub taken : (x : ℕ) → x < lines → (t.from x ≡ t.to x) ⊎ P (t.from x) (t.to x) ((t.parity (t.from x) + t.parity (t.to x)) % 2)
  pub way : (b : ℕ) → Sided lines back b → Way (Joins lines t.from t.to) (t.leader b) b

-- g is f with x at v.
pub record PutAt (f : ℕ → ℕ) (v x : ℕ) (g : ℕ → ℕ) : Type 0 where
  pub here : g v ≡ x
  pub there : (b : ℕ) → (b ≡ v → ⊥) → g b ≡ f b

-- .. as far as lines go.
pub record PutBelow (lines : ℕ) (f : ℕ → ℕ) (v x : ℕ) (g : ℕ → ℕ) : Type 0 where
  pub here : g v ≡ x
  pub there : (b : ℕ) → b < lines → (b ≡ v → ⊥) → g b ≡ f b

-- A line of the group of `high` goes over to `low`, and its parity turns by `turn`; the others stay as they are.
pub record Relabel (low high turn l p l' p' : ℕ) : Type 0 where
  pub moved : l ≡ high → (l' ≡ low) × (p' ≡ (p + turn) % 2)
  pub stays : (l ≡ high → ⊥) → (l' ≡ l) × (p' ≡ p)

pub record Relabelled (lines low high turn : ℕ) (leader parity leader' parity' : ℕ → ℕ) : Type 0 where
  pub each : (x : ℕ) → x < lines → Relabel low high turn (leader x) (parity x) (leader' x) (parity' x)

-- The group of `high` is given to `low` by a constraint between b and d.
pub record Merged (lines low high turn b d : ℕ) (t t' : Tables) : Type 0 where
  pub groups : Relabelled lines low high turn t.leader t.parity t'.leader t'.parity
  pub from : PutBelow lines t.from high b t'.from
  pub to : PutBelow lines t.to high d t'.to

-- The new byte z of a line with the leader l, the parity y and the byte x, where the group of r is turned: the groups of lower leaders are kept, and
-- those of higher leaders begin anew.
pub record Recoloured (l y x r z : ℕ) : Type 0 where
  pub keep : l < r → z ≡ x
  pub turn : l ≡ r → z ≡ 1 - x
  pub anew : r < l → z ≡ y

abbrev pub Turned : ℕ → (ℕ → ℕ) → (ℕ → ℕ) → (ℕ → ℕ) → ℕ → (ℕ → ℕ) → Type 0
Turned lines leader parity c r d = (b : ℕ) → b < lines → Recoloured (leader b) (parity b) (c b) r (d b)

-- r is the highest line below n that leads and is left.
pub record Pivot (n : ℕ) (leader c : ℕ → ℕ) (r : ℕ) : Type 0 where
  pub within : r < n
  pub leads : leader r ≡ r
  pub left : c r ≡ 0
  pub above : (s : ℕ) → r < s → s < n → leader s ≡ s → c s ≡ 0 → ⊥

abbrev pub NoPivot : ℕ → (ℕ → ℕ) → (ℕ → ℕ) → Type 0
NoPivot n leader c = (s : ℕ) → s < n → leader s ≡ s → c s ≡ 0 → ⊥

-- A byte x of a line with the parity p, whose leader has the byte y, is as the groups want it.
unfoldable pub fitb : ℕ → ℕ → ℕ → Bool
fitb p x y = cond (eqb p 2) (eqb x 2) (both (leb x 1) (eqb ((y + x + p) % 2) 0))

-- All bytes of a choice are.
unfoldable pub fitsb : ℕ → (ℕ → ℕ) → (ℕ → ℕ) → (ℕ → ℕ) → Bool
fitsb lines leader parity c = all (λ b. fitb (parity b) (c b) (c (leader b))) lines
