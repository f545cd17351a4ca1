-- What functions inside ask of each other. A reader of the calls' statements need not believe any of it.
use Rattle.std.specs.Prelude.{List, ◌⊎◌, ◌≡◌, ℕ, ◌≤◌, ◌<◌, get_or, length}
use Rattle.laws.specs.Lists.{at}
use Rattle.network.specs.Marks.{absent}
use Rattle.side.specs.Sides.{different}
use Rattle.tree.specs.Tree.{Tree}
use Rattle.tree.specs.Returns.{low}
use Rattle.tree.specs.Words.{Line, TreeLine, Return}
use Rattle.fork.specs.Ends.{high, top}
use Rattle.fork.specs.Link.{Overlap}
use Rattle.fork.specs.Inside.{Finished, Spans}
use Rattle.fork.specs.declared.Forks.{Forks}
use Rattle.meeting.specs.declared.Kept.{Kept}
use Rattle.meeting.specs.declared.Pairs.{Pairs}
use Rattle.groups.specs.Groups.{pointed}
use Rattle.groups.specs.declared.Groups.{Groups}
use Rattle.links.specs.Inside.{Closed, Sound}

-- A tree line has been met where `top` of the table of forks names a line.
abbrev pub Met : Tree → Forks → ℕ → Type 0
Met S forks f = TreeLine S f × (at forks.top f < S.lines)

-- What is met at the height x has its top in the table, and ends no lower than x.
pub record Topped (S : Tree) (x : ℕ) (forks : Forks) (f : ℕ) : Type 0 where
  pub named : at forks.top f ≡ top S f
  pub return : Return S f (top S f)
  pub no_lower : x ≤ high S f

-- The line that one of the tables of pairs has at u. Of the tree lines that leave u and have been met the two with the least lows are kept.
abbrev pub kept : ℕ → ℕ → Kept
kept l t = record { low = l; top = t }

abbrev pub kept_at : List Kept → ℕ → Kept
kept_at table u = get_or table u (kept 0 0)

pub record LongPairs (pairs : Pairs) : Type 0 where
  pub firsts : length pairs.first ≡ 512
  pub seconds : length pairs.second ≡ 512

pub record KeptLine (S : Tree) (forks : Forks) (u l t f : ℕ) : Type 0 where
  pub met : Met S forks f
  pub leaves : S.source f ≡ u
  pub its_low : l ≡ low S f
  pub its_top : t ≡ top S f

pub data TwoLeast (S : Tree) (forks : Forks) (u l₁ t₁ l₂ t₂ : ℕ) : Type 0 where
  none : l₁ ≡ absent → l₂ ≡ absent → ((h : ℕ) → Met S forks h → S.source h ≡ u → ⊥) → TwoLeast S forks u l₁ t₁ l₂ t₂
  one : (f : ℕ) → KeptLine S forks u l₁ t₁ f → l₂ ≡ absent → ((h : ℕ) → Met S forks h → S.source h ≡ u → h ≡ f) → TwoLeast S forks u l₁ t₁ l₂ t₂
  two : (f g : ℕ) → (f ≡ g → ⊥) → KeptLine S forks u l₁ t₁ f → KeptLine S forks u l₂ t₂ g → l₁ ≤ l₂
      → ((h : ℕ) → Met S forks h → S.source h ≡ u → (h ≡ f) ⊎ (h ≡ g) ⊎ (l₂ ≤ low S h)) → TwoLeast S forks u l₁ t₁ l₂ t₂

abbrev pub KeptAt : Tree → Forks → Pairs → ℕ → Type 0
KeptAt S forks pairs u = TwoLeast S forks u (kept_at pairs.first u).low (kept_at pairs.first u).top (kept_at pairs.second u).low (kept_at pairs.second u).top

-- Any two lines that leave u, have been met and overlap have their tops apart.
abbrev pub ApartAt : Tree → Forks → Groups → ℕ → Type 0
ApartAt S forks g u = (f h : ℕ) → Met S forks f → Met S forks h → S.source f ≡ u → S.source h ≡ u → (f ≡ h → ⊥) → Overlap S f h → Closed (pointed g) (top S f) (top S h) different

-- Line e leaves u, b is its top, and it ends at the heights l to x: a back line whose turn has come, or a tree line that b is the first to pass.
pub record Arriving (S : Tree) (b x l u e : ℕ) : Type 0 where
  pub line : Line S e
  pub leaves : S.source e ≡ u
  pub return : Return S e b
  pub its_top : top S e ≡ b
  pub its_high : high S e ≡ x
  pub its_low : low S e ≡ l

-- It may meet what was met before.
pub record Meeting (S : Tree) (b x l u : ℕ) (forks : Forks) (pairs : Pairs) (g : Groups) : Type 0 where
  pub finished : Finished S
  pub spans : Spans S forks
  pub pairs_long : LongPairs pairs
  pub vertex : u < S.vertices
  pub arriving : (e : ℕ) × Arriving S b x l u e × (Met S forks e → ⊥)
  pub topped : (f : ℕ) → Met S forks f → Topped S x forks f
  pub kept : KeptAt S forks pairs u
  pub apart : ApartAt S forks g u
  pub sound : Sound S g

-- Its top is apart from those of all the tree lines there that it overlaps.
abbrev pub MetApart : Tree → ℕ → ℕ → ℕ → ℕ → Forks → Groups → Type 0
MetApart S b x l u forks g' = (e : ℕ) → Arriving S b x l u e → (f : ℕ) → Met S forks f → S.source f ≡ u → Overlap S f e → Closed (pointed g') (top S f) b different

-- A tree line with the low l and the top b is kept at u, if its low is among the two least.
pub record AlikeAt (v : ℕ) (pairs pairs' : Pairs) : Type 0 where
  pub first : kept_at pairs'.first v ≡ kept_at pairs.first v
  pub second : kept_at pairs'.second v ≡ kept_at pairs.second v

pub record Inserted (b l u : ℕ) (pairs pairs' : Pairs) : Type 0 where
  pub long : LongPairs pairs'
  pub first : l < (kept_at pairs.first u).low → (kept_at pairs'.first u ≡ kept l b) × (kept_at pairs'.second u ≡ kept_at pairs.first u)
  pub second : (kept_at pairs.first u).low ≤ l → l < (kept_at pairs.second u).low
      → (kept_at pairs'.first u ≡ kept_at pairs.first u) × (kept_at pairs'.second u ≡ kept l b)
  pub neither : (kept_at pairs.first u).low ≤ l → (kept_at pairs.second u).low ≤ l → AlikeAt u pairs pairs'
  pub elsewhere : (v : ℕ) → v < 512 → (v ≡ u → ⊥) → AlikeAt v pairs pairs'

pub record Insertable (b l u : ℕ) (pairs : Pairs) : Type 0 where
  pub long : LongPairs pairs
  pub vertex : u < 512
  pub line : b < 2048
  pub height : l < 512
