-- What functions inside ask of each other. A reader of the calls' statements need not believe any of it.
use Rattle.std.specs.Prelude.{List, Option, Some, None, ◌⊎◌, ◌≡◌, ℕ, suc, ◌≤◌, ◌<◌, length}
use Rattle.laws.specs.Lists.{at}
use Rattle.network.specs.Marks.{absent}
use Rattle.side.specs.Sides.{same}
use Rattle.tree.specs.Tree.{Tree}
use Rattle.tree.specs.Returns.{end}
use Rattle.tree.specs.Words.{TreeLine, BackLine, Above, Return}
use Rattle.fork.specs.Ends.{Lowest, bottom}
use Rattle.fork.specs.Inside.{Finished, Heights, Spans, Buckets}
use Rattle.fork.specs.declared.Forks.{Forks}
use Rattle.groups.specs.Groups.{pointed}
use Rattle.groups.specs.declared.Groups.{Groups}
use Rattle.links.specs.Inside.{Closed, Sound}
use Rattle.spans.specs.Inside.{Below}
use Rattle.spans.specs.declared.Jumps.{Jumps}

-- The bottom of the tree line up to each vertex, where it has a return.
pub record Bottoms (S : Tree) (bottoms : List ℕ) : Type 0 where
  pub long : length bottoms ≡ 512
  pub some : (v b : ℕ) → v < S.vertices → 0 < S.height v → Return S (S.parent v) b → at bottoms v ≡ bottom S (S.parent v)
  pub none : (v : ℕ) → v < S.vertices → 0 < S.height v → ((b : ℕ) → Return S (S.parent v) b → ⊥) → at bottoms v ≡ absent

-- What the walk by rising ends goes by.
pub record Rising (S : Tree) (vertices : ℕ) (heights : List ℕ) (jumps : Jumps) (heads nexts : List ℕ) (forks : Forks) (bottoms : List ℕ) (g : Groups) : Type 0 where
  pub same_vertices : S.vertices ≡ vertices
  pub finished : Finished S
  pub each_height : Heights S heights
  pub below : Below S jumps
  pub spans : Spans S forks
  pub buckets : Buckets S forks heads nexts
  pub bottoms_long : length bottoms ≡ 512
  pub no_bottoms : (v : ℕ) → v < 512 → at bottoms v ≡ absent
  pub sound : Sound S g

-- What it leaves: the bottoms, and the lowest returns of each tree line tied to its bottom.
pub record Risen (S : Tree) (bottoms' : List ℕ) (g' : Groups) : Type 0 where
  pub each_bottom : Bottoms S bottoms'
  pub lowest : (f b : ℕ) → TreeLine S f → Lowest S f b → (b ≡ bottom S f → ⊥) → Closed (pointed g') b (bottom S f) same

-- c comes before b, a back line that ends at x: it ends lower, or as low and has a lower number.
abbrev pub RisesBefore : Tree → ℕ → ℕ → ℕ → Type 0
RisesBefore S x b c = (end S c < x) ⊎ ((end S c ≡ x) × (c < b))

-- What the table of bottoms has for tree line f when the back lines before b were taken: nothing while none of them is a return of f, and then the bottom.
abbrev pub Stands : Tree → ℕ → ℕ → ℕ → ℕ → Type 0
Stands S x b f c = ((c ≡ absent) × ((d : ℕ) → Return S f d → RisesBefore S x b d → ⊥)) ⊎ ((c ≡ bottom S f) × Return S f c × RisesBefore S x b c)

-- The tables when the back lines before b were taken.
pub record Raised (S : Tree) (x b : ℕ) (bottoms : List ℕ) (g : Groups) : Type 0 where
  pub long : length bottoms ≡ 512
  pub each : (v : ℕ) → v < S.vertices → 0 < S.height v → Stands S x b (S.parent v) (at bottoms v)
  pub lowest : (f c : ℕ) → TreeLine S f → Lowest S f c → RisesBefore S x b c → (c ≡ bottom S f → ⊥) → Closed (pointed g) c (bottom S f) same

-- What one back line's way down goes by.
pub record Sinkable (S : Tree) (b : ℕ) (heights : List ℕ) (jumps : Jumps) (forks : Forks) (bottoms : List ℕ) : Type 0 where
  pub finished : Finished S
  pub each_height : Heights S heights
  pub below : Below S jumps
  pub spans : Spans S forks
  pub back_line : BackLine S b
  pub long : length bottoms ≡ 512

-- Where it stopped: at a vertex on its way; the vertices of the way above that had no bottom and have b now, and all others are as they were.
pub record SunkTo (S : Tree) (b : ℕ) (bottoms bottoms' : List ℕ) (stop : ℕ) : Type 0 where
  pub long : length bottoms' ≡ 512
  pub inside : stop < S.vertices
  pub on_way : Above S stop (S.source b)
  pub over : end S b < S.height stop
  pub passed : (v : ℕ) → v < S.vertices → Above S v (S.source b) → S.height stop < S.height v → (at bottoms v ≡ absent) × (at bottoms' v ≡ b)
  pub others : (v : ℕ) → v < S.vertices → (Above S v (S.source b) → S.height stop < S.height v → ⊥) → at bottoms' v ≡ at bottoms v

-- What stopped it, as a table has it: nothing is the mark.
abbrev pub marked : Option ℕ → ℕ
marked None = absent
marked (Some c) = c

-- .. and why: it came to its end, or to a tree line that has a bottom, c.
pub record Sunk (S : Tree) (b : ℕ) (bottoms bottoms' : List ℕ) (c : ℕ) : Type 0 where
  pub stop : ℕ
  pub way : SunkTo S b bottoms bottoms' stop
  pub why : ((c ≡ absent) × (S.height stop ≤ suc (end S b))) ⊎ ((c ≡ at bottoms stop) × (c ≡ absent → ⊥) × (suc (end S b) < S.height stop))

-- A back line's turn.
pub record Settleable (S : Tree) (b : ℕ) (heights : List ℕ) (jumps : Jumps) (forks : Forks) (bottoms : List ℕ) (g : Groups) : Type 0 where
  pub sinkable : Sinkable S b heights jumps forks bottoms
  pub raised : Raised S (end S b) b bottoms g
  pub sound : Sound S g
