-- What functions inside ask of each other. A reader of the calls' statements need not believe any of it.
use Rattle.std.specs.Prelude.{List, ◌≡◌, ℕ}
use Rattle.side.specs.Sides.{same, different}
use Rattle.tree.specs.Tree.{Tree}
use Rattle.tree.specs.Words.{TreeLine}
use Rattle.fork.specs.Ends.{top}
use Rattle.fork.specs.Fork.{Fork}
use Rattle.fork.specs.Link.{Held, Overlap}
use Rattle.fork.specs.Inside.{Finished, Heights, Parents, Spans, Lows, Tabled, Buckets}
use Rattle.fork.specs.declared.Forks.{Forks}
use Rattle.groups.specs.Groups.{pointed}
use Rattle.groups.specs.declared.Groups.{Groups}
use Rattle.links.specs.Inside.{Closed, Sound}
use Rattle.spans.specs.declared.Jumps.{Jumps}
use Rattle.spans.specs.Inside.{Untopped, Below, Least, Unheld}

-- What the walk by falling ends goes by.
pub record Falling (S : Tree) (vertices : ℕ) (heights parents heads nexts : List ℕ) (jumps : Jumps) (forks : Forks) (g : Groups) : Type 0 where
  pub same_vertices : S.vertices ≡ vertices
  pub finished : Finished S
  pub each_height : Heights S heights
  pub each_parent : Parents S parents
  pub spans : Spans S forks
  pub lows : Lows S forks
  pub untopped : Untopped S forks
  pub buckets : Buckets S forks heads nexts
  pub below : Below S jumps
  pub least : Least S jumps
  pub unheld : Unheld S jumps
  pub sound : Sound S g

-- What it leaves: the tops, each return that a tree line holds tied to its top, and the tops of lines that overlap at a fork tied apart.
pub record Fallen (S : Tree) (forks' : Forks) (g' : Groups) : Type 0 where
  pub tabled : Tabled S forks'
  pub held : (f b : ℕ) → TreeLine S f → Held S f b → (b ≡ top S f → ⊥) → Closed (pointed g') b (top S f) same
  pub apart : (f g : ℕ) → TreeLine S f → Fork S f g → Overlap S f g → Closed (pointed g') (top S f) (top S g) different
