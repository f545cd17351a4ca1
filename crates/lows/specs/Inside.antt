-- What functions inside ask of each other. A reader of the calls' statements need not believe any of it.
use Rattle.std.specs.Prelude.{List, ◌≡◌, ℕ, ◌<◌, length}
use Rattle.laws.specs.Lists.{at}
use Rattle.tree.specs.Tree.{Tree}
use Rattle.tree.specs.Returns.{low}
use Rattle.fork.specs.Link.{rival}
use Rattle.fork.specs.Inside.{Finished, Heights, Parents, Spans, Lows}
use Rattle.fork.specs.declared.Forks.{Forks}
use Rattle.spans.specs.Inside.{Unlowed, Untopped, Below, Least, Unheld}
use Rattle.spans.specs.declared.Jumps.{Jumps}
use Rattle.rising.specs.Inside.{Bottoms}

-- What `measure` goes by, and what it leaves.
pub record Bottomed (S : Tree) (vertices : ℕ) (heights parents bottoms : List ℕ) (forks : Forks) : Type 0 where
  pub same_vertices : S.vertices ≡ vertices
  pub finished : Finished S
  pub each_height : Heights S heights
  pub each_parent : Parents S parents
  pub each_bottom : Bottoms S bottoms
  pub spans : Spans S forks
  pub unlowed : Unlowed S forks
  pub untopped : Untopped S forks

pub record Plumbed (S : Tree) (forks' : Forks) : Type 0 where
  pub spans : Spans S forks'
  pub lows : Lows S forks'
  pub untopped : Untopped S forks'

-- What `rivals` goes by, and what it leaves.
pub record Comparable (S : Tree) (vertices lines : ℕ) (heights parents : List ℕ) (forks : Forks) (jumps : Jumps) : Type 0 where
  pub same_vertices : S.vertices ≡ vertices
  pub same_lines : S.lines ≡ lines
  pub finished : Finished S
  pub each_height : Heights S heights
  pub each_parent : Parents S parents
  pub spans : Spans S forks
  pub lows : Lows S forks
  pub below : Below S jumps
  pub unheld : Unheld S jumps

pub record Compared (S : Tree) (jumps' : Jumps) : Type 0 where
  pub below : Below S jumps'
  pub least : Least S jumps'
  pub unheld : Unheld S jumps'

-- What the pass over the lines goes by: two tables that have each vertex's height.
pub record Weighable (S : Tree) (lines : ℕ) (forks : Forks) (firsts seconds : List ℕ) : Type 0 where
  pub same_lines : S.lines ≡ lines
  pub finished : Finished S
  pub spans : Spans S forks
  pub lows : Lows S forks
  pub each_first : Heights S firsts
  pub each_second : Heights S seconds

-- It leaves two values for each vertex that decide the rival of each line that leaves it: the second where the line's low is the first, else the first.
pub record Weighed (S : Tree) (firsts seconds : List ℕ) : Type 0 where
  pub firsts_long : length firsts ≡ 512
  pub seconds_long : length seconds ≡ 512
  pub own : (f : ℕ) → f < S.lines → low S f ≡ at firsts (S.source f) → at seconds (S.source f) ≡ rival S f
  pub other : (f : ℕ) → f < S.lines → (low S f ≡ at firsts (S.source f) → ⊥) → at firsts (S.source f) ≡ rival S f
