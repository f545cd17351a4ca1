-- The tables that the two walks go by. (What functions inside ask of each other.)
use Rattle.std.specs.Prelude.{List, ◌≡◌, ℕ, ◌*◌, ◌<◌, length}
use Rattle.laws.specs.Lists.{at}
use Rattle.network.specs.Marks.{absent}
use Rattle.network.specs.Network.{first, second}
use Rattle.tree.specs.Tree.{Tree, higher, lower}
use Rattle.tree.specs.Words.{TreeLine, BackLine}
use Rattle.tree.specs.Returns.{end}
use Rattle.fork.specs.Link.{rival}
use Rattle.fork.specs.Inside.{Finished, Kinds, Heights, Parents, LongForks, Spans}
use Rattle.fork.specs.declared.Forks.{Forks}
use Rattle.spans.specs.declared.Jumps.{Jumps}

-- What `high` and `top` have before a line is met: a back line is its own top; a tree line has 0 and the number of lines.
pub record Untopped (S : Tree) (t : Forks) : Type 0 where
  pub back_highs : (b : ℕ) → BackLine S b → at t.high b ≡ end S b
  pub back_tops : (b : ℕ) → BackLine S b → at t.top b ≡ b
  pub tree_highs : (f : ℕ) → TreeLine S f → at t.high f ≡ 0
  pub tree_tops : (f : ℕ) → TreeLine S f → at t.top f ≡ S.lines

-- What `low` has before the bottoms are known: a back line's low is its end.
pub record Unlowed (S : Tree) (t : Forks) : Type 0 where
  pub back_lows : (b : ℕ) → BackLine S b → at t.low b ≡ end S b

-- The table of jumps has 512 places in each of its columns, one a vertex.
pub record LongJumps (jumps : Jumps) : Type 0 where
  pub onwards : length jumps.onward ≡ 512
  pub leasts : length jumps.least ≡ 512
  pub helds : length jumps.held ≡ 512

-- At the start of the walk by rising ends: the vertex below each.
pub record Below (S : Tree) (jumps : Jumps) : Type 0 where
  pub long : LongJumps jumps
  pub each : (v : ℕ) → v < S.vertices → 0 < S.height v → at jumps.onward v ≡ S.source (S.parent v)

-- At the start of the walk by falling ends: the rival of the tree line up to each, and nothing held.
pub record Least (S : Tree) (jumps : Jumps) : Type 0 where
  pub each : (v : ℕ) → v < S.vertices → 0 < S.height v → at jumps.least v ≡ rival S (S.parent v)

pub record Unheld (S : Tree) (jumps : Jumps) : Type 0 where
  pub each : (v : ℕ) → v < S.vertices → at jumps.held v ≡ absent

-- The ends of the lines: both are vertices; a tree line goes up from the lower of them, a back line down from the higher.
pub record Directed (S : Tree) (ends heights : List ℕ) : Type 0 where
  pub long : length ends ≡ 2 * S.lines
  pub first_in : (k : ℕ) → k < S.lines → first ends k < 512
  pub second_in : (k : ℕ) → k < S.lines → second ends k < 512
  pub tree_source : (k : ℕ) → TreeLine S k → S.source k ≡ lower ends heights k
  pub back_source : (k : ℕ) → BackLine S k → S.source k ≡ higher ends heights k
  pub back_target : (k : ℕ) → BackLine S k → S.target k ≡ lower ends heights k

-- What `span` goes by, and what it leaves.
pub record Spannable (S : Tree) (lines : ℕ) (ends kinds heights : List ℕ) (forks : Forks) : Type 0 where
  pub same_lines : S.lines ≡ lines
  pub finished : Finished S
  pub ended : Directed S ends heights
  pub each_kind : Kinds S kinds
  pub each_height : Heights S heights
  pub long : LongForks forks

pub record Spanned (S : Tree) (forks' : Forks) : Type 0 where
  pub spans : Spans S forks'
  pub unlowed : Unlowed S forks'
  pub untopped : Untopped S forks'

-- What `lower` goes by.
pub record Lowerable (S : Tree) (vertices : ℕ) (heights parents : List ℕ) (forks : Forks) (jumps : Jumps) : Type 0 where
  pub same_vertices : S.vertices ≡ vertices
  pub finished : Finished S
  pub each_height : Heights S heights
  pub each_parent : Parents S parents
  pub spans : Spans S forks
  pub long : LongJumps jumps
  pub unheld : Unheld S jumps

pub record Lowered (S : Tree) (jumps' : Jumps) : Type 0 where
  pub below : Below S jumps'
  pub unheld : Unheld S jumps'
