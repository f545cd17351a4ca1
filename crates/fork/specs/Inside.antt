-- Tables of a finished search, and of what lines are like. (What functions inside ask of each other.)
use Rattle.std.specs.Prelude.{List, ◌≡◌, ℕ, ◌*◌, ◌≤◌, ◌<◌, get_or, length, replicate}
use Rattle.laws.specs.Lists.{at}
use Rattle.laws.specs.Chains.{Chained}
use Rattle.tree.specs.Tree.{Tree}
use Rattle.tree.specs.Returns.{end, low}
use Rattle.tree.specs.Words.{Line, TreeLine, BackLine}
use Rattle.tree.specs.Searched.{Searched}
use Rattle.tree.specs.Grown.{Grown}
use Rattle.fork.specs.Ends.{high, top}
use Rattle.fork.specs.declared.Forks.{Forks}

-- The tables are those of a finished search: within the limits, grown, and every line a tree line or a back line.
pub record Known (n m : ℕ) (ends kinds heights parents : List ℕ) : Type 0 where
  pub grown : Grown n m ends kinds heights parents
  pub every : (k : ℕ) → k < m → get_or kinds k 0 < 2
  pub few_vertices : n ≤ 512
  pub few_lines : m ≤ 2048
  pub ends_long : length ends ≡ 2 * m
  pub kinds_long : length kinds ≡ 2048
  pub heights_long : length heights ≡ 512
  pub parents_long : length parents ≡ 512

-- S is the tree of a finished search, within the limits, and every line is in it.
pub record Finished (S : Tree) : Type 0 where
  pub few_vertices : S.vertices ≤ 512
  pub few_lines : S.lines ≤ 2048
  pub every : (k : ℕ) → k < S.lines → Line S k
  pub searched : Searched S

-- The tables of the search: the kind of each line; the height of each vertex, and the line that leads up to it.
pub record Kinds (S : Tree) (kinds : List ℕ) : Type 0 where
  pub long : length kinds ≡ 2048
  pub tree : (k : ℕ) → k < S.lines → at kinds k ≡ 0 → TreeLine S k
  pub is_tree : (k : ℕ) → TreeLine S k → at kinds k ≡ 0
  pub back : (k : ℕ) → k < S.lines → (at kinds k ≡ 0 → ⊥) → BackLine S k
  pub is_back : (k : ℕ) → BackLine S k → at kinds k ≡ 1

pub record Heights (S : Tree) (heights : List ℕ) : Type 0 where
  pub long : length heights ≡ 512
  pub each : (v : ℕ) → v < S.vertices → at heights v ≡ S.height v

pub record Parents (S : Tree) (parents : List ℕ) : Type 0 where
  pub long : length parents ≡ 512
  pub each : (v : ℕ) → v < S.vertices → at parents v ≡ S.parent v

-- The table of forks has 2,048 places in each of its columns, one a line.
pub record LongForks (t : Forks) : Type 0 where
  pub sources : length t.source ≡ 2048
  pub stops : length t.stop ≡ 2048
  pub lows : length t.low ≡ 2048
  pub highs : length t.high ≡ 2048
  pub tops : length t.top ≡ 2048

-- A table of zeros.
pub record BlankForks (t : Forks) : Type 0 where
  pub sources : t.source ≡ replicate 2048 0
  pub stops : t.stop ≡ replicate 2048 0
  pub lows : t.low ≡ replicate 2048 0
  pub highs : t.high ≡ replicate 2048 0
  pub tops : t.top ≡ replicate 2048 0

-- Two of the columns: the vertex that the line leaves, and the height at which it ends if it is a back line; a tree line has 512, which is no height.
pub record Spans (S : Tree) (t : Forks) : Type 0 where
  pub long : LongForks t
  pub sources : (k : ℕ) → k < S.lines → at t.source k ≡ S.source k
  pub stops : (b : ℕ) → BackLine S b → at t.stop b ≡ end S b
  pub no_stops : (f : ℕ) → TreeLine S f → at t.stop f ≡ 512

-- How low the line's returns end.
pub record Lows (S : Tree) (t : Forks) : Type 0 where
  pub each : (k : ℕ) → k < S.lines → at t.low k ≡ low S k

-- How high they end, and the one of them with the lowest number that ends so high; 0 and the number of lines where there is none.
pub record Tops (S : Tree) (t : Forks) : Type 0 where
  pub highs : (k : ℕ) → k < S.lines → at t.high k ≡ high S k
  pub tops : (k : ℕ) → k < S.lines → at t.top k ≡ top S k

-- All of them.
pub record Tabled (S : Tree) (t : Forks) : Type 0 where
  pub spans : Spans S t
  pub lows : Lows S t
  pub tops : Tops S t

-- The back lines chained by the heights at which they end. (The chain of 512 has the tree lines, and nobody goes along it.)
abbrev pub Buckets : Tree → Forks → List ℕ → List ℕ → Type 0
Buckets S t heads nexts = Chained 513 2048 S.lines (at t.stop) heads nexts
