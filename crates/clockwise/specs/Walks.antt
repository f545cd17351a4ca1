-- The walk that discovers the back lines and puts them into groups. (What functions inside ask of each other.)
use Rattle.std.specs.Prelude.{Bool, List, ◌++◌, reverse, ◌≡◌, ℕ, suc, ◌+◌, ◌*◌, ◌≤◌, ◌<◌, eqb, get_or, length}
use Rattle.laws.specs.Tests.{both, least}
use Rattle.laws.specs.Counting.{many}
use Rattle.laws.specs.Lists.{keep, at}
use Rattle.laws.proofs.Lists.{All}
use Rattle.network.specs.Marks.{absent}
use Rattle.tree.specs.Tree.{Tree}
use Rattle.tree.specs.Returns.{end}
use Rattle.tree.specs.Words.{TreeLine, BackLine, Above, Leaves}
use Rattle.fork.specs.Inside.{Finished, Parents, Spans}
use Rattle.fork.specs.declared.Forks.{Forks}
use Rattle.fans.specs.Fan.{fan}
use Rattle.fans.specs.declared.chains.Chains.{Chains}
use Rattle.fans.specs.Chains.{ListsChained}
use Rattle.clockwise.specs.Order.{discovered}

-- The lines that leave each vertex, each once.
pub record Fanned (S : Tree) (out : ℕ → List ℕ) : Type 0 where
  pub leaves : (v : ℕ) → v < S.vertices → All (Leaves S v) (out v)
  pub once : (v k : ℕ) → v < S.vertices → Leaves S v k → many k (out v) ≡ 1

-- b is a back line that starts at or above v.
pub record Over (S : Tree) (v b : ℕ) : Type 0 where
  pub is_back : BackLine S b
  pub from : Above S v (S.source b)

-- A finished search with n vertices and one root, vertex 0, and its table of parents.
pub record Rooted (S : Tree) (n : ℕ) (parents : List ℕ) : Type 0 where
  pub same_vertices : S.vertices ≡ n
  pub some_vertex : 0 < n
  pub finished : Finished S
  pub leads : Parents S parents
  pub root_low : S.height 0 ≡ 0
  pub rooted : (v : ℕ) → v < n → Above S 0 v

-- The vertex above each tree line, and nothing at any other place.
pub record Uppers (S : Tree) (t : List ℕ) : Type 0 where
  pub long : length t ≡ 2048
  pub trees : (f : ℕ) → TreeLine S f → get_or t f 0 ≡ S.target f
  pub others : (k : ℕ) → k < 2048 → (TreeLine S k → ⊥) → get_or t k 0 ≡ absent

-- w is the stem of b: the vertex one above the height at which b ends, on the way up to where b starts.
pub record Stem (S : Tree) (b w : ℕ) : Type 0 where
  pub inside : w < S.vertices
  pub over : Above S w (S.source b)
  pub level : S.height w ≡ suc (end S b)

unfoldable pub stemb : Tree → ℕ → ℕ → Bool
stemb S b w = both (S.above w (S.source b)) (eqb (S.height w) (suc (end S b)))

unfoldable pub stem_of : Tree → ℕ → ℕ
stem_of S b = least (stemb S b) S.vertices

-- The group of a back line, by its stem and its side; and a group's lines among those found, those found later first.
abbrev pub group_of : Tree → (ℕ → ℕ) → ℕ → ℕ
group_of S side b = 2 * stem_of S b + side b

abbrev pub groups_of : Tree → (ℕ → ℕ) → List ℕ → ℕ → List ℕ
groups_of S side found g = reverse (keep (λ b. eqb (group_of S side b) g) found)

-- Line e has a place in the tables by which it finds its group.
pub record Collectable (e : ℕ) (forks : Forks) (choice path : List ℕ) : Type 0 where
  pub line_in : e < 2048
  pub in_choice : e < length choice
  pub stop_in : at forks.stop e < 512
  pub stem_in : get_or path (at forks.stop e) 0 < 512
  pub side_in : get_or choice e 0 ≤ 1

-- A contract of the walk speaks of a tree and of the lines found so far, which no parameter holds.
pub record SomeWalk (Asked : Tree → List ℕ → Type 0) : Type 0 where
  pub tree : Tree
  pub found : List ℕ
  pub asked : Asked tree found

abbrev pub EachWalk : (Tree → List ℕ → Type 0) → (Tree → List ℕ → Type 0) → Type 0
EachWalk Asked Promised = (S : Tree) (found : List ℕ) → Asked S found → Promised S found

-- u stands at height j on the way to v.
pub record OnPath (S : Tree) (v j u : ℕ) : Type 0 where
  pub inside : u < S.vertices
  pub above : Above S u v
  pub level : S.height u ≡ j

-- The walk may go up from v, at height h: the fans are there, the vertices on the path to v are known, each by the height below it, and what was found is
-- in its group; no line that starts above v is among that.
pub record SettingOut (S : Tree) (found : List ℕ) (v h : ℕ) (forks : Forks) (uppers choice : List ℕ) (fans : Chains) (path : List ℕ) (groups : Chains) : Type 0 where
  pub finished : Finished S
  pub spans : Spans S forks
  pub raised : Uppers S uppers
  pub choice_long : S.lines ≤ length choice
  pub bits : (b : ℕ) → BackLine S b → get_or choice b 0 ≤ 1
  pub fanned : ListsChained fans (fan S (at choice))
  pub vertex_in : v < S.vertices
  pub level : S.height v ≡ h
  pub path_long : length path ≡ 512
  pub path_known : (j : ℕ) → j < h → OnPath S v (suc j) (get_or path j 0)
  pub fresh : (b : ℕ) → Over S v b → many b found ≡ 0
  pub grouped : ListsChained groups (groups_of S (at choice) found)

-- The walk is back at v: what it discovered is in its group too, and the path to v is as it was.
pub record WalkedBack (S : Tree) (found : List ℕ) (v h : ℕ) (choice path path' : List ℕ) (groups' : Chains) : Type 0 where
  pub path_long : length path' ≡ 512
  pub path_kept : (j : ℕ) → j < h → get_or path' j 0 ≡ get_or path j 0
  pub grouped : ListsChained groups' (groups_of S (at choice) (found ++ discovered S (fan S (at choice)) S.vertices v))
