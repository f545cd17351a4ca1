-- What the clockwise order is made from. (What functions inside ask of each other.)
use Rattle.std.specs.Prelude.{List, ◌≡◌, ℕ, ◌≤◌, ◌<◌, get_or, length}
use Rattle.tree.specs.Tree.{Tree}
use Rattle.tree.specs.Words.{BackLine, Above}
use Rattle.fork.specs.Inside.{Finished, Parents, Tabled}
use Rattle.fork.specs.declared.Forks.{Forks}

-- A finished search with n vertices and m lines and one root, vertex 0; its tables of parents and of forks; and a choice whose back lines have a side.
pub record Orderable (S : Tree) (n m : ℕ) (parents : List ℕ) (forks : Forks) (choice : List ℕ) : Type 0 where
  pub same_vertices : S.vertices ≡ n
  pub same_lines : S.lines ≡ m
  pub some_vertex : 0 < n
  pub finished : Finished S
  pub root_low : S.height 0 ≡ 0
  pub rooted : (v : ℕ) → v < n → Above S 0 v
  pub leads : Parents S parents
  pub tabled : Tabled S forks
  pub choice_long : m ≤ length choice
  pub bits : (b : ℕ) → BackLine S b → get_or choice b 0 ≤ 1
