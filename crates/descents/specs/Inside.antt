-- What functions inside ask of each other. A reader of the calls' statements need not believe any of it.
use Rattle.std.specs.Prelude.{List, Result, Ok, Err, ⊤, ◌≡◌, ℕ}
use Rattle.side.specs.Sides.{code}
use Rattle.tree.specs.Tree.{Tree}
use Rattle.fork.specs.Link.{Link}
use Rattle.fork.specs.Inside.{Finished, Heights, Parents, Tabled}
use Rattle.fork.specs.declared.Forks.{Forks}
use Rattle.groups.specs.Groups.{Tables, columns, pointed}
use Rattle.groups.specs.declared.Groups.{Groups}
use Rattle.links.specs.Inside.{Closed, Together, Sound, Unkept}
use Rattle.links.specs.declared.Tear.{Tear}
use Rattle.spans.specs.Inside.{Spanned}

-- All links are taken in, or one can't be.
pub data Sorted (S : Tree) (t : Tables) : Result ⊤ Tear → Type 0 where
  all_kept : Together S t → ((b d k : ℕ) → Link S b d k → Closed t b d k) → Sorted S t (Ok tt)
  one_torn : {r : Tear} → Together S t → Unkept S t r.one r.two (code r.wants) → Sorted S t (Err r)

-- The groups of a tree's back lines, in tables; and where no link tears, what each line's returns are like.
pub record Grouping (S : Tree) (forks : Forks) (g : Groups) (r : Result ⊤ Tear) : Type 0 where
  pub sorted : Sorted S (columns g) r
  pub tabled : r ≡ Ok tt → Tabled S forks

-- What the walks go by: of each line where it leaves and ends, and groups.
pub record Walkable (S : Tree) (vertices lines : ℕ) (heights parents : List ℕ) (forks : Forks) (g : Groups) : Type 0 where
  pub same_vertices : S.vertices ≡ vertices
  pub same_lines : S.lines ≡ lines
  pub finished : Finished S
  pub each_height : Heights S heights
  pub each_parent : Parents S parents
  pub spanned : Spanned S forks
  pub sound : Sound S g

-- What they leave: the same as `Grouping`, by pointers.
pub record Tied (S : Tree) (forks : Forks) (g : Groups) (r : Result ⊤ Tear) : Type 0 where
  pub sound : Sound S g
  pub sorted : Sorted S (pointed g) r
  pub tabled : r ≡ Ok tt → Tabled S forks
