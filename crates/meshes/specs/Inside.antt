-- What functions inside ask of each other. A reader of the call's statement need not believe any of it.
use Rattle.std.specs.Prelude.{Bool, true, cond, List, ◌≡◌, ℕ, suc, ◌+◌, ◌*◌, ◌≤◌, ◌<◌, eqb, ltb, get_or, length}
use Rattle.std.proofs.Math.Seq.{slice}
use Rattle.laws.specs.Tests.{either}
use Rattle.laws.specs.Counting.{many, count}
use Rattle.laws.specs.Orbits.{walk_number, walks}
use Rattle.laws.specs.Lists.{at}
use Rattle.laws.proofs.Orbits.{Turn}
use Rattle.laws.proofs.Numbering.{Done}
use Rattle.network.specs.Network.{Network, touches}
use Rattle.network.specs.Marks.{absent}
use Rattle.meshes.specs.Meshes.{other_way, next_direction}

-- The order has each line in service once at each of its ends, and no other line.
pub record Whole (net : Network) (live : ℕ → Bool) (order : ℕ → List ℕ) : Type 0 where
  pub holds : (v k : ℕ) → v < net.vertices → k < net.lines → live k ≡ true → touches net.ends v k ≡ true → many k (order v) ≡ 1
  pub only : (v k : ℕ) → v < net.vertices → 0 < many k (order v) → (k < net.lines) × (live k ≡ true) × (touches net.ends v k ≡ true)

-- Every number takes part.
abbrev pub every : ℕ → Bool
every x = true

-- A map of the numbers below n, one-to-one, whose walks can be numbered.
pub record Numberable (n : ℕ) (nexts : List ℕ) : Type 0 where
  pub few : n ≤ 4096
  pub nexts_long : n ≤ length nexts
  pub turn : Turn n every (at nexts)

-- Its walks are numbered.
pub record Numbered (n : ℕ) (nexts : List ℕ) (c : ℕ) (mesh : List ℕ) : Type 0 where
  pub mesh_long : length mesh ≡ 4096
  pub counted : c ≡ walks every (at nexts) n
  pub few : c ≤ n
  pub given : (x : ℕ) → x < n → get_or mesh x 0 ≡ walk_number every (at nexts) n x

-- The walks with a lowest number below d have theirs, and d has none.
pub record Followable (n d c : ℕ) (nexts mesh : List ℕ) : Type 0 where
  pub mesh_long : length mesh ≡ 4096
  pub start_in : d < n
  pub fresh : get_or mesh d 0 ≡ absent
  pub done : Done n every (at nexts) absent d c (at mesh)

-- .. and now d has, with all its walk.
pub record Followed (n d c : ℕ) (nexts mesh : List ℕ) : Type 0 where
  pub mesh_long : length mesh ≡ 4096
  pub done : Done n every (at nexts) absent (d + 1) (c + 1) (at mesh)

-- Line k has a direction on mesh j.
unfoldable pub on_mesh : List ℕ → ℕ → ℕ → Bool
on_mesh mesh j k = either (eqb (get_or mesh (2 * k) 0) j) (eqb (get_or mesh (2 * k + 1) 0) j)

-- Every direction of m lines has a mesh.
pub record Meshed (m : ℕ) (mesh : List ℕ) : Type 0 where
  pub few : m ≤ 2048
  pub mesh_long : 2 * m ≤ length mesh
  pub small : (d : ℕ) → d < 2 * m → get_or mesh d 0 < 4097

-- How many of m lines each mesh has.
pub record Sized (m : ℕ) (mesh sizes : List ℕ) : Type 0 where
  pub sizes_long : length sizes ≡ 4097
  pub sizes_are : (j : ℕ) → j < 4097 → get_or sizes j 0 ≡ count (on_mesh mesh j) m

-- The place after i, round n places.
unfoldable pub place_after : ℕ → ℕ → ℕ
place_after n i = cond (ltb (suc i) n) (suc i) 0

-- The order of v in a flat order, of which each vertex's part begins where the table of starts says.
abbrev pub order_in : List ℕ → List ℕ → ℕ → List ℕ
order_in order starts v = slice (get_or starts v 0) (get_or starts (v + 1) 0) order

-- A flat order and its starts hold an order that has each line once at each of its ends.
pub record Laid (net : Network) (order starts : List ℕ) : Type 0 where
  pub order_long : length order ≡ 4096
  pub starts_long : length starts ≡ 513
  pub rises : (v : ℕ) → v < net.vertices → get_or starts v 0 ≤ get_or starts (v + 1) 0
  pub inside : (v : ℕ) → v < net.vertices → get_or starts (v + 1) 0 ≤ 4096
  pub whole : Whole net every (order_in order starts)

-- The direction that follows each direction that arrives at a vertex below v.
pub record Linked (net : Network) (order starts : List ℕ) (v : ℕ) (nexts : List ℕ) : Type 0 where
  pub nexts_long : length nexts ≡ 4096
  pub so_far : (d : ℕ) → d < 2 * net.lines → get_or net.ends (other_way d) 0 < v → get_or nexts d 0 ≡ next_direction net.ends (order_in order starts) d
