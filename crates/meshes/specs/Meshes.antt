-- The meshes, for any order of the lines at the vertices and any set of lines in service. (docs/RULES.md, "Meshes".)
use Rattle.std.specs.Prelude.{Bool, cond, List, [], ◌∷◌, map, ℕ, suc, ◌+◌, ◌*◌, ◌-◌, ◌/◌, ◌%◌, eqb, get_or}
use Rattle.laws.specs.Tests.{both, either}
use Rattle.laws.specs.Counting.{count}
use Rattle.laws.specs.Lists.{upto}
use Rattle.laws.specs.Orbits.{walk_number, walks}
use Rattle.network.specs.Network.{first}

-- Line k gives direction 2k from its first end to its second, and 2k + 1 back. A direction d leaves the vertex at place d of the list of ends.

-- The direction the other way.
unfoldable pub other_way : ℕ → ℕ
other_way d = cond (eqb (d % 2) 0) (suc d) (d - 1)

-- The direction of line k that leaves v.
unfoldable pub leave_by : List ℕ → ℕ → ℕ → ℕ
leave_by ends v k = cond (eqb (first ends k) v) (2 * k) (2 * k + 1)

-- What stands after x in a list, and after its last member the first.
unfoldable pub follow_in : ℕ → List ℕ → ℕ → ℕ
follow_in first [] x = first
follow_in first (y ∷ l) x = cond (eqb y x) (get_or l 0 first) (follow_in first l x)

abbrev pub follow : List ℕ → ℕ → ℕ
follow l x = follow_in (get_or l 0 0) l x

-- The direction that leaves the vertex of d next after d, clockwise.
unfoldable pub turned : List ℕ → (ℕ → List ℕ) → ℕ → ℕ
turned ends order d = leave_by ends (get_or ends d 0) (follow (order (get_or ends d 0)) (d / 2))

-- The walk goes on from d with what follows, at the vertex where d ends, the line that it came by.
unfoldable pub next_direction : List ℕ → (ℕ → List ℕ) → ℕ → ℕ
next_direction ends order d = turned ends order (other_way d)

-- The directions of the lines in service.
abbrev pub either_way : (ℕ → Bool) → ℕ → Bool
either_way live d = live (d / 2)

module _ (live : ℕ → Bool) (m : ℕ) (ends : List ℕ) (order : ℕ → List ℕ) where
  -- A mesh is a walk of this map. Its number is how many meshes have a lower lowest direction.
  unfoldable pub mesh_of : ℕ → ℕ
  mesh_of d = walk_number (either_way live) (next_direction ends order) (2 * m) d

  -- How many meshes there are; a lone vertex, with no line, has one.
  unfoldable pub mesh_count : ℕ
  mesh_count = cond (eqb (count live m) 0) 1 (walks (either_way live) (next_direction ends order) (2 * m))

  -- Line k has a direction on the mesh.
  unfoldable pub borders : ℕ → ℕ → Bool
  borders mesh k = both (live k) (either (eqb (mesh_of (2 * k)) mesh) (eqb (mesh_of (2 * k + 1)) mesh))

  -- The size of a mesh: how many lines it has on it, one that it walks both ways counted once.
  unfoldable pub mesh_size : ℕ → ℕ
  mesh_size mesh = count (borders mesh) m

  -- The mesh of each direction, and the size of each mesh, as lists.
  unfoldable pub mesh_list : List ℕ
  mesh_list = map mesh_of (upto (2 * m))

  unfoldable pub size_list : List ℕ
  size_list = map mesh_size (upto mesh_count)
