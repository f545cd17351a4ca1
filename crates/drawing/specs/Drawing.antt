-- The whole drawing, from the tables of a finished search. (What functions inside ask of each other.)
use Rattle.std.specs.Prelude.{Result, Ok, Err, ⊤, [], false, List, ◌≡◌, ℕ, ◌+◌, ◌*◌, ◌/◌, ◌≤◌, length, replicate, take}
use Rattle.laws.specs.Checks.{Check}
use Rattle.laws.specs.Lists.{at}
use Rattle.network.specs.Marks.{absent}
use Rattle.network.specs.Network.{network}
use Rattle.network.specs.Numbers.{Checked, refusal_number}
use Rattle.network.specs.declared.Refusal.{Refusal}
use Rattle.network.specs.Inside.{Fit}
use Rattle.tree.specs.Tree.{Tree}
use Rattle.search.specs.Machine.{tree_in}
use Rattle.choice.specs.Choice.{Proper}
use Rattle.meshes.specs.Meshes.{mesh_count, mesh_list, size_list}
use Rattle.meshes.specs.Inside.{Whole}
use Rattle.clockwise.specs.Order.{order_at, flat}
use Rattle.clockwise.specs.Ordering.{Orderable}
use Rattle.clockwise.specs.Laying.{LongOrder}
use Rattle.fork.specs.declared.Forks.{Forks}
use Rattle.drawing.specs.declared.sketches.Drawing.{Drawing}
use Rattle.drawing.specs.Draw.{Balanced}

-- The tree S of a network, and a choice of sides for its back lines.
pub record Sketchable (S : Tree) (n : ℕ) (ends parents : List ℕ) (forks : Forks) (choice : List ℕ) : Type 0 where
  pub orderable : Orderable S n (length ends / 2) parents forks choice
  pub fits : Fit (network n ends)
  pub whole : Whole (network n ends) S.live (order_at S (at choice))

-- No mesh has a direction yet, or a line.
pub record Undrawn (d : Drawing) : Type 0 where
  pub order : LongOrder d.order
  pub no_mesh : d.mesh ≡ replicate 4096 absent
  pub no_size : d.sizes ≡ replicate 4097 0

-- The flat order, how many meshes there are, the mesh of each direction, and the size of each mesh.
pub record Drawn (S : Tree) (n : ℕ) (ends choice order : List ℕ) (count : ℕ) (mesh sizes : List ℕ) : Type 0 where
  pub order_long : length order ≡ 4096
  pub mesh_long : length mesh ≡ 4096
  pub sizes_long : length sizes ≡ 4097
  pub count_few : count ≤ 2 * (length ends / 2) + 1
  pub order_is : take (2 * (length ends / 2)) order ≡ flat n (order_at S (at choice))
  pub count_is : count ≡ mesh_count S.live (length ends / 2) ends (order_at S (at choice))
  pub mesh_is : take (2 * (length ends / 2)) mesh ≡ mesh_list S.live (length ends / 2) ends (order_at S (at choice))
  pub sizes_are : take count sizes ≡ size_list S.live (length ends / 2) ends (order_at S (at choice))

-- The drawing of a network, or the number that it is refused by.
abbrev pub Sketched : ℕ → List ℕ → List ℕ → ℕ → ℕ → List ℕ → List ℕ → List ℕ → Type 0
Sketched n ends choice number count order mesh sizes =
    Checked n ends false (λ k. number ≡ k)
    (Check (Proper (tree_in (network n ends)) (at choice))
    (Check (Balanced (network n ends) choice) ((number ≡ 0) × Drawn (tree_in (network n ends)) n ends choice order count mesh sizes) (number ≡ 10))
    (number ≡ 8))

-- .. as a result tells of it, with the drawing that was lent.
abbrev pub Sketches : ℕ → List ℕ → List ℕ → Drawing → Result ⊤ Refusal → Type 0
Sketches n ends choice d (Ok r) = Sketched n ends choice 0 d.count d.order.row.lines d.mesh d.sizes
Sketches n ends choice d (Err r) = Sketched n ends choice (refusal_number r) 0 [] [] []
