-- What draw says. (docs/RULES.md, "Draw".)
use Rattle.std.specs.Prelude.{Bool, List, ◌≡◌, ℕ, ◌+◌, ◌*◌, ◌/◌, ltb, length}
use Rattle.laws.specs.Tests.{either}
use Rattle.laws.specs.Checks.{Check}
use Rattle.laws.specs.Lists.{filled, at}
use Rattle.network.specs.Network.{Network, network}
use Rattle.network.specs.Numbers.{done, Checked, Untouched, triple}
use Rattle.network.specs.Numbers.{Answer}
use Rattle.search.specs.Machine.{tree_in}
use Rattle.choice.specs.Choice.{Proper}
use Rattle.meshes.specs.Meshes.{mesh_count, mesh_list, size_list}
use Rattle.clockwise.specs.Order.{order_at, flat}

-- The clockwise order that a choice gives a network, and its meshes: how many, the mesh of each direction, the size of each mesh.
abbrev pub clockwise_in : Network → List ℕ → ℕ → List ℕ
clockwise_in net choice = order_at (tree_in net) (at choice)

abbrev pub meshes_in : Network → List ℕ → ℕ
meshes_in net choice = mesh_count (tree_in net).live net.lines net.ends (clockwise_in net choice)

abbrev pub mesh_list_in : Network → List ℕ → List ℕ
mesh_list_in net choice = mesh_list (tree_in net).live net.lines net.ends (clockwise_in net choice)

abbrev pub size_list_in : Network → List ℕ → List ℕ
size_list_in net choice = size_list (tree_in net).live net.lines net.ends (clockwise_in net choice)

-- 3: room for less than a byte a line in the choice, two numbers a line in the order or in the meshes, or two numbers a line and one more in the sizes.
unfoldable pub cramped_draw : ℕ → ℕ → ℕ → ℕ → ℕ → Bool
cramped_draw lines choice order mesh sizes =
    either (ltb choice lines) (either (ltb order (2 * lines)) (either (ltb mesh (2 * lines)) (ltb sizes (2 * lines + 1))))

-- Vertices - lines + meshes is 2.
abbrev pub Balanced : Network → List ℕ → Type 0
Balanced net choice = net.vertices + meshes_in net choice ≡ net.lines + 2

-- With 0, the number of meshes; the order, the mesh of each direction and the size of each mesh are written, and what is past them stays.
pub record Drew (net : Network) (choice order mesh sizes : List ℕ) (r : Answer) (order' mesh' sizes' : List ℕ) : Type 0 where
  pub answers : r ≡ done (meshes_in net choice) 0
  pub the_order : order' ≡ filled (2 * net.lines) (flat net.vertices (clockwise_in net choice)) order
  pub each_mesh : mesh' ≡ filled (2 * net.lines) (mesh_list_in net choice) mesh
  pub each_size : sizes' ≡ filled (meshes_in net choice) (size_list_in net choice) sizes

-- 8 exactly where the lent choice is not aligned or not written as it should be, 10 exactly where the sum fails.
abbrev pub Draw : ℕ → List ℕ → List ℕ → List ℕ → List ℕ → List ℕ → Answer → List ℕ → List ℕ → List ℕ → Type 0
Draw n ends choice order mesh sizes r order' mesh' sizes' =
    Checked n ends (cramped_draw (length ends / 2) (length choice) (length order) (length mesh) (length sizes)) (Untouched (triple order mesh sizes) r (triple order' mesh' sizes'))
    (Check (Proper (tree_in (network n ends)) (at choice))
    (Check (Balanced (network n ends) choice)
    (Drew (network n ends) choice order mesh sizes r order' mesh' sizes')
    (Untouched (triple order mesh sizes) r (triple order' mesh' sizes') 10))
    (Untouched (triple order mesh sizes) r (triple order' mesh' sizes') 8))
