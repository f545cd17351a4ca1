-- The last step of draw: the writing. (What functions inside ask of each other.)
use Rattle.std.specs.Prelude.{List, ◌≡◌, ℕ, ◌+◌, ◌*◌, ◌≤◌, length}
use Rattle.laws.specs.Lists.{filled}

-- There is room for what is to be written.
pub record Settling (m count : ℕ) (all meshes each order mesh sizes : List ℕ) : Type 0 where
  pub few_lines : m ≤ 2048
  pub few_meshes : count ≤ 2 * m + 1
  pub all_long : length all ≡ 4096
  pub meshes_long : length meshes ≡ 4096
  pub each_long : length each ≡ 4097
  pub order_room : 2 * m ≤ length order
  pub mesh_room : 2 * m ≤ length mesh
  pub sizes_room : 2 * m + 1 ≤ length sizes

pub record Wrote (m count : ℕ) (all meshes each order mesh sizes order' mesh' sizes' : List ℕ) : Type 0 where
  pub order_laid : order' ≡ filled (2 * m) all order
  pub mesh_laid : mesh' ≡ filled (2 * m) meshes mesh
  pub sizes_laid : sizes' ≡ filled count each sizes
