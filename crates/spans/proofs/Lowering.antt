-- The vertex below each, filled in vertex by vertex: the rest of the table stays.
use mathlib.Core.Path.{◌≡◌}
use Prim.Native.Nat.{ℕ, ◌≤◌, ◌<◌}
use Rattle.laws.specs.Lists.{at}
use Rattle.tree.specs.Tree.{Tree}
use Rattle.spans.specs.Inside.{LongJumps, Unheld}
use Rattle.spans.specs.declared.Jumps.{Jumps}

-- the vertices before v have theirs
pub record Lowering (S : Tree) (v : ℕ) (jumps : Jumps) : Type 0 where
  pub upto : v ≤ S.vertices
  pub long : LongJumps jumps
  pub each : (u : ℕ) → u < v → 0 < S.height u → at jumps.onward u ≡ S.source (S.parent u)
  pub unheld : Unheld S jumps
