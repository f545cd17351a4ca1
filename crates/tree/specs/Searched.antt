-- What holds of every finished search: the laws that everything above stands on.
use Rattle.std.specs.Prelude.{◌≡◌, ℕ, suc, ◌≤◌, ◌<◌}
use Rattle.tree.specs.Tree.{Tree}
use Rattle.tree.specs.Returns.{end}
use Rattle.tree.specs.Words.{Line, TreeLine, BackLine, Above}

pub record Searched (S : Tree) : Type 0 where
  pub source_in : (l : ℕ) → Line S l → S.source l < S.vertices
  pub target_in : (l : ℕ) → Line S l → S.target l < S.vertices
  pub height_small : (v : ℕ) → v < S.vertices → S.height v < S.vertices
  -- each vertex but a root has one tree line that leads up to it
  pub parent : (v : ℕ) → v < S.vertices → 0 < S.height v → TreeLine S (S.parent v) × (S.target (S.parent v) ≡ v)
  pub one_parent : (t u : ℕ) → TreeLine S t → TreeLine S u → S.target t ≡ S.target u → t ≡ u
  -- a tree line goes one up, a back line down to a vertex on its path to the root
  pub rise : (t : ℕ) → TreeLine S t → S.height (S.target t) ≡ suc (S.height (S.source t))
  pub fall : (b : ℕ) → BackLine S b → end S b < S.height (S.source b)
  pub trail : (b : ℕ) → BackLine S b → Above S (S.target b) (S.source b)
  -- above is an order; what stands below one vertex is a chain, one vertex a height
  pub above_self : (v : ℕ) → Above S v v
  pub above_trans : (u v x : ℕ) → Above S u v → Above S v x → Above S u x
  pub above_line : (t : ℕ) → TreeLine S t → Above S (S.source t) (S.target t)
  pub above_height : (u x : ℕ) → Above S u x → S.height u ≤ S.height x
  pub above_level : (u v x : ℕ) → Above S u x → Above S v x → S.height u ≡ S.height v → u ≡ v
  pub above_between : (u w x : ℕ) → Above S u x → Above S w x → S.height u ≤ S.height w → Above S u w
  -- one tree line leads from a vertex towards any above it
  pub stem : (v x : ℕ) → x < S.vertices → Above S v x → (v ≡ x → ⊥) → (t : ℕ) × TreeLine S t × (S.source t ≡ v) × Above S (S.target t) x
