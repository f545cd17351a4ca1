-- Which tree lines a back line passes on its way down, and which of two back lines passes more. The tree line up to a vertex stands for the vertex.
use mathlib.Core.Bool.{false}
use mathlib.Core.Logic.{◌⊎◌}
use mathlib.Core.Path.{◌≡◌, ap, subst}
use Prim.Native.Nat.{ℕ, suc, ◌≤◌, ◌<◌}
use native.Mathlib.Omega.{arith}
use Rattle.laws.proofs.Cases.{cases, lt_or, true_false}
use Rattle.tree.specs.Tree.{Tree}
use Rattle.tree.specs.Returns.{end}
use Rattle.tree.specs.Words.{TreeLine, BackLine, Above, Return}
use Rattle.tree.specs.Searched.{Searched}
use Rattle.tree.proofs.Returns.{low_least}
use Rattle.fork.specs.Ends.{bottom}
use Rattle.fork.proofs.Found.{way_return, way_high}
use Rattle.fork.proofs.Ends.{lowest_yes, bottom_first, bottom_is}

module _ (S : Tree) (X : Searched S) where
  -- each tree line is the line up to a vertex
  pub line_up : (f : ℕ) → TreeLine S f → (S.target f < S.vertices) × (0 < S.height (S.target f)) × (S.parent (S.target f) ≡ f)
  line_up f t =
      let h : 0 < S.height (S.target f) = omega (arith, X.rise f t) in
      let i = X.target_in f t.0 in
      let p = X.parent (S.target f) i h in
      (i, h, X.one_parent (S.parent (S.target f)) f p.0 t p.1)

  -- (P0) a back line passes the lines up to the vertices on its way down that stand two or more above its end
  pub passes : (v b : ℕ) → v < S.vertices → BackLine S b → Above S v (S.source b) → suc (end S b) < S.height v → Return S (S.parent v) b
  passes v b i l a h = (way_return S X b l v i a h).2

  pub passed_by : (v b : ℕ) → v < S.vertices → 0 < S.height v → Return S (S.parent v) b → Above S v (S.source b) × (suc (end S b) < S.height v)
  passed_by v b i h r =
      let p = X.parent v i h in
      let z : S.height (S.target (S.parent v)) ≡ S.height v = ap S.height p.1 in (
        cases r.via
            (λ e. true_false p.0.1 (subst (λ x. S.tree x ≡ false) e r.is_back.1))
            (λ w. subst (λ x. Above S x (S.source b)) p.1 w.1),
        omega (arith, way_high S X b r.is_back (S.parent v) p.0 r),
      )

  -- (P1) b and c pass the line up to v, and c ends as low as b or lower: what b passes below, c passes
  pub passes_below : (u v b c : ℕ) → u < S.vertices → 0 < S.height u → v < S.vertices → 0 < S.height v → Above S v (S.source b) → S.height u ≤ S.height v
      → Return S (S.parent u) b → Return S (S.parent v) c → end S c ≤ end S b → Return S (S.parent u) c
  passes_below u v b c ui uh vi vh av h rb rc e =
      let p = passed_by u b ui uh rb in
      let q = passed_by v c vi vh rc in
      passes u c ui rc.is_back (X.above_trans u v (S.source c) (X.above_between u v (S.source b) p.0 av h) q.0) (omega (arith, p.1))

-- (P2) by rising ends, and numbers where they are equal, the first to pass a line is its bottom
pub first_bottom : (S : Tree) (f b : ℕ) → Return S f b → ((c : ℕ) → Return S f c → (end S b < end S c) ⊎ ((end S b ≡ end S c) × (b ≤ c))) → b ≡ bottom S f
first_bottom S f b r first =
    let z = bottom_first S f b r in
    let d = bottom_is S f b r in
    cases (first (bottom S f) d.return)
    (λ h. absurd (omega (arith, d.at_low, low_least S f b r)))
    (λ q.
    cases (lt_or b (bottom S f))
    (λ h. true_false (lowest_yes S f b (record { return = r; at_low = omega (arith, d.at_low, q.0) })) (z.before b h))
    (λ h. omega (arith, q.1)))
