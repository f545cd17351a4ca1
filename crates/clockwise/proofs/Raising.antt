-- The vertex above each tree line, vertex by vertex: each vertex but the root has one line that leads up to it, and no two have the same.
use mathlib.Core.List.{List}
use mathlib.Core.Logic.{◌≢◌}
use mathlib.Core.Path.{◌≡◌, sym, ◌∙◌, ap, subst}
use Prim.Native.Nat.{ℕ, ◌+◌, ◌≤◌, ◌<◌}
use native.Mathlib.Omega.{arith}
use lib.ListN.{length, get_or, set, replicate, length-set, length-replicate, get_or-replicate}
use lib.Seq.{get_or-set_same, get_or-set_other}
use Rattle.laws.proofs.Cases.{cases, eq_or}
use Rattle.network.specs.Marks.{absent}
use Rattle.tree.specs.Tree.{Tree}
use Rattle.tree.specs.Words.{TreeLine}
use Rattle.tree.specs.Searched.{Searched}
use Rattle.clockwise.specs.Walks.{Rooted}

-- the lines that lead up to vertices below v are done
pub record Raising (S : Tree) (uppers : List ℕ) (v : ℕ) : Type 0 where
  pub long : length uppers ≡ 2048
  pub trees : (f : ℕ) → TreeLine S f → S.target f < v → get_or uppers f 0 ≡ S.target f
  pub others : (k : ℕ) → k < 2048 → (TreeLine S k → ⊥) → get_or uppers k 0 ≡ absent

module _ {S : Tree} {n : ℕ} {parents : List ℕ} (R : Rooted S n parents) where
  X : Searched S
  X = R.finished.searched

  -- the root alone stands at height 0
  pub rooted_high : (v : ℕ) → v < n → (v ≡ 0 → ⊥) → 0 < S.height v
  rooted_high v h d =
      cases (eq_or (S.height v) 0)
      (λ e. absurd (d (sym (X.above_level 0 v v (R.rooted v h) (X.above_self v) (R.root_low ∙ sym e)))))
      (λ e. let e' : S.height v ≢ 0 = e in omega arith)

  pub raising_start : Raising S (replicate 2048 absent) 1
  raising_start =
      record {
        long = length-replicate {A = ℕ} 2048 65535;
        trees = λ f l h.
            let e : S.target f ≡ 0 = omega arith in
            let low : S.height (S.target f) ≡ 0 = ap S.height e ∙ R.root_low in
            absurd (omega (arith, X.rise f l));
        others = λ k h d. get_or-replicate {A = ℕ} 2048 k 65535 0 h;
      }

  module _ {uppers : List ℕ} {v : ℕ} (G : Raising S uppers v) where
    module _ (some : 1 ≤ v) (h : v < n) where
      abbrev f : ℕ
      f = get_or parents v 0

      v_in : v < S.vertices
      v_in = omega (arith, R.same_vertices)

      led : TreeLine S (S.parent v) × (S.target (S.parent v) ≡ v)
      led = X.parent v v_in (rooted_high v h (λ e. omega arith))

      f_is : f ≡ S.parent v
      f_is = R.leads.each v v_in

      f_line : TreeLine S f
      f_line = subst (λ (x : ℕ). TreeLine S x) (sym f_is) led.0

      pub raising_line : get_or parents v 0 < 2048
      raising_line = omega (arith, f_line.0.below, R.finished.few_lines)

      pub raising_more : Raising S (set uppers (get_or parents v 0) v) (v + 1)
      raising_more =
          let to_v : S.target f ≡ v = ap S.target f_is ∙ led.1 in
          record {
            long = length-set uppers f v ∙ G.long;
            trees = λ g l k.
                cases (eq_or g f)
                (λ e.
                ap (λ (y : ℕ). get_or (set uppers f v) y 0) e ∙ get_or-set_same uppers f v 0 (omega (arith, raising_line, G.long)) ∙ sym (ap S.target e ∙ to_v))
                (λ d.
                let other : S.target g ≢ v = λ e. d (X.one_parent g f l f_line (e ∙ sym to_v)) in
                get_or-set_other uppers f g v 0 d ∙ G.trees g l (omega arith));
            others = λ k h d.
                get_or-set_other uppers f k v 0 (λ e. d (subst (λ (x : ℕ). TreeLine S x) (sym e) f_line)) ∙ G.others k h d;
          }
