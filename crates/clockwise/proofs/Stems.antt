-- The groups of the code are the companies of the definition: each back line has one stem, and of all back lines in the order of their discovery, those
-- whose stem is the vertex above a tree line are among those that the walk discovers above it, in the same order.
use mathlib.Core.Bool.{Bool, true, false, cond}
use mathlib.Core.List.{List, [], ◌∷◌}
use mathlib.Core.Path.{◌≡◌, sym, ◌∙◌, ap, subst}
use Prim.Native.Nat.{ℕ, zero, suc, ◌+◌, ◌≤◌, ◌<◌}
use native.Mathlib.Omega.{arith}
use lib.Dec.{eqb}
use borrow.Author.Tests.{eq-eqb, ne_eqb, eqb-true}
use Rattle.laws.specs.Lists.{keep}
use Rattle.laws.proofs.Cases.{cases, bool, false_when, eq_or}
use Rattle.laws.proofs.Tests.{both_yes, both_of, least_is}
use Rattle.laws.proofs.Lists.{all_map, keep_none, keep_same}
use Rattle.laws.proofs.Gathering.{keep_gather}
use Rattle.laws.proofs.Keeping.{gather_only}
use Rattle.tree.specs.Tree.{Tree}
use Rattle.tree.specs.Returns.{end}
use Rattle.tree.specs.Words.{BackLine, Above, Leaves}
use Rattle.tree.specs.Searched.{Searched}
use Rattle.clockwise.specs.Order.{discovered}
use Rattle.clockwise.specs.Walks.{Fanned, Over, Stem, stemb, stem_of}
use Rattle.clockwise.proofs.Discovered.{by_way, discovered_more, discovered_same, over, one_stem, deeper}

-- Stems

module _ (S : Tree) (X : Searched S) where
  stem_test : (b w : ℕ) → Stem S b w → stemb S b w ≡ true
  unfolding stemb
  stem_test b w s = both_yes s.over (eq-eqb (S.height w) (suc (end S b)) s.level)

  stem_passed : (b w : ℕ) → w < S.vertices → stemb S b w ≡ true → Stem S b w
  unfolding stemb
  stem_passed b w h t = let q = both_of t in record { inside = h; over = q.0; level = eqb-true (S.height w) (suc (end S b)) q.1 }

  -- a back line has one
  pub stem_is : (b w : ℕ) → Stem S b w → stem_of S b ≡ w
  unfolding stem_of
  stem_is b w s =
      least_is (stemb S b) S.vertices w
      (record {
        below = s.inside;
        passes = stem_test b w s;
        before = λ j h.
            false_when (stemb S b j)
            (λ t.
            let r = stem_passed b j (omega (arith, s.inside)) t in
            let same : j ≡ w = X.above_level j w (S.source b) r.over s.over (r.level ∙ sym s.level) in
            omega arith);
      })

  pub stem_there : (b : ℕ) → BackLine S b → Stem S b (stem_of S b)
  stem_there b l =
      let apart : S.target b ≡ S.source b → ⊥ = λ q. (let z : S.height (S.target b) ≡ S.height (S.source b) = ap S.height q in omega (arith, X.fall b l)) in
      let t = X.stem (S.target b) (S.source b) (X.source_in b l.0) (X.trail b l) apart in
      let s : Stem S b (S.target t.0) = record {
        inside = X.target_in t.0 t.1.0;
        over = t.3;
        level = X.rise t.0 t.1 ∙ ap (λ (y : ℕ). suc (S.height y)) t.2;
      } in
      subst (λ (y : ℕ). Stem S b y) (sym (stem_is b (S.target t.0) s)) s

module _ (S : Tree) (X : Searched S) (out : ℕ → List ℕ) (O : Fanned S out) where
  -- where what is kept starts above w, nothing is lost by walking up from w only
  pub narrow : (p : ℕ → Bool) (w : ℕ) → w < S.vertices → ((b : ℕ) → BackLine S b → p b ≡ true → Above S w (S.source b))
      → (k u : ℕ) → u < S.vertices → S.vertices ≤ k + S.height u → Above S u w → keep p (discovered S out k u) ≡ keep p (discovered S out S.vertices w)
  narrow p w w_in starts zero u h g a = absurd (omega (arith, X.height_small u h))
  narrow p w w_in starts (suc k) u h g a =
      cases (eq_or u w)
      (λ e. ap (keep p) (ap (discovered S out (suc k)) e ∙ discovered_same S X out O (suc k) S.vertices w w_in (subst (λ (x : ℕ). S.vertices ≤ suc k + S.height x) e g) (omega arith)))
      (λ d.
      let t = X.stem u w w_in a d in
      let lt : Leaves S u t.0 = record { line = t.1.0; from = t.2 } in
      ap (keep p) (discovered_more S out k u)
      ∙ keep_gather (by_way S out k) p (out u)
      ∙ gather_only (λ e. keep p (by_way S out k e)) t.0 (out u)
      (all_map (Leaves S u) (λ e. (e ≡ t.0 → ⊥) → keep p (by_way S out k e) ≡ []) (out u) (λ e le n. others e le n lt t.1.1 t.3 d) (O.leaves u h))
      (O.once u t.0 h lt)
      ∙ ap (λ (b : Bool). keep p (cond b (discovered S out k (S.target t.0)) (t.0 ∷ []))) t.1.1
      ∙ narrow p w w_in starts k (S.target t.0) (X.target_in t.0 t.1.0) (deeper S X out O u t.0 k lt t.1.1 g) t.3)
    where
      others : (e : ℕ) → Leaves S u e → {t : ℕ} → (e ≡ t → ⊥) → Leaves S u t → S.tree t ≡ true → Above S (S.target t) w → (u ≡ w → ⊥) → keep p (by_way S out k e) ≡ []
      others e le {t} n lt tt' at apart =
          cases (bool (S.tree e))
          (λ te.
          ap (λ (b : Bool). keep p (cond b (discovered S out k (S.target e)) (e ∷ []))) te
          ∙ keep_none p (discovered S out k (S.target e))
          (all_map (Over S (S.target e)) (λ b. p b ≡ false) (discovered S out k (S.target e))
          (λ b o.
          cases (bool (p b))
          (λ y. absurd (n (one_stem S X out O u e t (S.source b) le lt te tt' o.from (X.above_trans (S.target t) w (S.source b) at (starts b o.is_back y)))))
          (λ y. y))
          (over S X out O k (S.target e) (X.target_in e le.line))))
          (λ te.
          ap (λ (b : Bool). keep p (cond b (discovered S out k (S.target e)) (e ∷ []))) te
          ∙ keep_none p (e ∷ []) (
            cases (bool (p e))
                (λ y.
                let up : Above S w u = subst (λ (z : ℕ). Above S w z) le.from (starts e (le.line, te) y) in
                absurd (apart (X.above_level u w w a (X.above_self w) (omega (arith, X.above_height u w a, X.above_height w u up)))))
                (λ y. y),
            tt,
          ))

  -- those whose stem is the vertex above e come in to v from above e
  pub comes_from : (root : ℕ) → root < S.vertices → ((u : ℕ) → u < S.vertices → Above S root u) → (v e : ℕ) → Leaves S v e → S.tree e ≡ true
      → keep (λ b. eqb (stem_of S b) (S.target e)) (discovered S out S.vertices root) ≡ keep (λ b. eqb (S.target b) v) (discovered S out S.vertices (S.target e))
  comes_from root root_in rooted v e le t =
      let w = S.target e in
      let w_in = X.target_in e le.line in
      let up : S.height w ≡ suc (S.height v) = X.rise e (le.line, t) ∙ ap (λ (y : ℕ). suc (S.height y)) le.from in
      let v_below : Above S v w = subst (λ (y : ℕ). Above S y w) le.from (X.above_line e (le.line, t)) in
      narrow (λ b. eqb (stem_of S b) w) w w_in
      (λ b l y. subst (λ (z : ℕ). Above S z (S.source b)) (eqb-true (stem_of S b) w y) (stem_there S X b l).over)
      S.vertices root root_in (omega arith) (rooted w w_in)
      ∙ keep_same (λ b. eqb (stem_of S b) w) (λ b. eqb (S.target b) v) (discovered S out S.vertices w)
      (all_map (Over S w) (λ b. eqb (stem_of S b) w ≡ eqb (S.target b) v) (discovered S out S.vertices w)
      (λ b o.
      let s = stem_there S X b o.is_back in
      cases (eq_or (stem_of S b) w)
      (λ q.
      let level : S.height w ≡ suc (end S b) = ap S.height (sym q) ∙ s.level in
      eq-eqb (stem_of S b) w q
      ∙ sym (eq-eqb (S.target b) v
      (X.above_level (S.target b) v (S.source b) (X.trail b o.is_back) (X.above_trans v w (S.source b) v_below o.from) (omega arith))))
      (λ d.
      ne_eqb (stem_of S b) w d
      ∙ sym (ne_eqb (S.target b) v (λ q.
      let level : end S b ≡ S.height v = ap S.height q in
      d (X.above_level (stem_of S b) w (S.source b) s.over o.from (omega (arith, s.level)))))))
      (over S X out O S.vertices w w_in))
