-- The clockwise order at a vertex has each line of the vertex once, and no other: a line that leaves stands there itself, a back line that comes in stands
-- beside the one tree line that it comes from above, and the line from the parent stands first.
use mathlib.Core.Bool.{Bool, true, false, cond}
use mathlib.Core.List.{List, [], ◌∷◌, reverse}
use mathlib.Core.Logic.{◌⊎◌, inl, inr, ◌≢◌}
use mathlib.Core.Path.{◌≡◌, sym, ◌∙◌, ap, subst}
use Prim.Native.Nat.{ℕ, ◌+◌, ◌<◌}
use native.Mathlib.Omega.{arith}
use lib.Dec.{eqb}
use borrow.Author.Tests.{eq-eqb, ne_eqb, eqb-true}
use Rattle.laws.specs.Counting.{many}
use Rattle.laws.specs.Lists.{keep}
use Rattle.laws.specs.Sorting.{gather}
use Rattle.laws.proofs.Cases.{cases, bool, true_false, eq_or}
use Rattle.laws.proofs.Counting.{many_nil, many_cons}
use Rattle.laws.proofs.Lists.{All, all_map, all_both, all_keep, all_kept, all_append, all_reverse, all_many}
use Rattle.laws.proofs.Occurring.{many_append, many_reverse, many_keep_yes}
use Rattle.laws.proofs.Gathering.{none_of, halves, all_gather, many_gather_none, many_gather_one}
use Rattle.tree.specs.Tree.{Tree}
use Rattle.tree.specs.Words.{Line, TreeLine, BackLine, Above, Leaves}
use Rattle.tree.specs.Searched.{Searched}
use Rattle.fans.specs.Fan.{is_left, is_right}
use Rattle.clockwise.specs.Order.{discovered, incoming, beside, clockwise}
use Rattle.clockwise.specs.Walks.{Fanned, Over}
use Rattle.clockwise.proofs.Discovered.{many_self, many_not, over, once, not_below, one_stem}

module _ (S : Tree) (X : Searched S) (out : ℕ → List ℕ) (O : Fanned S out) (side : ℕ → ℕ) where
  -- what comes in to v from above e
  abbrev from_above : ℕ → ℕ → List ℕ
  from_above v e = keep (λ b. eqb (S.target b) v) (discovered S out S.vertices (S.target e))

  beside_tree : (v e k : ℕ) → S.tree e ≡ true → many k (beside S out side v e) ≡ many k (e ∷ []) + many k (from_above v e)
  unfolding beside incoming
  beside_tree v e k t =
      let A = from_above v e in
      let l = reverse (keep (is_left side) A) in
      let r = reverse (keep (is_right side) A) in
      rw t
      (omega (
        arith,
        many_append k l (e ∷ r),
        many_cons k e r,
        many_reverse k (keep (is_left side) A),
        many_reverse k (keep (is_right side) A),
        halves (is_left side) k A,
      ))

  beside_back : (v e k : ℕ) → S.tree e ≡ false → many k (beside S out side v e) ≡ many k (e ∷ [])
  unfolding beside
  beside_back v e k t = rw t

  above_all : (v e : ℕ) → Line S e → All (λ b. Over S (S.target e) b × (S.target b ≡ v)) (from_above v e)
  above_all v e l =
      let D = discovered S out S.vertices (S.target e) in
      let t : ℕ → Bool = λ b. eqb (S.target b) v in
      all_both (Over S (S.target e)) (λ b. S.target b ≡ v) (keep t D)
      (all_keep (Over S (S.target e)) t D (over S X out O S.vertices (S.target e) (X.target_in e l)))
      (all_map (λ b. t b ≡ true) (λ b. S.target b ≡ v) (keep t D) (λ b q. eqb-true (S.target b) v q) (all_kept t D))

  -- what does not come in from above e does not stand beside it
  not_beside : (v e k : ℕ) → Leaves S v e → (e ≡ k → ⊥) → (S.tree e ≡ true → Over S (S.target e) k → ⊥) → many k (beside S out side v e) ≡ 0
  not_beside v e k le d n =
      cases (bool (S.tree e))
      (λ t. omega (arith, beside_tree v e k t, many_not k e d, none_of (λ b. Over S (S.target e) b × (S.target b ≡ v)) k (from_above v e) (above_all v e le.line) (λ o. n t o.0)))
      (λ t. beside_back v e k t ∙ many_not k e d)

  -- the lines at v but for the one from its parent
  abbrev rest : ℕ → List ℕ
  rest v = gather (beside S out side v) (out v)

  abbrev stem : ℕ → List ℕ
  stem v = cond (eqb (S.height v) 0) [] (S.parent v ∷ [])

  rest_leaves : (v k : ℕ) → v < S.vertices → Leaves S v k → many k (rest v) ≡ 1
  rest_leaves v k h lk =
      many_gather_one (beside S out side v) k k (out v)
      (all_map (Leaves S v) (λ e. (e ≡ k → ⊥) → many k (beside S out side v e) ≡ 0) (out v)
      (λ e le d. not_beside v e k le d (λ t o. not_below S X out O v e le t (subst (λ (z : ℕ). Above S (S.target e) z) lk.from o.from))) (O.leaves v h))
      (O.once v k h lk)
      ∙ cases (bool (S.tree k))
      (λ t. omega (arith, beside_tree v k k t, many_self k, none_of (λ b. Over S (S.target k) b × (S.target b ≡ v)) k (from_above v k) (above_all v k lk.line) (λ o. true_false t o.0.is_back.1)))
      (λ t. beside_back v k k t ∙ many_self k)

  rest_comes : (v k : ℕ) → v < S.vertices → BackLine S k → S.target k ≡ v → many k (rest v) ≡ 1
  rest_comes v k h l e =
      let up : Above S v (S.source k) = subst (λ (z : ℕ). Above S z (S.source k)) e (X.trail k l) in
      let apart : v ≡ S.source k → ⊥ = λ q. (let z : S.height (S.target k) ≡ S.height (S.source k) = ap S.height (e ∙ q) in omega (arith, X.fall k l)) in
      let t = X.stem v (S.source k) (X.source_in k l.0) up apart in
      let lt : Leaves S v t.0 = record { line = t.1.0; from = t.2 } in
      let D = discovered S out S.vertices (S.target t.0) in
      many_gather_one (beside S out side v) k t.0 (out v)
      (all_map (Leaves S v) (λ e. (e ≡ t.0 → ⊥) → many k (beside S out side v e) ≡ 0) (out v)
      (λ f lf n.
      not_beside v f k lf (λ z. apart (sym lf.from ∙ ap S.source z)) (λ tf o. n (one_stem S X out O v f t.0 (S.source k) lf lt tf t.1.1 o.from t.3))) (O.leaves v h))
      (O.once v t.0 h lt)
      ∙ omega (
        arith,
        beside_tree v t.0 k t.1.1,
        many_not k t.0 (λ z. true_false (subst (λ (y : ℕ). S.tree y ≡ true) z t.1.1) l.1),
        many_keep_yes (λ b. eqb (S.target b) v) k D (eq-eqb (S.target k) v e),
        once S X out O S.vertices (S.target t.0) k (X.target_in t.0 t.1.0) (omega arith) l t.3,
      )

  rest_parent : (v k : ℕ) → v < S.vertices → TreeLine S k → S.target k ≡ v → many k (rest v) ≡ 0
  rest_parent v k h l e =
      many_gather_none (beside S out side v) k (out v)
      (all_map (Leaves S v) (λ f. many k (beside S out side v f) ≡ 0) (out v)
      (λ f lf.
      not_beside v f k lf
      (λ z. let q : S.height (S.target k) ≡ S.height (S.source k) = ap S.height (e ∙ sym lf.from ∙ ap S.source z) in omega (arith, X.rise k l))
      (λ tf o. true_false l.1 o.is_back.1)) (O.leaves v h))

  stem_none : (v k : ℕ) → (0 < S.height v → S.parent v ≡ k → ⊥) → many k (stem v) ≡ 0
  stem_none v k n =
      cases (eq_or (S.height v) 0)
      (λ e. rw (eq-eqb (S.height v) 0 e) (many_nil k))
      (λ d. let d' : S.height v ≢ 0 = d in rw (ne_eqb (S.height v) 0 d) (many_not k (S.parent v) (n (omega arith))))

  split : (v k : ℕ) → many k (clockwise S out side v) ≡ many k (stem v) + many k (rest v)
  unfolding clockwise
  split v k = many_append k (stem v) (rest v)

  -- each line of the vertex once
  pub holds : (v k : ℕ) → v < S.vertices → Line S k → (S.source k ≡ v) ⊎ (S.target k ≡ v) → many k (clockwise S out side v) ≡ 1
  holds v k h l e =
      cases e
      (λ q.
      omega (
        arith,
        split v k,
        rest_leaves v k h (record { line = l; from = q }),
        stem_none v k (λ p z.
            let P = X.parent v h p in
            let y : S.height (S.target (S.parent v)) ≡ S.height (S.source (S.parent v)) = ap S.height (P.1 ∙ sym q ∙ ap S.source (sym z)) in
            omega (arith, X.rise (S.parent v) P.0)),
      ))
      (λ q.
      cases (bool (S.tree k))
      (λ t.
      let up : S.height (S.target k) ≡ S.height v = ap S.height q in
      let p : 0 < S.height v = omega (arith, X.rise k (l, t)) in
      let P = X.parent v h p in
      let y : S.parent v ≡ k = X.one_parent (S.parent v) k P.0 (l, t) (P.1 ∙ sym q) in
      let first : many k (stem v) ≡ 1 = rw (ne_eqb (S.height v) 0 (λ z. omega arith), y) (many_self k) in
      omega (arith, split v k, rest_parent v k h (l, t) q))
      (λ t.
      omega (
        arith,
        split v k,
        rest_comes v k h (l, t) q,
        stem_none v k (λ p z. true_false (subst (λ (x : ℕ). S.tree x ≡ true) z (X.parent v h p).0.1) t),
      )))

  -- .. and no other
  abbrev Of : ℕ → ℕ → Type 0
  Of v k = Line S k × ((S.source k ≡ v) ⊎ (S.target k ≡ v))

  pub beside_of : (v e : ℕ) → Leaves S v e → All (Of v) (beside S out side v e)
  unfolding beside incoming
  beside_of v e le =
      let own : Of v e = (le.line, inl le.from) in
      let A = from_above v e in
      let in_of : (p : ℕ → Bool) → All (Of v) (reverse (keep p A)) = λ p.
      all_reverse (Of v) (keep p A)
      (all_keep (Of v) p A (all_map (λ b. Over S (S.target e) b × (S.target b ≡ v)) (Of v) A (λ b o. (o.0.is_back.0, inr o.1)) (above_all v e le.line))) in
      cases (bool (S.tree e))
      (λ t. rw t (all_append (Of v) (reverse (keep (is_left side) A)) (e ∷ reverse (keep (is_right side) A)) (in_of (is_left side)) (own, in_of (is_right side))))
      (λ t. rw t (own, tt))

  pub clockwise_of : (v : ℕ) → v < S.vertices → All (Of v) (clockwise S out side v)
  unfolding clockwise
  clockwise_of v h =
      all_append (Of v) (stem v) (rest v)
      (cases (eq_or (S.height v) 0)
      (λ e. rw (eq-eqb (S.height v) 0 e) tt)
      (λ d.
      let d' : S.height v ≢ 0 = d in
      let P = X.parent v h (omega arith) in
      rw (ne_eqb (S.height v) 0 d) ((P.0.0, inr P.1), tt)))
      (all_gather (beside S out side v) (Of v) (out v) (all_map (Leaves S v) (λ e. All (Of v) (beside S out side v e)) (out v) (λ e le. beside_of v e le) (O.leaves v h)))

  pub only : (v k : ℕ) → v < S.vertices → 0 < many k (clockwise S out side v) → Line S k × ((S.source k ≡ v) ⊎ (S.target k ≡ v))
  only v k h p = all_many (Of v) k (clockwise S out side v) (clockwise_of v h) p
