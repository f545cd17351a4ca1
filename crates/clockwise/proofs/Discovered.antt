-- The walk up from a vertex discovers each back line that starts above it once, and nothing else: such a line leaves the vertex itself, or starts above
-- one tree line that leaves it.
use mathlib.Core.Bool.{true, cond}
use mathlib.Core.List.{List, [], ◌∷◌}
use mathlib.Core.Path.{◌≡◌, refl, sym, ◌∙◌, ap, subst}
use Prim.Native.Nat.{ℕ, zero, suc, ◌+◌, ◌≤◌, ◌<◌}
use native.Mathlib.Omega.{arith}
use Rattle.laws.specs.Counting.{many}
use Rattle.laws.specs.Sorting.{gather}
use Rattle.laws.proofs.Cases.{cases, bool, eq_or}
use Rattle.laws.proofs.Counting.{many_nil, many_here, many_other}
use Rattle.laws.proofs.Lists.{All, all_map}
use Rattle.laws.proofs.Gathering.{none_of, all_gather, many_gather_one, gather_same}
use Rattle.tree.specs.Tree.{Tree}
use Rattle.tree.specs.Words.{BackLine, Above, Leaves}
use Rattle.tree.specs.Searched.{Searched}
use Rattle.clockwise.specs.Order.{discovered}
use Rattle.clockwise.specs.Walks.{Fanned, Over}

pub many_self : (x : ℕ) → many x (x ∷ []) ≡ 1
many_self x = omega (arith, many_here x x [] refl, many_nil x)

pub many_not : (x y : ℕ) → (y ≡ x → ⊥) → many x (y ∷ []) ≡ 0
many_not x y d = omega (arith, many_other x y [] d, many_nil x)

-- what the walk discovers by way of e
abbrev pub by_way : Tree → (ℕ → List ℕ) → ℕ → ℕ → List ℕ
by_way S out k e = cond (S.tree e) (discovered S out k (S.target e)) (e ∷ [])

pub discovered_more : (S : Tree) (out : ℕ → List ℕ) (k v : ℕ) → discovered S out (suc k) v ≡ gather (by_way S out k) (out v)
unfolding discovered
discovered_more S out k v = refl

module _ (S : Tree) (X : Searched S) (out : ℕ → List ℕ) (O : Fanned S out) where
  -- a tree line leads up and away
  pub not_below : (v e : ℕ) → Leaves S v e → S.tree e ≡ true → Above S (S.target e) v → ⊥
  not_below v e le t a =
      let q : S.height (S.source e) ≡ S.height v = ap S.height le.from in
      omega (arith, X.above_height (S.target e) v a, X.rise e (le.line, t))

  -- one tree line leads towards what is above
  pub one_stem : (v e f x : ℕ) → Leaves S v e → Leaves S v f → S.tree e ≡ true → S.tree f ≡ true → Above S (S.target e) x → Above S (S.target f) x → e ≡ f
  one_stem v e f x le lf te tf a b =
      let q : S.height (S.source e) ≡ S.height (S.source f) = ap S.height (le.from ∙ sym lf.from) in
      X.one_parent e f (le.line, te) (lf.line, tf)
      (X.above_level (S.target e) (S.target f) x a b (omega (arith, X.rise e (le.line, te), X.rise f (lf.line, tf))))

  pub over_up : (v e b : ℕ) → Leaves S v e → S.tree e ≡ true → Over S (S.target e) b → Over S v b
  over_up v e b le t o =
      record {
        is_back = o.is_back;
        from = X.above_trans v (S.target e) (S.source b) (subst (λ (z : ℕ). Above S z (S.target e)) le.from (X.above_line e (le.line, t))) o.from;
      }

  pub over : (k v : ℕ) → v < S.vertices → All (Over S v) (discovered S out k v)
  unfolding discovered
  over zero v h = tt
  over (suc k) v h =
      all_gather (by_way S out k) (Over S v) (out v)
      (all_map (Leaves S v) (λ e. All (Over S v) (by_way S out k e)) (out v)
      (λ e le.
      cases (bool (S.tree e))
      (λ t. rw t (all_map (Over S (S.target e)) (Over S v) (discovered S out k (S.target e)) (λ b o. over_up v e b le t o) (over k (S.target e) (X.target_in e le.line))))
      (λ t. rw t (record { is_back = (le.line, t); from = subst (λ (z : ℕ). Above S v z) (sym le.from) (X.above_self v) }, tt)))
      (O.leaves v h))

  -- what is not above e is not discovered by way of it
  pub not_by : (k v e b : ℕ) → Leaves S v e → (e ≡ b → ⊥) → (S.tree e ≡ true → Above S (S.target e) (S.source b) → ⊥) → many b (by_way S out k e) ≡ 0
  not_by k v e b le d n =
      cases (bool (S.tree e))
      (λ t. rw t (none_of (Over S (S.target e)) b (discovered S out k (S.target e)) (over k (S.target e) (X.target_in e le.line)) (λ o. n t o.from)))
      (λ t. rw t (many_not b e d))

  pub deeper : (v e k : ℕ) → Leaves S v e → S.tree e ≡ true → S.vertices ≤ suc k + S.height v → S.vertices ≤ k + S.height (S.target e)
  deeper v e k le t h = let q : S.height (S.source e) ≡ S.height v = ap S.height le.from in omega (arith, X.rise e (le.line, t))

  pub once : (k v b : ℕ) → v < S.vertices → S.vertices ≤ k + S.height v → BackLine S b → Above S v (S.source b) → many b (discovered S out k v) ≡ 1
  once zero v b h g l a = absurd (omega (arith, X.height_small v h))
  once (suc k) v b h g l a =
      ap (many b) (discovered_more S out k v)
      ∙ cases (eq_or v (S.source b))
      (λ q.
      let lb : Leaves S v b = record { line = l.0; from = sym q } in
      many_gather_one (by_way S out k) b b (out v)
      (all_map (Leaves S v) (λ e. (e ≡ b → ⊥) → many b (by_way S out k e) ≡ 0) (out v)
      (λ e le d. not_by k v e b le d (λ t z. not_below v e le t (subst (λ (y : ℕ). Above S (S.target e) y) (sym q) z))) (O.leaves v h))
      (O.once v b h lb)
      ∙ (rw l.1 (many_self b)))
      (λ d.
      let t = X.stem v (S.source b) (X.source_in b l.0) a d in
      let lt : Leaves S v t.0 = record { line = t.1.0; from = t.2 } in
      many_gather_one (by_way S out k) b t.0 (out v)
      (all_map (Leaves S v) (λ e. (e ≡ t.0 → ⊥) → many b (by_way S out k e) ≡ 0) (out v)
      (λ e le n.
      not_by k v e b le (λ z. d (sym le.from ∙ ap S.source z))
      (λ te z. n (one_stem v e t.0 (S.source b) le lt te t.1.1 z t.3))) (O.leaves v h))
      (O.once v t.0 h lt)
      ∙ (rw t.1.1 (once k (S.target t.0) b (X.target_in t.0 t.1.0) (deeper v t.0 k lt t.1.1 g) l t.3)))

  -- enough depth is enough
  pub discovered_same : (k j v : ℕ) → v < S.vertices → S.vertices ≤ k + S.height v → S.vertices ≤ j + S.height v → discovered S out k v ≡ discovered S out j v
  discovered_same zero j v h a b = absurd (omega (arith, X.height_small v h))
  discovered_same (suc k) zero v h a b = absurd (omega (arith, X.height_small v h))
  discovered_same (suc k) (suc j) v h a b =
      discovered_more S out k v
      ∙ gather_same (by_way S out k) (by_way S out j) (out v)
      (all_map (Leaves S v) (λ e. by_way S out k e ≡ by_way S out j e) (out v)
      (λ e le.
      cases (bool (S.tree e))
      (λ t. rw t (discovered_same k j (S.target e) (X.target_in e le.line) (deeper v e k le t a) (deeper v e j le t b)))
      (λ t. rw t))
      (O.leaves v h))
      ∙ sym (discovered_more S out j v)

  -- what the walk discovers from v is what it discovers by way of each line of its fan
  pub discovered_here : (v : ℕ) → v < S.vertices → discovered S out S.vertices v ≡ gather (by_way S out S.vertices) (out v)
  discovered_here v h = discovered_same S.vertices (suc S.vertices) v h (omega arith) (omega arith) ∙ discovered_more S out S.vertices v
