-- The tables of a finished search make a tree: from five facts about the tables, all that `Searched` says.
use mathlib.Core.Path.{◌≡◌, refl, sym, ◌∙◌, ap, subst}
use mathlib.Core.Bool.{true, false}
use mathlib.Core.List.{List}
use mathlib.Core.Logic.{◌⊎◌, inl, inr, ◌≢◌}
use Prim.Native.Nat.{ℕ, zero, suc, ◌+◌, ◌-◌, ◌≤◌, ◌<◌}
use native.Mathlib.Omega.{arith}
use native.Mathlib.Nat.{zero-add, suc-add}
use lib.Dec.{ltb}
use lib.ListN.{get_or}
use borrow.Author.Tests.{eq-eqb, eqb-true, eqb-false, lt-ltb, ltb-true, leb-true, le-leb}
use Rattle.laws.proofs.Cases.{bool, cases, lt_or}
use Rattle.laws.proofs.Tests.{both_yes, both_of}
use Rattle.laws.proofs.Counting.{count_all, count_le}
use Rattle.network.specs.Network.{first, second}
use Rattle.tree.specs.Tree.{Tree, higher, lower, climb, aboveb, tree_of}
use Rattle.tree.specs.Words.{TreeLine, BackLine, Above}
use Rattle.tree.specs.Grown.{Grown}
use Rattle.tree.specs.Searched.{Searched}

module _ (n m : ℕ) (ends kind height par : List ℕ) (G : Grown n m ends kind height par) where
  abbrev S : Tree
  S = tree_of n m ends kind height par

  abbrev h : ℕ → ℕ
  h v = get_or height v 0

  abbrev down : ℕ → ℕ → ℕ
  down k v = climb ends height par k v

  down_add : (j k v : ℕ) → down (j + k) v ≡ down k (down j v)
  unfolding climb
  down_add zero k v = simp zero-add
  down_add (suc j) k v = simp suc-add (down_add j k (lower ends height (get_or par v 0)))

  -- The two ends

  pub ends_of : (l : ℕ) → ((first ends l ≡ lower ends height l) × (second ends l ≡ higher ends height l))
      ⊎ ((first ends l ≡ higher ends height l) × (second ends l ≡ lower ends height l))
  unfolding lower higher
  ends_of l =
      cases (bool (ltb (h (first ends l)) (h (second ends l))))
      (λ t. inl (rw t refl, rw t refl))
      (λ t. inr (rw t refl, rw t refl))

  ends_in : (l : ℕ) → l < m → (lower ends height l < n) × (higher ends height l < n)
  ends_in l g =
      let a = G.first_in l g in
      let b = G.second_in l g in
      cases (ends_of l)
      (λ q. (subst (λ x. x < n) q.0 a, subst (λ x. x < n) q.1 b))
      (λ q. (subst (λ x. x < n) q.1 b, subst (λ x. x < n) q.0 a))

  -- Climbing

  up_one : (v : ℕ) → v < n → 0 < h v → (lower ends height (get_or par v 0) < n) × (h v ≡ suc (h (lower ends height (get_or par v 0))))
  up_one v g p =
      let P = G.found v g p in
      ((ends_in (get_or par v 0) P.0).0, subst (λ x. h x ≡ suc (h (lower ends height (get_or par v 0)))) P.2 (G.up (get_or par v 0) P.0 P.1).1)

  pub down_in : (k v : ℕ) → v < n → k ≤ h v → (down k v < n) × (h (down k v) + k ≡ h v)
  unfolding climb
  down_in zero v g l = (g, omega arith)
  down_in (suc k) v g l =
      let u = up_one v g (omega arith) in
      let r = down_in k (lower ends height (get_or par v 0)) u.0 (omega (arith, u.1)) in
      (r.0, omega (arith, r.1, u.1))

  -- a climb passes as many vertices as the height says, so heights are below n
  height_small : (v : ℕ) → v < n → h v < n
  height_small v g =
      omega (
        arith,
        count_all (suc (h v)),
        count_all n,
        count_le (λ i y. down i v ≡ y) (λ i. true) (λ i. true) (suc (h v)) n
            (λ i l t. (down i v, (down_in i v g (omega arith)).0, refl, refl))
            (λ i j y l k e f. let z : h (down i v) ≡ h (down j v) = ap h (e ∙ sym f) in omega (arith, (down_in i v g (omega arith)).1, (down_in j v g (omega arith)).1)),
      )

  -- Above

  pub above_of : (u v : ℕ) → Above S u v → (h u ≤ h v) × (down (h v - h u) v ≡ u)
  unfolding aboveb
  above_of u v e = let b = both_of e in (leb-true (h u) (h v) b.0, eqb-true _ u b.1)

  pub above_by : (u v : ℕ) → h u ≤ h v → down (h v - h u) v ≡ u → Above S u v
  unfolding aboveb
  above_by u v l e = both_yes (le-leb (h u) (h v) l) (eq-eqb _ u e)

  above_self : (v : ℕ) → Above S v v
  unfolding climb
  above_self v = above_by v v (omega arith) (let z : h v - h v ≡ 0 = omega arith in rw z)

  above_trans : (u v x : ℕ) → Above S u v → Above S v x → Above S u x
  above_trans u v x a b =
      let p = above_of u v a in
      let q = above_of v x b in
      let z : h x - h u ≡ (h x - h v) + (h v - h u) = omega (arith, p.0, q.0) in
      above_by u x (omega (arith, p.0, q.0)) (rw z (down_add (h x - h v) (h v - h u) x ∙ ap (down (h v - h u)) q.1 ∙ p.1))

  above_level : (u v x : ℕ) → Above S u x → Above S v x → h u ≡ h v → u ≡ v
  above_level u v x a b e = sym (above_of u x a).1 ∙ ap (λ y. down (h x - y) x) e ∙ (above_of v x b).1

  above_between : (u w x : ℕ) → Above S u x → Above S w x → h u ≤ h w → Above S u w
  above_between u w x a b l =
      let p = above_of u x a in
      let q = above_of w x b in
      let z : h x - h u ≡ (h x - h w) + (h w - h u) = omega (arith, p.0, q.0) in
      above_by u w l (ap (down (h w - h u)) (sym q.1) ∙ sym (down_add (h x - h w) (h w - h u) x) ∙ ap (λ k. down k x) (sym z) ∙ p.1)

  -- Tree lines and back lines

  is_tree : (t : ℕ) → S.tree t ≡ true → get_or kind t 0 ≡ 0
  is_tree t e = eqb-true _ _ e

  is_back : (b : ℕ) → BackLine S b → get_or kind b 0 ≡ 1
  is_back b l = let z : get_or kind b 0 ≢ 0 = eqb-false _ _ l.1 in omega (arith, ltb-true (get_or kind b 0) 2 l.0.yes)

  tree_ends : (t : ℕ) → S.tree t ≡ true → (S.source t ≡ lower ends height t) × (S.target t ≡ higher ends height t)
  tree_ends t e = (rw e refl, rw e refl)

  back_ends : (b : ℕ) → S.tree b ≡ false → (S.source b ≡ higher ends height b) × (S.target b ≡ lower ends height b)
  back_ends b e = (rw e refl, rw e refl)

  pub lines_in : (l : ℕ) → l < m → (S.source l < n) × (S.target l < n)
  lines_in l g =
      let q = ends_in l g in
      cases (bool (S.tree l))
      (λ t. let s = tree_ends l t in (rw s.0 q.0, rw s.1 q.1))
      (λ t. let s = back_ends l t in (rw s.0 q.1, rw s.1 q.0))

  rise : (t : ℕ) → TreeLine S t → h (S.target t) ≡ suc (h (S.source t))
  rise t l = let s = tree_ends t l.1 in ap h s.1 ∙ (G.up t l.0.below (is_tree t l.1)).1 ∙ ap (λ x. suc (h x)) (sym s.0)

  fall : (b : ℕ) → BackLine S b → h (S.target b) < h (S.source b)
  fall b l =
      let s = back_ends b l.1 in
      let p : h (S.target b) ≡ h (lower ends height b) = ap h s.1 in
      let q : h (S.source b) ≡ h (higher ends height b) = ap h s.0 in
      omega (arith, (G.down b l.0.below (is_back b l)).0)

  trail : (b : ℕ) → BackLine S b → Above S (S.target b) (S.source b)
  trail b l =
      let s = back_ends b l.1 in
      let q = G.down b l.0.below (is_back b l) in
      let a : Above S (lower ends height b) (higher ends height b) = above_by (lower ends height b) (higher ends height b) (omega (arith, q.0)) q.1 in
      subst (λ x. Above S x (S.source b)) (sym s.1) (subst (λ x. Above S (lower ends height b) x) (sym s.0) a)

  one_parent : (t u : ℕ) → TreeLine S t → TreeLine S u → S.target t ≡ S.target u → t ≡ u
  one_parent t u l k q =
      sym (G.up t l.0.below (is_tree t l.1)).0
      ∙ ap (λ x. get_or par x 0) (sym (tree_ends t l.1).1 ∙ q ∙ (tree_ends u k.1).1)
      ∙ (G.up u k.0.below (is_tree u k.1)).0

  parent : (v : ℕ) → v < n → 0 < h v → TreeLine S (get_or par v 0) × (S.target (get_or par v 0) ≡ v)
  parent v g p =
      let P = G.found v g p in
      let t : S.tree (get_or par v 0) ≡ true = eq-eqb _ _ P.1 in
      ((record { below = P.0; yes = lt-ltb (get_or kind (get_or par v 0) 0) 2 (omega (arith, P.1)) }, t), (tree_ends (get_or par v 0) t).1 ∙ P.2)

  above_line : (t : ℕ) → TreeLine S t → Above S (S.source t) (S.target t)
  unfolding climb
  above_line t l =
      let s = tree_ends t l.1 in
      let r = rise t l in
      let one : h (S.target t) - h (S.source t) ≡ 1 = omega arith in
      above_by (S.source t) (S.target t) (omega arith)
      (rw one (ap (λ x. lower ends height (get_or par x 0)) s.1 ∙ ap (lower ends height) (G.up t l.0.below (is_tree t l.1)).0 ∙ sym s.0))

  -- Stems

  one_down : (k x : ℕ) → lower ends height (get_or par (down k x) 0) ≡ down (k + 1) x
  unfolding climb
  one_down k x = sym (down_add k 1 x)

  strictly_lower : (v x : ℕ) → Above S v x → (v ≡ x → ⊥) → h v < h x
  unfolding climb
  strictly_lower v x a d =
      let p = above_of v x a in
      cases (lt_or (h v) (h x))
      (λ l. l)
      (λ l. absurd (d (sym p.1 ∙ (let w : h x - h v ≡ 0 = omega arith in rw w))))

  stem : (v x : ℕ) → x < n → Above S v x → (v ≡ x → ⊥) → (t : ℕ) × TreeLine S t × (S.source t ≡ v) × Above S (S.target t) x
  stem v x g a d =
      let p = above_of v x a in
      let lt : h v < h x = strictly_lower v x a d in
      let k = h x - h v - 1 in
      let y = down k x in
      let D = down_in k x g (omega arith) in
      let hy : h y ≡ suc (h v) = omega (arith, D.1) in
      let P = parent y D.0 (omega arith) in
      let t = get_or par y 0 in
      let z : h x - h v ≡ k + 1 = omega arith in
      let from_v : S.source t ≡ v = (tree_ends t P.0.1).0 ∙ one_down k x ∙ ap (λ j. down j x) (sym z) ∙ p.1 in
      let top : Above S y x = above_by y x (omega arith) (let w : h x - h y ≡ k = omega arith in ap (λ j. down j x) w) in
      (t, P.0, from_v, subst (λ w. Above S w x) (sym P.1) top)

  pub searched : Searched S
  searched =
      record {
        source_in = λ l g. (lines_in l g.below).0;
        target_in = λ l g. (lines_in l g.below).1;
        height_small = height_small;
        parent = parent;
        one_parent = one_parent;
        rise = rise;
        fall = fall;
        trail = trail;
        above_self = above_self;
        above_trans = above_trans;
        above_line = above_line;
        above_height = λ u x a. (above_of u x a).0;
        above_level = above_level;
        above_between = above_between;
        stem = stem;
      }

  -- a line's two ends are where it starts and where it ends
  pub directed : (l : ℕ) → ((first ends l ≡ S.source l) × (second ends l ≡ S.target l)) ⊎ ((first ends l ≡ S.target l) × (second ends l ≡ S.source l))
  directed l =
      cases (bool (S.tree l))
      (λ t. let s = tree_ends l t in cases (ends_of l) (λ q. inl (q.0 ∙ sym s.0, q.1 ∙ sym s.1)) (λ q. inr (q.0 ∙ sym s.1, q.1 ∙ sym s.0)))
      (λ t. let s = back_ends l t in cases (ends_of l) (λ q. inr (q.0 ∙ sym s.1, q.1 ∙ sym s.0)) (λ q. inl (q.0 ∙ sym s.0, q.1 ∙ sym s.1)))
