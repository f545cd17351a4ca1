-- The returns of a line and its low: the tests as propositions, and what the tree makes of them. A return is told by heights alone; a line's
-- returns go on below its parent line; each return of a tree line comes through one line that leaves its upper end.
use mathlib.Core.Bool.{true, false, not}
use mathlib.Core.Logic.{◌⊎◌, inl, inr}
use mathlib.Core.Path.{◌≡◌, refl, sym, ◌∙◌, ap, subst}
use Prim.Native.Nat.{ℕ, suc, ◌+◌, ◌≤◌, ◌<◌}
use native.Mathlib.Omega.{arith}
use lib.Dec.{eqb}
use borrow.Author.Tests.{eq-eqb, eqb-true, lt-ltb, ltb-true, not-true}
use Rattle.laws.specs.Counting.{many}
use Rattle.laws.specs.Lists.{from, keep}
use Rattle.laws.proofs.Cases.{cases, eq_or, true_false}
use Rattle.laws.proofs.Tests.{both_yes, both_of, either_first, either_second, either_of}
use Rattle.laws.proofs.Lists.{All, all_keep, all_kept, all_map, all_both, all_many, from_in, from_all, min_le, min_in, min_most}
use Rattle.laws.proofs.Occurring.{many_keep_yes}
use Rattle.tree.specs.Tree.{Tree}
use Rattle.tree.specs.Returns.{end, returnb, returns, low}
use Rattle.tree.specs.Words.{Line, TreeLine, BackLine, Above, Leaves, Return}
use Rattle.tree.specs.Searched.{Searched}

-- The tests

module _ (S : Tree) where
  pub return_yes : (f b : ℕ) → Return S f b → returnb S f b ≡ true
  unfolding returnb
  return_yes f b r =
      both_yes (both_yes r.is_back.0.yes (ap not r.is_back.1))
      (both_yes (cases r.via (λ e. either_first (eqb b f) _ (eq-eqb b f e)) (λ q. either_second (eqb b f) _ (both_yes q.0 q.1))) (lt-ltb _ _ r.below))

  pub return_of : (f b : ℕ) → b < S.lines → returnb S f b ≡ true → Return S f b
  unfolding returnb
  return_of f b h e =
      let p = both_of e in
      let q = both_of p.0 in
      let u = both_of p.1 in
      record {
        is_back = (record { below = h; yes = q.0 }, not-true _ q.1);
        via = cases (either_of u.0) (λ x. inl (eqb-true b f x)) (λ x. inr (both_of x));
        below = ltb-true _ _ u.1;
      }

  pub in_returns : (f b : ℕ) → Return S f b → 0 < many b (returns S f)
  unfolding returns
  in_returns f b r =
      omega (arith, many_keep_yes (returnb S f) b (from 0 S.lines) (return_yes f b r), from_in 0 S.lines b (omega arith) (omega (arith, r.is_back.0.below)))

  pub returns_all : (f : ℕ) → All (Return S f) (returns S f)
  unfolding returns
  returns_all f =
      all_map (λ b. (b < 0 + S.lines) × (returnb S f b ≡ true)) (Return S f) (keep (returnb S f) (from 0 S.lines))
      (λ b q. return_of f b (omega (arith, q.0)) q.1)
      (all_both (λ b. b < 0 + S.lines) (λ b. returnb S f b ≡ true) (keep (returnb S f) (from 0 S.lines))
      (all_keep _ (returnb S f) (from 0 S.lines) (from_all 0 S.lines)) (all_kept (returnb S f) (from 0 S.lines)))

  pub returned : (f b : ℕ) → 0 < many b (returns S f) → Return S f b
  returned f b h = all_many (Return S f) b (returns S f) (returns_all f) h

  -- Low

  pub low_least : (f b : ℕ) → Return S f b → low S f ≤ end S b
  unfolding low
  low_least f b r = min_le (end S) (S.height (S.source f)) b (returns S f) (in_returns f b r)

  -- some return ends at the low, or there is none and the low is the height of the vertex left
  pub low_cases : (f : ℕ) → ((b : ℕ) × Return S f b × (end S b ≡ low S f)) ⊎ ((low S f ≡ S.height (S.source f)) × ((b : ℕ) → Return S f b → ⊥))
  unfolding low
  low_cases f =
      cases (min_in (end S) (S.height (S.source f)) (returns S f))
      (λ r. inl (r.0, returned f r.0 r.1, r.2))
      (λ e. inr (e, λ b r. omega (arith, r.below, min_le (end S) (S.height (S.source f)) b (returns S f) (in_returns f b r))))

  pub low_most : (f : ℕ) → low S f ≤ S.height (S.source f)
  unfolding low
  low_most f = min_most (end S) (S.height (S.source f)) (returns S f)

  -- a line has a return exactly when its low is below the vertex that it leaves
  pub low_has : (f b : ℕ) → Return S f b → (c : ℕ) × Return S f c × (end S c ≡ low S f)
  low_has f b r = cases (low_cases f) (λ x. x) (λ n. absurd (n.1 b r))

  pub low_some : (f : ℕ) → low S f < S.height (S.source f) → (c : ℕ) × Return S f c × (end S c ≡ low S f)
  low_some f h = cases (low_cases f) (λ x. x) (λ n. absurd (omega (arith, n.0)))

-- In a tree

module _ (S : Tree) (X : Searched S) where
  -- a tree line does not lead up to the vertex that it leaves
  not_over : (f : ℕ) → TreeLine S f → Above S (S.target f) (S.source f) → ⊥
  not_over f t a = omega (arith, X.rise f t, X.above_height (S.target f) (S.source f) a)

  above_source : (f b : ℕ) → TreeLine S f → Above S (S.target f) (S.source b) → Above S (S.source f) (S.source b)
  above_source f b t a = X.above_trans (S.source f) (S.target f) (S.source b) (X.above_line f t) a

  -- the vertex that a line leaves stands below what its returns start from
  pub return_above : (f b : ℕ) → Line S f → Return S f b → Above S (S.source f) (S.source b)
  return_above f b l r =
      cases r.via
      (λ e. subst (λ x. Above S (S.source x) (S.source b)) e (X.above_self (S.source b)))
      (λ q. above_source f b (l, q.0) q.1)

  -- a back line that leaves v is a return of itself
  pub return_self : (b : ℕ) → BackLine S b → Return S b b
  return_self b l = record { is_back = l; via = inl refl; below = X.fall b l }

  -- a back line has no return but itself
  pub return_back : (f b : ℕ) → S.tree f ≡ false → Return S f b → b ≡ f
  return_back f b t r = cases r.via (λ e. e) (λ q. true_false q.0 t)

  -- two lines that leave one vertex share no return
  pub one_way : (f g b : ℕ) → Line S f → Line S g → S.source f ≡ S.source g → Return S f b → Return S g b → f ≡ g
  one_way f g b lf lg e r s =
      cases r.via
      (λ bf.
      cases s.via
      (λ bg. sym bf ∙ bg)
      (λ q. absurd (not_over g (lg, q.0) (subst (λ x. Above S (S.target g) x) (ap S.source bf ∙ e) q.1))))
      (λ p.
      cases s.via
      (λ bg. absurd (not_over f (lf, p.0) (subst (λ x. Above S (S.target f) x) (ap S.source bg ∙ sym e) p.1)))
      (λ q.
      X.one_parent f g (lf, p.0) (lg, q.0)
      (X.above_level (S.target f) (S.target g) (S.source b) p.1 q.1
      (X.rise f (lf, p.0) ∙ ap (λ x. suc (S.height x)) e ∙ sym (X.rise g (lg, q.0))))))

  -- a return of a line that leaves the upper end of a tree line, and that ends lower than the tree line begins, is one of the tree line
  pub return_down : (t f b : ℕ) → TreeLine S t → Leaves S (S.target t) f → Return S f b → end S b < S.height (S.source t) → Return S t b
  return_down t f b lt lf r h =
      record {
        is_back = r.is_back;
        via = inr (lt.1, subst (λ x. Above S x (S.source b)) lf.from (return_above f b lf.line r));
        below = h;
      }

  -- .. and each return of a tree line comes through a line that leaves its upper end
  pub return_up : (t b : ℕ) → TreeLine S t → Return S t b → (k : ℕ) × Leaves S (S.target t) k × Return S k b
  return_up t b lt r =
      cases r.via
      (λ e. true_false lt.1 (subst (λ x. S.tree x ≡ false) e r.is_back.1))
      (λ q.
      cases (eq_or (S.target t) (S.source b))
      (λ e. (b, record { line = r.is_back.0; from = sym e }, return_self b r.is_back))
      (λ d.
      let w = X.stem (S.target t) (S.source b) (X.source_in b r.is_back.0) q.1 d in
      let k = w.0 in
      let e : S.height (S.source k) ≡ S.height (S.target t) = ap S.height w.2 in (
        k,
        record { line = w.1.0; from = w.2 },
        record { is_back = r.is_back; via = inr (w.1.1, w.3); below = omega (arith, r.below, X.rise t lt) },
      )))
