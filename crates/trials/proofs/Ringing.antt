-- The tests of a constraint and of a ring say what their propositions say, both ways; and there is no legal choice where there is a ring.
use mathlib.Core.Bool.{true, false}
use mathlib.Core.Logic.{◌≢◌}
use mathlib.Core.Path.{◌≡◌, refl, sym, subst}
use Prim.Native.Nat.{ℕ, suc, ◌≤◌, ◌<◌}
use native.Mathlib.Omega.{arith}
use lib.Dec.{eqb}
use borrow.Author.Tests.{eqb-true, eq-eqb, ne_eqb, ltb-true, lt-ltb}
use Rattle.side.specs.Sides.{same, different}
use Rattle.laws.specs.Tests.{both, either}
use Rattle.laws.proofs.Cases.{cases, eq_or}
use Rattle.laws.proofs.Tests.{both_yes, both_of, either_first, either_second, either_of, all_of, all_yes}
use Rattle.tree.specs.Tree.{Tree}
use Rattle.fork.specs.Fork.{Constraint, same_side, other_side, sameb, differentb}
use Rattle.fork.proofs.Rule.{in_group, same_of, same_yes, different_of, different_yes}
use Rattle.fork.proofs.Choices.{legal_even}
use Rattle.rings.proofs.Rings.{ring_refutes}
use Rattle.rings.specs.Ring.{Ring}
use Rattle.choice.specs.Choice.{Drawable}
use Rattle.trials.specs.Tests.{constraintb, roundb}

module _ (S : Tree) where
  constraint_of : (b c k : ℕ) → constraintb S b c k ≡ true → Constraint S b c k
  unfolding constraintb
  constraint_of b c k t =
      let q = both_of t in
      let hb = ltb-true b S.lines (both_of q.0).0 in
      let hc = ltb-true c S.lines (both_of q.0).1 in
      cases (either_of q.1)
      (λ y. subst (Constraint S b c) (sym (eqb-true k same (both_of y).0)) (same_side (same_of S b c hb hc (both_of y).1)))
      (λ y. subst (Constraint S b c) (sym (eqb-true k different (both_of y).0)) (other_side (different_of S b c hb hc (both_of y).1)))

  pub within : (b c k : ℕ) → Constraint S b c k → (b < S.lines) × (c < S.lines)
  within b c k (same_side s) = (in_group S _ _ b s.first, in_group S _ _ c s.second)
  within b c k (other_side s) = (in_group S _ _ b s.first, in_group S _ _ c s.second)

  pub kinds : (b c k : ℕ) → Constraint S b c k → k ≤ different
  kinds b c k (same_side s) = omega arith
  kinds b c k (other_side s) = omega arith

  pub constraint_yes : (b c k : ℕ) → Constraint S b c k → constraintb S b c k ≡ true
  unfolding constraintb
  constraint_yes b c k q =
      let w = within b c k q in
      both_yes (both_yes (lt-ltb b S.lines w.0) (lt-ltb c S.lines w.1)) (kind k q)
    where
      kind : (j : ℕ) → Constraint S b c j → either (both (eqb j same) (sameb S b c)) (both (eqb j different) (differentb S b c)) ≡ true
      kind j (same_side s) = either_first _ _ (both_yes (eq-eqb same same refl) (same_yes S b c s))
      kind j (other_side s) = either_second _ _ (both_yes (eq-eqb different different refl) (different_yes S b c s))

  pub round_of : (n : ℕ) (line kind : ℕ → ℕ) → roundb S n line kind ≡ true → Ring (Constraint S) n line kind
  unfolding roundb
  round_of n line kind t =
      let q = both_of t in
      record {
        shape = q.0;
        step = λ i h.
            let e : eqb (suc i) n ≡ false = ne_eqb (suc i) n (λ z. omega arith) in
            constraint_of (line i) (line (suc i)) (kind i) (rw e at (all_of _ n q.1 i (omega arith)));
        close = λ i h.
            let e : eqb (suc i) n ≡ true = eq-eqb (suc i) n h in
            constraint_of (line i) (line 0) (kind i) (rw e at (all_of _ n q.1 i (omega arith)));
      }

  pub round_yes : (n : ℕ) (line kind : ℕ → ℕ) → Ring (Constraint S) n line kind → roundb S n line kind ≡ true
  unfolding roundb
  round_yes n line kind r =
      both_yes r.shape
      (all_yes _ n
      (λ i h.
      cases (eq_or (suc i) n)
      (λ e. rw (eq-eqb (suc i) n e) (constraint_yes (line i) (line 0) (kind i) (r.close i e)))
      (λ d. let d' : suc i ≢ n = d in rw (ne_eqb (suc i) n d) (constraint_yes (line i) (line (suc i)) (kind i) (r.step i (omega arith))))))

  pub none_legal : (n : ℕ) (line kind : ℕ → ℕ) → Ring (Constraint S) n line kind → Drawable S → ⊥
  none_legal n line kind r d = ring_refutes (Constraint S) kinds d.0 (λ b c k q. legal_even S d.0 d.1 q) n line kind r
