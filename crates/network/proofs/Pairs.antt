-- Check 5 by a table of the pairs seen: a pair's two places, (a, b) and (b, a), are marked when a line joins it.
use mathlib.Core.Bool.{Bool, true, false}
use mathlib.Core.List.{List}
use mathlib.Core.Logic.{◌⊎◌, inl, inr, ◌≢◌}
use mathlib.Core.Path.{◌≡◌, refl, sym, ap, ◌∙◌}
use Prim.Native.Nat.{ℕ, ◌+◌, ◌*◌, ◌/◌, ◌≤◌, ◌<◌}
use native.Mathlib.Numerals.{add-one}
use native.Mathlib.Omega.{arith}
use lib.ListN.{get_or, set, length, replicate, length-set, length-replicate, get_or-replicate}
use lib.Seq.{get_or-set_same, get_or-set_other}
use borrow.Author.Tests.{eq-eqb, ne_eqb, eqb-true}
use Rattle.laws.specs.Tests.{either, any}
use Rattle.laws.specs.Counting.{bit}
use Rattle.laws.proofs.Cases.{cases, bool, true_false, eq_or}
use Rattle.laws.proofs.Tests.{both_yes, both_of, either_first, either_second, either_of, either_no, either_neither, any_yes, any_no, any_none}
use Rattle.network.specs.Network.{first, second, joins}
use Rattle.network.specs.Numbers.{looped, doubled, mispaired}
use Rattle.network.specs.Inside.{Paired}

-- Which pairs a line joins

pub joins_as_given : (ends : List ℕ) (k u v : ℕ) → first ends k ≡ u → second ends k ≡ v → joins ends k u v ≡ true
unfolding joins
joins_as_given ends k u v e f = either_first _ _ (both_yes (eq-eqb _ u e) (eq-eqb _ v f))

pub joins_turned : (ends : List ℕ) (k u v : ℕ) → first ends k ≡ v → second ends k ≡ u → joins ends k u v ≡ true
unfolding joins
joins_turned ends k u v e f = either_second _ _ (both_yes (eq-eqb _ v e) (eq-eqb _ u f))

pub joins_of : (ends : List ℕ) (k u v : ℕ) → joins ends k u v ≡ true → ((first ends k ≡ u) × (second ends k ≡ v)) ⊎ ((first ends k ≡ v) × (second ends k ≡ u))
unfolding joins
joins_of ends k u v t =
    cases (either_of t)
    (λ p. let q = both_of p in inl (eqb-true _ u q.0, eqb-true _ v q.1))
    (λ p. let q = both_of p in inr (eqb-true _ v q.0, eqb-true _ u q.1))

any_more : (p : ℕ → Bool) (k : ℕ) → any p (k + 1) ≡ either (p k) (any p k)
unfolding any
any_more p k = rw (add-one k)

bit_one : (b : Bool) → bit b ≡ 1 → b ≡ true
bit_one true e = refl
bit_one false e = absurd (omega arith)

-- The table after k lines
pub record Seen (ends seen : List ℕ) (k : ℕ) : Type 0 where
  pub long : length seen ≡ 262144
  pub upto : k ≤ length ends / 2
  pub marks : (x y : ℕ) → x < 512 → y < 512 → get_or seen (512 * x + y) 0 ≡ bit (any (λ j. joins ends j x y) k)
  pub clean : (j : ℕ) → j < k → either (looped ends j) (doubled ends j) ≡ false

module _ (ends : List ℕ) where
  pub seen_start : Seen ends (replicate {A = ℕ} 262144 0) 0
  unfolding any
  seen_start =
      record {
        long = length-replicate {A = ℕ} 262144 0;
        upto = omega arith;
        marks = λ x y h l. get_or-replicate {A = ℕ} 262144 (512 * x + y) 0 0 (omega arith);
        clean = λ j h. absurd (omega arith);
      }

  module _ (seen : List ℕ) (k a b : ℕ) (s : Seen ends seen k) (p : Paired ends) (h : k < length ends / 2)
      (is_a : (a ≡ first ends k) × (a < 65536)) (is_b : (b ≡ second ends k) × (b < 65536)) where
    small : (a < 512) × (b < 512)
    small = (omega (arith, p.small (2 * k) (omega arith), is_a.0), omega (arith, p.small (2 * k + 1) (omega arith), is_b.0))

    pub place_in : 512 * a + b < 262144
    place_in = omega (arith, small)

    pub turned_in : 512 * b + a < 262144
    turned_in = omega (arith, small)

    pub seen_loop : a ≡ b → true ≡ mispaired ends
    unfolding mispaired looped
    seen_loop e = sym (any_yes _ (length ends / 2) k h (either_first _ _ (eq-eqb _ _ (sym is_a.0 ∙ e ∙ is_b.0))))

    pub seen_twice : get_or seen (512 * a + b) 0 ≡ 1 → true ≡ mispaired ends
    unfolding mispaired doubled
    seen_twice e =
        let m = s.marks a b small.0 small.1 in
        let t : any (λ j. joins ends j a b) k ≡ true = bit_one _ (sym m ∙ e) in
        sym (any_yes _ (length ends / 2) k h (either_second _ _ (rw (is_a.0, is_b.0) at t)))

    module _ (apart : a ≡ b → ⊥) (new : get_or seen (512 * a + b) 0 ≡ 1 → ⊥) where
      after : List ℕ
      after = set (set seen (512 * a + b) 1) (512 * b + a) 1

      unmarked : any (λ j. joins ends j a b) k ≡ false
      unmarked = cases (bool (any (λ j. joins ends j a b) k)) (λ t. absurd (new (s.marks a b small.0 small.1 ∙ ap bit t))) (λ f. f)

      line_clean : either (looped ends k) (doubled ends k) ≡ false
      unfolding looped doubled
      line_clean = either_no (ne_eqb _ _ (λ e. apart (is_a.0 ∙ e ∙ sym is_b.0))) (rw (is_a.0, is_b.0) at unmarked)

      mark : (x y : ℕ) → x < 512 → y < 512 → get_or after (512 * x + y) 0 ≡ bit (any (λ j. joins ends j x y) (k + 1))
      unfolding after
      mark x y hx hy =
          cases (bool (joins ends k x y))
          (λ t.
          let one : any (λ j. joins ends j x y) (k + 1) ≡ true = any_more _ k ∙ either_first _ _ t in
          rw one
          (cases (joins_of ends k x y t)
          (λ q.
          let at : 512 * x + y ≡ 512 * a + b = omega (arith, q.0, q.1, is_a.0, is_b.0) in
          let away : 512 * x + y ≢ 512 * b + a = λ e. apart (omega (arith, small)) in
          get_or-set_other (set seen (512 * a + b) 1) (512 * b + a) (512 * x + y) 1 0 away
          ∙ (rw at (get_or-set_same seen (512 * a + b) 1 0 (omega (arith, s.long, small)))))
          (λ q.
          let at : 512 * x + y ≡ 512 * b + a = omega (arith, q.0, q.1, is_a.0, is_b.0) in
          rw at (get_or-set_same (set seen (512 * a + b) 1) (512 * b + a) 1 0 (omega (arith, s.long, small, length-set seen (512 * a + b) 1))))))
          (λ f.
          let same : any (λ j. joins ends j x y) (k + 1) ≡ any (λ j. joins ends j x y) k = any_more _ k ∙ first_no _ _ f in
          let off : 512 * x + y ≢ 512 * a + b = λ e.
          true_false (joins_as_given ends k x y (omega (arith, small, is_a.0)) (omega (arith, small, is_b.0))) f in
          let off' : 512 * x + y ≢ 512 * b + a = λ e.
          true_false (joins_turned ends k x y (omega (arith, small, is_a.0)) (omega (arith, small, is_b.0))) f in
          rw same
          (get_or-set_other (set seen (512 * a + b) 1) (512 * b + a) (512 * x + y) 1 0 off'
          ∙ get_or-set_other seen (512 * a + b) (512 * x + y) 1 0 off ∙ s.marks x y hx hy))
        where
          first_no : (p q : Bool) → p ≡ false → either p q ≡ q
          first_no p q e = unfold either in rw e

      pub seen_more : Seen ends (set (set seen (512 * a + b) 1) (512 * b + a) 1) (k + 1)
      seen_more =
          record {
            long = omega (arith, s.long, length-set (set seen (512 * a + b) 1) (512 * b + a) 1, length-set seen (512 * a + b) 1);
            upto = omega arith;
            marks = unfold after in mark;
            clean = λ j l. cases (eq_or j k) (λ e. rw e line_clean) (λ d. let d' : j ≢ k = d in s.clean j (omega arith));
          }

  pub seen_all : (seen : List ℕ) (k : ℕ) → Seen ends seen k → length ends / 2 ≤ k → false ≡ mispaired ends
  unfolding mispaired
  seen_all seen k s h = sym (any_no _ (length ends / 2) (λ j l. s.clean j (omega arith)))

  pub loop_yes : (k : ℕ) → first ends k ≡ second ends k → looped ends k ≡ true
  unfolding looped
  loop_yes k e = eq-eqb _ _ e

  pub none_looped : mispaired ends ≡ false → (k : ℕ) → k < length ends / 2 → looped ends k ≡ false
  unfolding mispaired
  none_looped e k h = (either_neither (any_none _ (length ends / 2) e k h)).0
