-- The checks 2 to 4 as the code makes them, and the checks one after the other.
use mathlib.Core.Bool.{Bool, true, false}
use mathlib.Core.List.{List}
use mathlib.Core.Logic.{inl, inr, ◌≢◌}
use mathlib.Core.Path.{◌≡◌, refl, sym, ◌∙◌}
use Prim.Native.Nat.{ℕ, ◌+◌, ◌*◌, ◌/◌, ◌%◌, ◌≤◌, ◌<◌}
use native.Mathlib.Omega.{arith}
use lib.Dec.{ltb}
use lib.ListN.{get_or, length}
use borrow.Author.Tests.{eq-eqb, ne_eqb, lt-ltb, le-ltb, le-leb, lt-leb, eqb-false, ltb-false, leb-false}
use Rattle.laws.specs.Tests.{either}
use Rattle.laws.proofs.Cases.{cases, true_false, eq_or}
use Rattle.laws.proofs.Tests.{either_first, either_second, either_neither, any_yes, any_no, any_none}
use Rattle.network.specs.Numbers.{oversize, odd, astray, mispaired, Sifted}
use Rattle.network.specs.Inside.{Paired}

-- 2

module _ (n count : ℕ) where
  pub no_vertex : n ≡ 0 → true ≡ oversize n count
  unfolding oversize
  no_vertex e = sym (either_first _ _ (either_first _ _ (eq-eqb n 0 e)))

  pub many_vertices : 512 < n → true ≡ oversize n count
  unfolding oversize
  many_vertices h = sym (either_first _ _ (either_second _ _ (lt-ltb 512 n h)))

  pub by_lines : (n ≡ 0 → ⊥) → n ≤ 512 → ltb 4096 count ≡ oversize n count
  unfolding oversize either
  by_lines d h = rw (ne_eqb n 0 d, le-ltb 512 n h)

  pub sized : oversize n count ≡ false → (0 < n) × (n ≤ 512) × (count ≤ 4096)
  unfolding oversize
  sized e =
      let a = either_neither e in
      let b = either_neither a.0 in
      let d : n ≢ 0 = eqb-false n 0 b.0 in
      (omega arith, ltb-false 512 n b.1, ltb-false 4096 count a.1)

-- 3

pub even : (count : ℕ) → odd count ≡ false → count ≡ 2 * (count / 2)
unfolding odd
even count e = let d : count % 2 ≢ 1 = eqb-false (count % 2) 1 e in omega arith

-- 4

module _ (n : ℕ) (ends : List ℕ) where
  -- the first i ends are vertices
  pub record Inside (i : ℕ) : Type 0 where
    pub upto : i ≤ length ends
    pub vertices : (j : ℕ) → j < i → get_or ends j 0 < n

  pub inside_start : Inside 0
  inside_start = record { upto = omega arith; vertices = λ j h. absurd (omega arith) }

  module _ (i w : ℕ) (is : (w ≡ get_or ends i 0) × (w < 65536)) (h : i < length ends) where
    pub inside_more : Inside i → w < n → Inside (i + 1)
    inside_more s l =
        record {
          upto = omega arith;
          vertices = λ j k. cases (eq_or j i) (λ e. rw e (omega (arith, is.0))) (λ d. let d' : j ≢ i = d in s.vertices j (omega arith));
        }

    pub goes_astray : n ≤ w → true ≡ astray n ends
    unfolding astray
    goes_astray l = sym (any_yes _ (length ends) i h (le-leb n (get_or ends i 0) (omega (arith, is.0))))

  pub inside_all : (i : ℕ) → Inside i → length ends ≤ i → false ≡ astray n ends
  unfolding astray
  inside_all i s h = sym (any_no _ (length ends) (λ j k. lt-leb n (get_or ends j 0) (s.vertices j (omega arith))))

  pub none_astray : astray n ends ≡ false → (j : ℕ) → j < length ends → get_or ends j 0 < n
  unfolding astray
  none_astray e j h = leb-false n (get_or ends j 0) (any_none _ (length ends) e j h)

-- One after the other

module _ (n : ℕ) (ends : List ℕ) (two : Bool) (is_two : two ≡ oversize n (length ends)) where
  pub sift_2 : two ≡ true → Sifted n ends 2
  sift_2 t = inl (sym is_two ∙ t, refl)

  module _ (not_two : two ≡ false) (three : Bool) (is_three : three ≡ odd (length ends)) where
    not_oversize : oversize n (length ends) ≡ true → ⊥
    not_oversize t = true_false t (sym is_two ∙ not_two)

    pub sift_3 : three ≡ true → Sifted n ends 3
    sift_3 t = inr (not_oversize, inl (sym is_three ∙ t, refl))

    module _ (not_three : three ≡ false) (four : Bool) (is_four : four ≡ astray n ends) where
      not_odd : odd (length ends) ≡ true → ⊥
      not_odd t = true_false t (sym is_three ∙ not_three)

      pub sift_4 : four ≡ true → Sifted n ends 4
      sift_4 t = inr (not_oversize, inr (not_odd, inl (sym is_four ∙ t, refl)))

      module _ (not_four : four ≡ false) where
        pub paired : Paired ends
        paired =
            let s = sized n (length ends) (sym is_two ∙ not_two) in
            record {
              even = even (length ends) (sym is_three ∙ not_three);
              few = s.2;
              small = λ i h. omega (arith, none_astray n ends (sym is_four ∙ not_four) i h, s.1);
            }

        not_astray : astray n ends ≡ true → ⊥
        not_astray t = true_false t (sym is_four ∙ not_four)

        module _ (five : Bool) (is_five : five ≡ mispaired ends) where
          pub sift_5 : five ≡ true → Sifted n ends 5
          sift_5 t = inr (not_oversize, inr (not_odd, inr (not_astray, inl (sym is_five ∙ t, refl))))

          pub sift_0 : five ≡ false → Sifted n ends 0
          sift_0 f = inr (not_oversize, inr (not_odd, inr (not_astray, inr (λ t. true_false t (sym is_five ∙ f), refl))))
