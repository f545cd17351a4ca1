-- The sizes of the meshes, line by line: each line adds one to the mesh of each of its directions, or one where both are on one mesh.
use mathlib.Core.Bool.{true, false}
use mathlib.Core.List.{List}
use mathlib.Core.Path.{◌≡◌, sym, ◌∙◌, ap}
use Prim.Native.Nat.{ℕ, ◌+◌, ◌*◌, ◌<◌}
use native.Mathlib.Numerals.{add-one}
use native.Mathlib.Omega.{arith}
use lib.Dec.{eqb}
use lib.ListN.{length, get_or, set, replicate, length-set, length-replicate, get_or-replicate}
use lib.Seq.{get_or-set_same, get_or-set_other}
use borrow.Author.Tests.{eq-eqb, ne_eqb}
use Rattle.laws.specs.Counting.{count}
use Rattle.laws.proofs.Cases.{cases, eq_or}
use Rattle.laws.proofs.Counting.{count_zero, count_yes, count_no}
use Rattle.laws.proofs.Tests.{either_first, either_second, either_no}
use Rattle.laws.proofs.Orbits.{count_few}
use Rattle.meshes.specs.Inside.{on_mesh, Meshed, Sized}

module _ (mesh : List ℕ) (j k : ℕ) where
  on_forth : get_or mesh (2 * k) 0 ≡ j → on_mesh mesh j k ≡ true
  unfolding on_mesh
  on_forth e = either_first (eqb (get_or mesh (2 * k) 0) j) _ (eq-eqb (get_or mesh (2 * k) 0) j e)

  on_back : get_or mesh (2 * k + 1) 0 ≡ j → on_mesh mesh j k ≡ true
  unfolding on_mesh
  on_back e = either_second (eqb (get_or mesh (2 * k) 0) j) _ (eq-eqb (get_or mesh (2 * k + 1) 0) j e)

  on_neither : (get_or mesh (2 * k) 0 ≡ j → ⊥) → (get_or mesh (2 * k + 1) 0 ≡ j → ⊥) → on_mesh mesh j k ≡ false
  unfolding on_mesh
  on_neither d e = either_no (ne_eqb (get_or mesh (2 * k) 0) j d) (ne_eqb (get_or mesh (2 * k + 1) 0) j e)

module _ (m : ℕ) (mesh : List ℕ) where
  pub sizing_start : (sizes : List ℕ) → sizes ≡ replicate 4097 0 → Sized 0 mesh sizes
  sizing_start sizes e =
      rw e
      (record {
        sizes_long = length-replicate {A = ℕ} 4097 0;
        sizes_are = λ j h. get_or-replicate {A = ℕ} 4097 j 0 0 h ∙ sym (count_zero (on_mesh mesh j));
      })

  module _ (sizes : List ℕ) (k : ℕ) (S : Sized k mesh sizes) (M : Meshed m mesh) (h : k < m) where
    abbrev a : ℕ
    a = get_or mesh (2 * k) 0

    abbrev b : ℕ
    b = get_or mesh (2 * k + 1) 0

    a_in : a < 4097
    a_in = M.small (2 * k) (omega arith)

    b_in : b < 4097
    b_in = M.small (2 * k + 1) (omega arith)

    room : get_or sizes a 0 < 2048
    room = omega (arith, S.sizes_are a a_in, count_few (on_mesh mesh a) k, M.few)

    pub sizing_add : get_or sizes a 0 + 1 < 65536
    sizing_add = omega (arith, room)

    pub sizing_add_back : get_or (set sizes a (get_or sizes a 0 + 1)) b 0 + 1 < 65536
    sizing_add_back =
        cases (eq_or b a)
        (λ e. rw (e, get_or-set_same sizes a (get_or sizes a 0 + 1) 0 (omega (arith, S.sizes_long, a_in))) (omega (arith, room)))
        (λ d. rw (get_or-set_other sizes a b (get_or sizes a 0 + 1) 0 d) (omega (arith, S.sizes_are b b_in, count_few (on_mesh mesh b) k, M.few)))

    -- what a mesh has after line k
    yes_at : (j : ℕ) → j < 4097 → on_mesh mesh j k ≡ true → get_or sizes j 0 + 1 ≡ count (on_mesh mesh j) (k + 1)
    yes_at j g t = rw (add-one k) (omega (arith, count_yes (on_mesh mesh j) k t, S.sizes_are j g))

    no_at : (j : ℕ) → j < 4097 → (a ≡ j → ⊥) → (b ≡ j → ⊥) → get_or sizes j 0 ≡ count (on_mesh mesh j) (k + 1)
    no_at j g d e = rw (add-one k) (S.sizes_are j g ∙ sym (count_no (on_mesh mesh j) k (on_neither mesh j k d e)))

    at_a : (j : ℕ) → j < 4097 → j ≡ a → get_or (set sizes a (get_or sizes a 0 + 1)) j 0 ≡ count (on_mesh mesh j) (k + 1)
    at_a j g e =
        ap (λ (x : ℕ). get_or (set sizes a (get_or sizes a 0 + 1)) x 0) e
        ∙ get_or-set_same sizes a (get_or sizes a 0 + 1) 0 (omega (arith, S.sizes_long, a_in))
        ∙ ap (λ (x : ℕ). get_or sizes x 0 + 1) (sym e)
        ∙ yes_at j g (on_forth mesh j k (sym e))

    pub sizing_same : a ≡ b → Sized (k + 1) mesh (set sizes a (get_or sizes a 0 + 1))
    sizing_same e =
        record {
          sizes_long = length-set sizes a (get_or sizes a 0 + 1) ∙ S.sizes_long;
          sizes_are = λ j g.
              cases (eq_or j a)
              (at_a j g)
              (λ d. get_or-set_other sizes a j (get_or sizes a 0 + 1) 0 d ∙ no_at j g (λ z. d (sym z)) (λ z. d (sym z ∙ sym e)));
        }

    pub sizing_two : (a ≡ b → ⊥)
        → Sized (k + 1) mesh (set (set sizes a (get_or sizes a 0 + 1)) b (get_or (set sizes a (get_or sizes a 0 + 1)) b 0 + 1))
    sizing_two n =
        let s = set sizes a (get_or sizes a 0 + 1) in
        let s_long : length s ≡ 4097 = length-set sizes a (get_or sizes a 0 + 1) ∙ S.sizes_long in
        let at_b : get_or s b 0 ≡ get_or sizes b 0 = get_or-set_other sizes a b (get_or sizes a 0 + 1) 0 (λ z. n (sym z)) in
        record {
          sizes_long = length-set s b (get_or s b 0 + 1) ∙ s_long;
          sizes_are = λ j g.
              cases (eq_or j b)
              (λ e.
              ap (λ (x : ℕ). get_or (set s b (get_or s b 0 + 1)) x 0) e
              ∙ get_or-set_same s b (get_or s b 0 + 1) 0 (omega (arith, s_long, b_in))
              ∙ ap (λ (x : ℕ). x + 1) (at_b ∙ ap (λ (x : ℕ). get_or sizes x 0) (sym e))
              ∙ yes_at j g (on_back mesh j k (sym e)))
              (λ d.
              get_or-set_other s b j (get_or s b 0 + 1) 0 d
              ∙ cases (eq_or j a)
              (at_a j g)
              (λ x. get_or-set_other sizes a j (get_or sizes a 0 + 1) 0 x ∙ no_at j g (λ z. x (sym z)) (λ z. d (sym z))));
        }
