-- What `read` returns, one lemma for each place where it does, and what it asks of the functions that it calls.
use mathlib.Core.Bool.{Bool, true, false}
use mathlib.Core.List.{List}
use mathlib.Core.Logic.{inr}
use mathlib.Core.Path.{◌≡◌, sym, ◌∙◌, ap, subst}
use Prim.Native.Nat.{ℕ, ◌*◌, ◌≤◌}
use native.Mathlib.Omega.{arith}
use lib.Dec.{ltb}
use lib.ListN.{length, take, replicate, length-replicate}
use lib.Seq.{take_all, length-take-le}
use borrow.Author.Tests.{le-ltb}
use Rattle.laws.specs.Checks.{Check}
use Rattle.laws.specs.Lists.{filled}
use Rattle.laws.proofs.Cases.{true_false}
use Rattle.laws.proofs.Filling.{filled_long}
use Rattle.network.specs.Numbers.{refused, done, oversize, Formed, Untouched}
use Rattle.network.specs.Numbers.{Answer}
use Rattle.network.proofs.Checks.{sized}
use Rattle.network.proofs.Sifting.{formed_map, untouched}
use Rattle.search.specs.Inside.{Faulted}
use Rattle.text.specs.Text.{ends_in, has_form}
use Rattle.text.specs.Calls.{Read}
use Rattle.digits.specs.Inside.{Word, Number}
use Rattle.text.specs.Inside.{Form, Parsable}
use Rattle.text.proofs.TextBack.{form_of, length_ends_in}
use Rattle.text.proofs.Places.{form_word}
use Rattle.text.proofs.Accepted.{take_filled, not_odd, checked_formed}

module _ (text : List ℕ) (form : Bool) (is_form : form ≡ has_form text) where
  module _ (formed : form ≡ true) where
    has : has_form text ≡ true
    has = sym is_form ∙ formed

    well : Form text
    well = form_of text has

    pub vertices_word : Word text 0
    vertices_word = form_word text well 0 (omega (arith, well.long)) (omega arith)

    pub lines_word : Word text 4
    lines_word = form_word text well 4 (omega (arith, well.long)) (omega arith)

    module _ (n m : ℕ) (is_n : Number text 0 n) (is_m : Number text 4 m) (two : Bool) (is_two : two ≡ oversize n (2 * m)) (ends : List ℕ) where
      -- the checks, with the numbers that the first frame says
      to_read : (r : Answer) (ends' : List ℕ)
          → Check (oversize n (2 * m) ≡ true) (Untouched ends r ends' 2)
          (Check (ltb (length ends) (2 * m) ≡ true) (Untouched ends r ends' 3)
          (Formed n (ends_in text) (Untouched ends r ends') ((r ≡ done n m) × (ends' ≡ filled (2 * m) (ends_in text) ends))))
          → Read text ends r ends'
      to_read r ends' x = inr (λ f. true_false has f, (rw (is_n.said, is_m.said) at x))

      module _ (not_two : two ≡ false) where
        in_limits : oversize n (2 * m) ≡ false
        in_limits = sym is_two ∙ not_two

        few : 2 * m ≤ 4096
        few = (sized n (2 * m) in_limits).2

        pub parsable : Parsable text m (replicate {A = ℕ} 4096 0)
        parsable = record { form = well; lines_are = is_m.said; few = is_m.small; roomy = omega (arith, few, length-replicate {A = ℕ} 4096 0) }

        module _ (taken : List ℕ) (is_taken : taken ≡ filled (2 * m) (ends_in text) (replicate {A = ℕ} 4096 0)) where
          long : length (ends_in text) ≡ 2 * m
          long = rw is_m.said (length_ends_in text)

          pub prefix_in : 2 * m ≤ length taken
          prefix_in =
              omega (
                arith,
                few,
                ap length is_taken,
                long,
                length-replicate {A = ℕ} 4096 0,
                filled_long (2 * m) (ends_in text) (replicate {A = ℕ} 4096 0) (omega (arith, long)) (omega (arith, few, length-replicate {A = ℕ} 4096 0)),
              )

          pub prefix_long : 2 * m ≡ length (take (2 * m) taken)
          prefix_long = sym (length-take-le (2 * m) taken prefix_in)

          prefix_is : take (2 * m) taken ≡ ends_in text
          prefix_is = rw is_taken (take_filled (2 * m) (ends_in text) (replicate {A = ℕ} 4096 0) long)

          module _ (q : ℕ) (x : Faulted n (take (2 * m) taken) q) where
            settled : Formed n (ends_in text) (λ k. q ≡ k) (q ≡ 0)
            settled =
                checked_formed n (ends_in text) (λ k. q ≡ k) (q ≡ 0)
                (subst (λ (l : List ℕ). Faulted n l q) prefix_is x)
                (rw long in_limits) (not_odd (length (ends_in text)) m long)

            module _ (roomy : 2 * m ≤ length ends) where
              to_settled : (r : Answer) (ends' : List ℕ) → Formed n (ends_in text) (Untouched ends r ends') ((r ≡ done n m) × (ends' ≡ filled (2 * m) (ends_in text) ends))
                  → Read text ends r ends'
              to_settled r ends' y = to_read r ends' (inr (λ t. true_false t in_limits, inr (λ t. true_false t (le-ltb _ _ roomy), y)))

              pub read_refused : (q ≡ 0 → ⊥) → (r : Answer) → r ≡ refused q → Read text ends r ends
              read_refused d r e =
                  to_settled r ends
                  (formed_map n (ends_in text) {R = λ k. q ≡ k} settled (Untouched ends r ends) _
                  (λ k some u. untouched (e ∙ ap refused u))
                  (λ g. absurd (d g)))

              pub read_through : q ≡ 0 → (r : Answer) (ends' : List ℕ) → r ≡ done n m → ends' ≡ filled (2 * m) taken ends → Read text ends r ends'
              read_through z r ends' e f =
                  let whole : take (2 * m) (ends_in text) ≡ ends_in text = take_all (2 * m) (ends_in text) (omega (arith, long)) in
                  to_settled r ends'
                  (formed_map n (ends_in text) {R = λ k. q ≡ k} settled (Untouched ends r ends') _
                  (λ k some u. absurd (omega (arith, z, u)))
                  (λ g. (e, f ∙ (rw (prefix_is, whole)))))
