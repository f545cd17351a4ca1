-- What `write` returns, one lemma for each place where it does, and what it asks of the functions that it calls.
use mathlib.Core.Bool.{Bool, true, false}
use mathlib.Core.List.{List}
use mathlib.Core.Path.{◌≡◌, sym, ◌∙◌, ap}
use Prim.Native.Nat.{ℕ, ◌+◌, ◌*◌, ◌/◌, ◌≤◌, ◌<◌}
use native.Mathlib.Omega.{arith}
use lib.Dec.{ltb}
use lib.ListN.{length}
use mir.Syntax.{w64}
use mir.Val.{Fits}
use borrow.Author.Tests.{lt-ltb, le-ltb}
use Rattle.laws.specs.Tests.{either}
use Rattle.laws.specs.Lists.{filled}
use Rattle.laws.proofs.Tests.{either_first, either_second, either_no}
use Rattle.network.specs.Numbers.{refused, done, oversize, odd, Untouched}
use Rattle.network.specs.Numbers.{Answer}
use Rattle.network.proofs.Checks.{sized, even}
use Rattle.network.proofs.Sifting.{refuse_3, refuse_rest, untouched}
use Rattle.search.specs.Inside.{Faulted}
use Rattle.text.specs.Text.{room, text_of}
use Rattle.text.specs.Calls.{Write}
use Rattle.text.specs.Inside.{Writable}
use Rattle.text.proofs.Accepted.{Gave}

module _ (n : ℕ) (ends : List ℕ) (two : Bool) (is_two : two ≡ oversize n (length ends)) where
  module _ (not_two : two ≡ false) (three : Bool) (is_three : three ≡ odd (length ends)) where
    in_limits : oversize n (length ends) ≡ false
    in_limits = sym is_two ∙ not_two

    pub bytes_fit : Fits w64 (9 * (length ends / 2 + 1))
    bytes_fit = record { fits = omega (arith, (sized n (length ends) in_limits).2) }

    module _ (text : List ℕ) where
      write_3 : either (odd (length ends)) (ltb (length text) (room (length ends / 2))) ≡ true → (r : Answer) → r ≡ refused 3 → Write n ends text r text
      write_3 t r e = refuse_3 n ends _ (Untouched text r text) (Gave n ends text r text) in_limits t (untouched e)

      pub write_odd : three ≡ true → (r : Answer) → r ≡ refused 3 → Write n ends text r text
      write_odd t = write_3 (either_first _ _ (sym is_three ∙ t))

      pub write_short : length text < 9 * (length ends / 2 + 1) → (r : Answer) → r ≡ refused 3 → Write n ends text r text
      write_short h = write_3 (either_second _ _ (lt-ltb _ _ h))

      module _ (not_three : three ≡ false) (roomy : 9 * (length ends / 2 + 1) ≤ length text) where
        pub writable : Writable n ends text
        writable =
            let s = sized n (length ends) in_limits in
            record {
              few_vertices = omega (arith, s.1);
              few_lines = omega (arith, s.2);
              fits = record { even = even (length ends) (sym is_three ∙ not_three); roomy = roomy };
            }

        enough : either (odd (length ends)) (ltb (length text) (room (length ends / 2))) ≡ false
        enough = either_no (sym is_three ∙ not_three) (le-ltb _ _ roomy)

        module _ (q : ℕ) (x : Faulted n ends q) where
          pub write_refused : (q ≡ 0 → ⊥) → (r : Answer) → r ≡ refused q → Write n ends text r text
          write_refused d r e =
              refuse_rest n ends _ (Untouched text r text) (Gave n ends text r text) enough {R' = λ k. q ≡ k} x
              (λ k some u. untouched (e ∙ ap refused u))
              (λ g. absurd (d g))

          pub write_through : q ≡ 0 → (r : Answer) (text' : List ℕ) → r ≡ done (9 * (length ends / 2 + 1)) 0
              → text' ≡ filled (room (length ends / 2)) (text_of n ends) text → Write n ends text r text'
          write_through z r text' e f =
              refuse_rest n ends _ (Untouched text r text') (Gave n ends text r text') enough {R' = λ k. q ≡ k} x
              (λ k some u. absurd (omega (arith, z, u)))
              (λ g. (e, f))
