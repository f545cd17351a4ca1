-- The page of an input: read refuses it, and the page is the answer; or read takes a network from it, and the page is that network's.
use mathlib.Core.Bool.{true, false}
use mathlib.Core.List.{List}
use mathlib.Core.Logic.{inl, inr}
use mathlib.Core.Path.{◌≡◌, refl, sym, ◌∙◌, ap, subst}
use Prim.Native.Nat.{ℕ, ◌*◌, ◌≤◌, ◌<◌}
use native.Mathlib.Omega.{arith}
use borrow.Author.Tests.{lt-ltb, le-ltb, ltb-true}
use lib.Dec.{ltb}
use lib.ListN.{length, take, replicate}
use lib.Seq.{length-take-le}
use Rattle.laws.proofs.Cases.{cases, bool, true_false}
use Rattle.network.proofs.Sifting.{formed_map}
use Rattle.network.specs.Network.{network, Connected}
use Rattle.network.specs.Numbers.{refused, Untouched, oversize, mispaired, Accepted}
use Rattle.network.specs.Numbers.{Answer}
use Rattle.network.proofs.Checks.{sized}
use Rattle.text.specs.Text.{vertices_in, lines_in, ends_in}
use Rattle.text.specs.Calls.{Read}
use Rattle.text.proofs.TextBack.{length_ends_in}
use Rattle.text.proofs.Accepted.{take_filled, not_odd, Sound, sound_inside, Accepts, Took, read_done}
use Rattle.listing.specs.Page.{answer_line, Shows, Prints}
use Rattle.listing.specs.Inside.{Put, Showable, Paged}
use Rattle.listing.specs.declared.pieces.Page.{Page}
use Rattle.listing.proofs.Putting.{answer_long}
use Rattle.listing.proofs.Showing.{blank, paged}

pub long_page : (input out : List ℕ) → length out ≡ 262222 → 18450 < length input → {page : Page} → Put out 0 (answer_line 1) page.count page.bytes → Paged (Prints input) page
long_page input out roomy h {page = page} q = paged (Prints input) out (answer_line 1) page q roomy (omega (arith, answer_long 1)) (inl (lt-ltb 18450 (length input) h, refl))

-- the buffer for a choice, before anything is written
abbrev blank_sides : List ℕ
blank_sides = replicate {A = ℕ} 2048 0

module _ (input ends : List ℕ) (long : length ends ≡ 4096) (short : length input ≤ 18450) (r : Answer) (ends' : List ℕ) (d : Read input ends r ends') where
  abbrev n : ℕ
  n = vertices_in input

  abbrev m : ℕ
  m = lines_in input

  not_long : ltb 18450 (length input) ≡ true → ⊥
  not_long t = true_false t (le-ltb 18450 (length input) short)

  number_is : {k : ℕ} → r ≡ refused k → r.number ≡ k
  number_is e = ap (λ (x : Answer). x.number) e

  -- Refused

  enough : (oversize n (2 * m) ≡ true → ⊥) → ltb (length ends) (2 * m) ≡ true → ⊥
  enough s t = cases (bool (oversize n (2 * m))) s (λ f. omega (arith, (sized n (2 * m) f).2, ltb-true (length ends) (2 * m) t))

  says : (r.number ≡ 0 → ⊥) → Prints input (answer_line r.number)
  says z = go d
    where
      line : {k : ℕ} → Untouched ends r ends' k → answer_line r.number ≡ answer_line k
      line x = ap answer_line (number_is x.answers)

      go : Read input ends r ends' → Prints input (answer_line r.number)
      go (inl (f, x)) = inr (not_long, inl (f, line x))
      go (inr (f, inl (o, x))) = inr (not_long, inr (f, inl (o, line x)))
      go (inr (_, inr (o, inl (t, _)))) = absurd (enough o t)
      go (inr (f, inr (o, inr (_, g)))) =
          inr (
            not_long,
            inr (
              f,
              inr (
                o,
                formed_map n (ends_in input) g (λ k. answer_line r.number ≡ answer_line k) (Shows (network n (ends_in input)) (answer_line r.number))
                    (λ k _ x. line x) (λ x. absurd (z (ap (λ (y : Answer). y.number) x.0))),
              ),
            ),
          )

  pub refused_input : (k : ℕ) → r.number ≡ k → (k ≡ 0 → ⊥) → (out : List ℕ) → length out ≡ 262222 → {page : Page} → Put out 0 (answer_line k) page.count page.bytes → Paged (Prints input) page
  refused_input k is z out roomy {page = page} q =
      paged (Prints input) out (answer_line k) page q roomy (omega (arith, answer_long k))
      (subst (λ j. Prints input (answer_line j)) is (says (λ e. z (sym is ∙ e))))

  -- Taken

  module _ (z : r.number ≡ 0) where
    taken : Accepts input ends × Took input ends r ends'
    taken = read_done input ends r ends' z d

    count_is : r.count ≡ n
    count_is = ap (λ (x : Answer). x.count) taken.1.0

    lines_are : r.second ≡ m
    lines_are = ap (λ (x : Answer). x.second) taken.1.0

    ends_are : take (2 * r.second) ends' ≡ ends_in input
    ends_are =
        ap (λ k. take (2 * k) ends') lines_are ∙ ap (take (2 * m)) taken.1.1 ∙ take_filled (2 * m) (ends_in input) ends (length_ends_in input)

    few : m ≤ 2048
    few = omega (arith, (sized n (2 * m) taken.0.sized).2)

    pub few_lines : r.second ≤ 2048
    few_lines = omega (arith, few, lines_are)

    pub sides_fit : r.second ≤ length blank_sides
    sides_fit = omega (arith, few_lines, blank 2048)

    pub sides_long : r.second ≡ length (take r.second blank_sides)
    sides_long = sym (length-take-le r.second blank_sides sides_fit)

    formed : Sound n (ends_in input) → (mispaired (ends_in input) ≡ false) × Connected (network n (ends_in input))
    formed (inl (_, x)) = absurd x
    formed (inr (_, inl (_, x))) = absurd x
    formed (inr (_, inr (q, inl (c, _)))) = (cases (bool (mispaired (ends_in input))) (λ t. absurd (q t)) (λ f. f), c)
    formed (inr (_, inr (_, inr (_, x)))) = absurd x

    accepted : Accepted n (ends_in input)
    accepted =
        let s = taken.0.sound in
        record {
          sized = rw (length_ends_in input) taken.0.sized;
          paired_ends = not_odd (length (ends_in input)) m (length_ends_in input);
          inside = sound_inside n (ends_in input) s;
          single = (formed s).0;
          connected = (formed s).1;
        }

    pub showable : (out : List ℕ) → length out ≡ 262222 → Showable r.count (take (2 * r.second) ends') (take r.second blank_sides) out
    showable out roomy =
        rw (count_is, ends_are) (record { accepted = accepted; long = omega (arith, sides_long, length_ends_in input, lines_are); roomy = roomy })

    pub shown_page : {page : Page} → Paged (Shows (network r.count (take (2 * r.second) ends'))) page → Paged (Prints input) page
    shown_page {page = page} q =
        let shows : Shows (network n (ends_in input)) (take page.count page.bytes) = rw (count_is, ends_are) at q.allowed in
        record {
          long = q.long;
          within = q.within;
          allowed =
              inr (
                not_long,
                inr (
                  λ f. true_false taken.0.form f,
                  inr (
                    λ t. true_false t taken.0.sized,
                    formed_map n (ends_in input) taken.0.sound (λ k. take page.count page.bytes ≡ answer_line k) (Shows (network n (ends_in input)) (take page.count page.bytes))
                        (λ k _ x. absurd x) (λ _. shows),
                  ),
                ),
              );
        }
