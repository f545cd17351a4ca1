-- What the functions on digits come to: a byte's digit by its range, four digits read from a place, two or four written to it.
use mathlib.Core.Bool.{Bool, true, false}
use mathlib.Core.List.{List, [], ◌∷◌, ◌++◌}
use mathlib.Core.Path.{◌≡◌, refl, sym, ◌∙◌, ap, subst}
use Prim.Native.Nat.{ℕ, zero, suc, ◌+◌, ◌-◌, ◌*◌, ◌/◌, ◌%◌, ◌^◌, ◌≤◌, ◌<◌}
use native.Mathlib.Nat.{add-zero, pow-zero, pow-suc}
use native.Mathlib.Omega.{arith}
use lib.ListN.{get_or, set, length, take, drop, length-set, length-drop}
use lib.Seq.{get_or-take, get_or-drop, length-take-le, take-suc, sets}
use mir.Syntax.{w16}
use mir.Val.{Fits}
use borrow.Author.Tests.{ne_eqb}
use Rattle.std.proofs.Common.{IsTrue, ◌↔◌, All, slice_range}
use Rattle.std.proofs.lemmas.List.{set_comm}
use Rattle.std.proofs.lemmas.List.Elements.{All-get_or, All-from_get_or}
use Rattle.laws.proofs.Cases.{cases, lt_or}
use Rattle.laws.proofs.Tests.{same_test, any_no, all_of, all_yes}
use Rattle.digits.specs.Digits.{digit, is_digit, value, digits, number_on, number, word}
use Rattle.digits.specs.Inside.{is_word, Word, Number}
use Rattle.digits.proofs.Back.{digit_low, digit_high, value_is, is_digit_yes, is_digit_of, length_digits, number_last}

-- One byte

pub digit_below : (d : ℕ) → d < 10 → 48 + d ≡ digit d
digit_below d h = sym (digit_low d h)

pub digit_above : (d : ℕ) → 10 ≤ d → 97 + (d - 10) ≡ digit d
digit_above d h = omega (arith, digit_high d h)

-- where the digits' bytes lie
pub record Ranged (b : ℕ) : Type 0 where
  pub from : 48 ≤ b
  pub upto : b ≤ 102
  pub low : b < 97 → b ≤ 57

ranged : (b d : ℕ) → d < 16 → digit d ≡ b → Ranged b
ranged b d h q =
    cases (lt_or d 10)
    (λ k. let e = digit_low d k in record { from = omega arith; upto = omega arith; low = λ l. omega arith })
    (λ k. let e = digit_high d k in record { from = omega arith; upto = omega arith; low = λ l. omega arith })

pub digit_ranged : (b : ℕ) → is_digit b ≡ true → Ranged b
digit_ranged b t = let r = is_digit_of b t in ranged b r.0 r.1 r.2

not_ranged : (b : ℕ) → (Ranged b → ⊥) → false ≡ is_digit b
unfolding is_digit
not_ranged b d = sym (any_no _ 16 (λ k h. ne_eqb (digit k) b (λ e. d (ranged b k h e))))

module _ (b : ℕ) where
  pub below_digits : b < 48 → false ≡ is_digit b
  below_digits h = not_ranged b (λ r. omega (arith, r.from))

  pub decimal : 48 ≤ b → b ≤ 57 → true ≡ is_digit b
  decimal h k = sym (is_digit_yes b (b - 48) (omega arith) (digit_low (b - 48) (omega arith) ∙ omega arith))

  pub between_digits : 57 < b → b < 97 → false ≡ is_digit b
  between_digits h k = not_ranged b (λ r. omega (arith, r.low k))

  pub letter : 97 ≤ b → b ≤ 102 → true ≡ is_digit b
  letter h k = sym (is_digit_yes b (b - 87) (omega arith) (digit_high (b - 87) (omega arith) ∙ omega arith))

  pub above_digits : 102 < b → false ≡ is_digit b
  above_digits h = not_ranged b (λ r. omega (arith, r.upto))

  pub decimal_value : is_digit b ≡ true → b < 97 → (b - 48 ≡ value b) × (b - 48 < 16)
  decimal_value t h =
      let r = digit_ranged b t in
      let l = r.low h in
      (sym (value_is b (b - 48) (omega arith) (digit_low (b - 48) (omega arith) ∙ omega arith)), omega arith)

  pub letter_value : is_digit b ≡ true → 97 ≤ b → (b - 97 + 10 ≡ value b) × (b - 97 + 10 < 16)
  letter_value t h =
      let r = digit_ranged b t in
      (omega (arith, value_is b (b - 87) (omega arith) (digit_high (b - 87) (omega arith) ∙ omega arith)), omega arith)

-- which bytes are digits, and which are not
pub ruleset ranges = (below_digits, decimal, between_digits, letter, above_digits)

-- Whether four digits stand at a place

pub word_all : (text : List ℕ) (at : ℕ) (r : Bool) → at + 4 ≤ length text → IsTrue r ↔ All (λ b. IsTrue (is_digit b)) (slice_range text at (at + 4)) → r ≡ is_word text at
unfolding is_word
word_all text at r h e =
    let l = take 4 (drop at text) in
    let used : slice_range text at (at + 4) ≡ l = let four : at + 4 - at ≡ 4 = omega arith in ap (λ n. take n (drop at text)) four in
    let long : length l ≡ 4 = length-take-le 4 (drop at text) (omega (arith, length-drop at text)) in
    let there = λ (j : ℕ) (k : j < 4). get_or-take 4 (drop at text) j 0 k ∙ get_or-drop at text j 0 in
    let P : ℕ → Type 0 = λ b. IsTrue (is_digit b) in
    same_test r _
    (λ t. all_yes _ 4 (λ j k. rw (there j k) at (All-get_or P l j 0 (omega arith) (subst (All P) used (e.0 t)))))
    (λ t. e.1 (subst (All P) (sym used) (All-from_get_or P l 0 (λ j k. let k' : j < 4 = omega arith in rw (there j k') (all_of _ 4 t j k')))))

-- The number in four digits

sixteens : (k : ℕ) → k < 4 → 16 ^ suc k ≤ 65536
sixteens zero h = omega arith
sixteens (suc zero) h = omega arith
sixteens (suc (suc zero)) h = omega arith
sixteens (suc (suc (suc zero))) h = omega arith
sixteens (suc (suc (suc (suc k)))) h = absurd (omega arith)

-- the number in the first k of them
pub record Reading (text : List ℕ) (at k x : ℕ) : Type 0 where
  pub upto : k ≤ 4
  pub said : x ≡ number (take k (drop at text))
  pub small : x < 16 ^ k

module _ (text : List ℕ) (at : ℕ) (w : Word text at) where
  pub reading_none : Reading text at 0 0
  unfolding number_on
  reading_none = record { upto = omega arith; said = refl; small = omega (arith, pow-zero 16) }

  module _ (k x : ℕ) (r : Reading text at k x) where
    module _ (h : k < 4) where
      pub word_digit : is_digit (get_or text (at + k) 0) ≡ true
      unfolding is_word
      word_digit = all_of _ 4 w.digits k h

      few : 16 * x + 15 < 65536
      few = omega (arith, r.small, pow-suc 16 k, sixteens k h)

      pub shifted_fits : Fits w16 (16 * x)
      shifted_fits = record { fits = omega (arith, few) }

      module _ (v : ℕ) (is_v : (v ≡ value (get_or text (at + k) 0)) × (v < 16)) where
        pub more_fits : Fits w16 (16 * x + v)
        more_fits = record { fits = omega (arith, few, is_v.1) }

        pub reading_more : Reading text at (k + 1) (16 * x + v)
        reading_more =
            let l = drop at text in
            let one : k + 1 ≡ suc k = omega arith in
            rw one
            (record {
              upto = omega arith;
              said =
                  omega (
                    arith,
                    r.said,
                    is_v.0,
                    ap number (take-suc l k 0 (omega (arith, length-drop at text, w.within))),
                    number_last 0 (get_or l k 0) (take k l),
                    ap value (get_or-drop at text k 0),
                  );
              small = omega (arith, r.small, is_v.1, pow-suc 16 k);
            })

    pub word_is : 4 ≤ k → Number text at x
    unfolding word
    word_is h =
        let four : k ≡ 4 = omega (arith, r.upto) in
        record { said = rw four at r.said; small = (let s = rw four at r.small in omega (arith, s)) }

-- Digits written, the last one first

-- what is stored behind a list, and then the list before it
sets_last : (l : List ℕ) (i : ℕ) (p : List ℕ) (b : ℕ) → sets (set l (i + length p) b) i p ≡ sets l i (p ++ (b ∷ []))
sets_last l i [] b = rw (add-zero i)
sets_last l i (a ∷ p) b =
    let on : i + suc (length p) ≡ suc i + length p = omega arith in
    rw (on, set_comm l (suc i + length p) i b a (omega arith)) (sets_last (set l i a) (suc i) p b)

last_digit : (k j x : ℕ) → k ≡ suc j → digits k x ≡ digits j (x / 16) ++ (digit (x % 16) ∷ [])
unfolding digits
last_digit k j x e = rw e

-- k digits are still to be written, and with them the whole number will stand there
pub record Writing (old : List ℕ) (at places x k left : ℕ) (text : List ℕ) : Type 0 where
  pub upto : k ≤ places
  pub long : length text ≡ length old
  pub rest : sets text at (digits k left) ≡ sets old at (digits places x)

module _ (old : List ℕ) (at places x k left : ℕ) (text : List ℕ) (w : Writing old at places x k left text) where
  pub writing_more : 0 < k → (d : ℕ) → d ≡ digit (left % 16) → Writing old at places x (k - 1) (left / 16) (set text (at + (k - 1)) d)
  writing_more h d e =
      let p = digits (k - 1) (left / 16) in
      let here : at + length p ≡ at + (k - 1) = omega (arith, length_digits (k - 1) (left / 16)) in
      let last = last_digit k (k - 1) left (omega arith) in
      record {
        upto = omega (arith, w.upto);
        long = length-set text (at + (k - 1)) d ∙ w.long;
        rest = rw (e, ← here) (sets_last text at p (digit (left % 16))) ∙ (rw last at w.rest);
      }

  pub writing_all : k ≤ 0 → text ≡ sets old at (digits places x)
  unfolding digits
  writing_all h = let none : k ≡ 0 = omega arith in rw none at w.rest
