-- There and back, for any number of digits: a number's digits say the number, and what digits say has those digits. A digit's value is found by looking
-- it up among the sixteen, so all rests on one fact, that no two digits have the same byte.
use mathlib.Core.Bool.{true}
use mathlib.Core.List.{List, [], ◌∷◌, ◌++◌, append-nil}
use mathlib.Core.Path.{◌≡◌, refl, sym, ◌∙◌, ap}
use Prim.Native.Nat.{ℕ, zero, suc, ◌+◌, ◌*◌, ◌/◌, ◌%◌, ◌^◌, ◌≤◌, ◌<◌, suc-le-suc, zero-le}
use native.Mathlib.Nat.{add-zero, pow-zero, pow-suc}
use native.Mathlib.Omega.{arith}
use lib.ListN.{get_or, length, length-append, get_or-append}
use lib.Seq.{append_snoc, get_or_at}
use borrow.Author.Tests.{eq-eqb, ne_eqb, lt-ltb, le-ltb, eqb-true}
use Rattle.laws.proofs.Cases.{cases, lt_or}
use Rattle.laws.proofs.Tests.{any_of, any_yes, least_is}
use Rattle.digits.specs.Digits.{digit, is_digit, value, digits, number_on, number}

-- One digit

pub digit_low : (d : ℕ) → d < 10 → digit d ≡ 48 + d
unfolding digit
digit_low d h = rw (lt-ltb d 10 h)

pub digit_high : (d : ℕ) → 10 ≤ d → digit d ≡ 87 + d
unfolding digit
digit_high d h = rw (le-ltb d 10 h)

digit_once : (d e : ℕ) → digit d ≡ digit e → d < 16 → e < 16 → d ≡ e
digit_once d e q h k =
    cases (lt_or d 10)
    (λ a. cases (lt_or e 10)
    (λ b. omega (arith, digit_low d a, digit_low e b))
    (λ b. omega (arith, digit_low d a, digit_high e b)))
    (λ a. cases (lt_or e 10)
    (λ b. omega (arith, digit_high d a, digit_low e b))
    (λ b. omega (arith, digit_high d a, digit_high e b)))

-- a byte that is the digit d has the value d
pub value_is : (b d : ℕ) → d < 16 → digit d ≡ b → value b ≡ d
unfolding value
value_is b d h q =
    least_is _ 16 d
    (record {
      below = h;
      passes = eq-eqb (digit d) b q;
      before = λ j k. ne_eqb (digit j) b (λ e. let z = digit_once j d (e ∙ sym q) (omega arith) h in omega arith);
    })

pub is_digit_yes : (b d : ℕ) → d < 16 → digit d ≡ b → is_digit b ≡ true
unfolding is_digit
is_digit_yes b d h q = any_yes _ 16 d h (eq-eqb (digit d) b q)

pub is_digit_of : (b : ℕ) → is_digit b ≡ true → (d : ℕ) × (d < 16) × (digit d ≡ b)
unfolding is_digit
is_digit_of b t = let r = any_of _ 16 t in (r.0, r.1, eqb-true (digit r.0) b r.2)

pub value_small : (b : ℕ) → is_digit b ≡ true → value b < 16
value_small b t = let r = is_digit_of b t in omega (arith, value_is b r.0 r.1 r.2, r.1)

pub digit_value : (b : ℕ) → is_digit b ≡ true → digit (value b) ≡ b
digit_value b t = let r = is_digit_of b t in ap digit (value_is b r.0 r.1 r.2) ∙ r.2

-- So many digits

pub length_digits : (n x : ℕ) → length (digits n x) ≡ n
unfolding digits
length_digits zero x = refl
length_digits (suc n) x = omega (arith, length-append (digits n (x / 16)) (digit (x % 16) ∷ []), length_digits n (x / 16))

-- each of them is one
pub digits_are : (n x i : ℕ) → i < n → is_digit (get_or (digits n x) i 0) ≡ true
unfolding digits
digits_are zero x i h = absurd (omega arith)
digits_are (suc n) x i h =
    let l = digits n (x / 16) in
    let long : length l ≡ n = length_digits n (x / 16) in
    cases (lt_or i n)
    (λ k. rw (get_or-append l (digit (x % 16) ∷ []) 0 i (omega arith)) (digits_are n (x / 16) i k))
    (λ k. rw (get_or_at l (digit (x % 16)) [] 0 i (omega arith)) (is_digit_yes _ (x % 16) (omega arith) refl))

pub number_last : (a b : ℕ) (l : List ℕ) → number_on a (l ++ (b ∷ [])) ≡ 16 * number_on a l + value b
unfolding number_on
number_last a b [] = refl
number_last a b (c ∷ l) = number_last (16 * a + value c) b l

pub number_digits : (n x : ℕ) → x < 16 ^ n → number (digits n x) ≡ x
unfolding digits
number_digits zero x h = unfold number_on in omega (arith, pow-zero 16)
number_digits (suc n) x h =
    let r = number_digits n (x / 16) (omega (arith, pow-suc 16 n)) in
    let q = value_is (digit (x % 16)) (x % 16) (omega arith) refl in
    omega (arith, number_last 0 (digit (x % 16)) (digits n (x / 16)))

-- n digits that say a, and one more
digits_last : (n a b : ℕ) (p : List ℕ) → digits n a ≡ p → is_digit b ≡ true → digits (suc n) (16 * a + value b) ≡ p ++ (b ∷ [])
unfolding digits
digits_last n a b p e t =
    let v = value_small b t in
    let high : (16 * a + value b) / 16 ≡ a = omega arith in
    let low : (16 * a + value b) % 16 ≡ value b = omega arith in
    rw (high, low, e, digit_value b t)

-- digits l read on after the digits p that said a
digits_on : (a : ℕ) (p l : List ℕ) → digits (length p) a ≡ p → ((i : ℕ) → i < length l → is_digit (get_or l i 0) ≡ true)
    → digits (length p + length l) (number_on a l) ≡ p ++ l
unfolding number_on
digits_on a p [] e t = rw (append-nil p, add-zero (length p)) e
digits_on a p (b ∷ l) e t =
    let q = p ++ (b ∷ []) in
    let long : length q ≡ suc (length p) = omega (arith, length-append p (b ∷ [])) in
    let now : digits (length q) (16 * a + value b) ≡ q = rw long (digits_last (length p) a b p e (t 0 (suc-le-suc zero-le))) in
    let more : length p + suc (length l) ≡ length q + length l = omega arith in
    rw more (digits_on (16 * a + value b) q l now (λ i h. t (suc i) (suc-le-suc h)) ∙ append_snoc p b l)

pub digits_number : (l : List ℕ) → ((i : ℕ) → i < length l → is_digit (get_or l i 0) ≡ true) → digits (length l) (number l) ≡ l
digits_number l t =
    let none : digits 0 0 ≡ [] = unfold digits in refl in
    let same : 0 + length l ≡ length l = omega arith in
    rw same at (digits_on 0 [] l none t)
