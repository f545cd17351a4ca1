-- The numbered refusals that a network can meet, in the order of their numbers. (docs/RULES.md, "The numbers".)
use Rattle.std.specs.Prelude.{Result, Ok, Err, Bool, true, false, List, ◌≡◌, ℕ, ◌/◌, ◌%◌, eqb, ltb, leb, get_or, length}
use Rattle.laws.specs.Tests.{either, any}
use Rattle.laws.specs.Checks.{Check}
use Rattle.network.specs.Network.{network, first, second, joins, Connected}
use Rattle.network.specs.declared.Refusal.{Refusal}
use Rattle.network.specs.declared.Refusal.TheVariants.{Formless, Oversize, Cramped, Astray, Mispaired, Apart, Ringed, Unaligned, Last, Unbalanced}

-- The number of each refusal.
abbrev pub refusal_number : Refusal → ℕ
refusal_number Formless = 1
refusal_number Oversize = 2
refusal_number Cramped = 3
refusal_number Astray = 4
refusal_number Mispaired = 5
refusal_number Apart = 6
refusal_number (Ringed size) = 7
refusal_number Unaligned = 8
refusal_number Last = 9
refusal_number Unbalanced = 10

abbrev pub Numbers : Refusal → ℕ → Type 0
Numbers r k = k ≡ refusal_number r

-- 0 or the number of a refusal.
abbrev pub number_of : {A : Type 0} → Result A Refusal → ℕ
number_of (Ok a) = 0
number_of (Err r) = refusal_number r

-- What a call answers, in numbers: 0 or that of a refusal, and its counts, which are 0 with a refusal, but for the length of the ring with 7.
pub record Answer : Type 0 where
  pub number : ℕ
  pub count : ℕ
  pub second : ℕ

-- What a refusal answers: its number, and no counts.
abbrev pub refused : ℕ → Answer
refused k = record { number = k; count = 0; second = 0 }

-- What a call answers that did its work.
abbrev pub done : ℕ → ℕ → Answer
done a b = record { number = 0; count = a; second = b }

-- The numbers of a call's result.
abbrev pub refusing : Refusal → Answer
refusing (Ringed size) = record { number = 7; count = 0; second = size }
refusing r = refused (refusal_number r)

abbrev pub answered : Result ℕ Refusal → Answer
answered (Ok a) = done a 0
answered (Err r) = refusing r

abbrev pub answered_two : Result (ℕ × ℕ) Refusal → Answer
answered_two (Ok (a, b)) = done a b
answered_two (Err r) = refusing r

-- Two buffers that were lent, and three.
abbrev pub pair : List ℕ → List ℕ → List ℕ × List ℕ
pair a b = (a, b)

abbrev pub triple : List ℕ → List ℕ → List ℕ → List ℕ × List ℕ × List ℕ
triple a b c = (a, b, c)

-- A refusal answers its number, and changes nothing: what was lent, be it one buffer, two or three, is left as it was.
pub record Untouched {A : Type 0} (lent : A) (r : Answer) (left : A) (k : ℕ) : Type 0 where
  pub answers : r ≡ refused k
  pub same : left ≡ lent

-- 2: no vertex or more than 512, or more than 2,048 lines.
unfoldable pub oversize : ℕ → ℕ → Bool
oversize n ends = either (either (eqb n 0) (ltb 512 n)) (ltb 4096 ends)

-- 3: a given list has an end without its partner. (What else is 3 is each call's own: a lent buffer that is too short.)
unfoldable pub odd : ℕ → Bool
odd ends = eqb (ends % 2) 1

-- 4: an end is no vertex.
unfoldable pub astray : ℕ → List ℕ → Bool
astray n ends = any (λ i. leb n (get_or ends i 0)) (length ends)

-- 5: a line has equal ends, or joins the pair that an earlier line joins.
unfoldable pub looped : List ℕ → ℕ → Bool
looped ends k = eqb (first ends k) (second ends k)

unfoldable pub doubled : List ℕ → ℕ → Bool
doubled ends k = any (λ j. joins ends j (first ends k) (second ends k)) k

unfoldable pub mispaired : List ℕ → Bool
mispaired ends = any (λ k. either (looped ends k) (doubled ends k)) (length ends / 2)

-- A network that meets none of 2 to 6.
pub record Accepted (n : ℕ) (ends : List ℕ) : Type 0 where
  pub sized : oversize n (length ends) ≡ false
  pub paired_ends : odd (length ends) ≡ false
  pub inside : astray n ends ≡ false
  pub single : mispaired ends ≡ false
  pub connected : Connected (network n ends)

-- What the ends themselves can be refused for: 4, 5, and 6 where the network is not connected. `refusal k` and `granted` are what the caller makes of it.
abbrev pub Formed : ℕ → List ℕ → (ℕ → Type 0) → Type 0 → Type 0
Formed n ends refusal granted =
    Check (astray n ends ≡ true) (refusal 4)
    (Check (mispaired ends ≡ true) (refusal 5)
    (Check (Connected (network n ends)) granted (refusal 6)))

-- All that a given network can be refused for, with a lent buffer that is too short.
abbrev pub Checked : ℕ → List ℕ → Bool → (ℕ → Type 0) → Type 0 → Type 0
Checked n ends short refusal granted =
    Check (oversize n (length ends) ≡ true) (refusal 2)
    (Check (either (odd (length ends)) short ≡ true) (refusal 3)
    (Formed n ends refusal granted))

-- The first of 2 to 5 that a given network meets by itself, or 0.
abbrev pub Sifted : ℕ → List ℕ → ℕ → Type 0
Sifted n ends r =
    Check (oversize n (length ends) ≡ true) (r ≡ 2)
    (Check (odd (length ends) ≡ true) (r ≡ 3)
    (Check (astray n ends ≡ true) (r ≡ 4)
    (Check (mispaired ends ≡ true) (r ≡ 5) (r ≡ 0))))
