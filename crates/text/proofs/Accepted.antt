-- What the checks of read and write come to: two outcomes of the same checks, an outcome with 0, and the outcome where nothing is in the way.
use mathlib.Core.Bool.{Bool, true, false}
use mathlib.Core.List.{List}
use mathlib.Core.Logic.{inl, inr}
use mathlib.Core.Path.{◌≡◌, refl, ap}
use Prim.Native.Nat.{ℕ, ◌*◌, ◌/◌, ◌%◌, ◌≤◌, ◌<◌}
use native.Mathlib.Omega.{arith}
use lib.ListN.{length, take, drop}
use lib.Seq.{take_at, take_all}
use borrow.Author.Tests.{le-ltb, ltb-false, ne_eqb}
use Rattle.laws.specs.Lists.{filled}
use Rattle.laws.proofs.Cases.{cases, bool, true_false}
use Rattle.laws.proofs.Checks.{check_once}
use Rattle.laws.proofs.Tests.{either_no, either_neither}
use Rattle.network.specs.Numbers.{done, oversize, odd, astray, Formed, Checked, Untouched}
use Rattle.network.specs.Numbers.{Answer}
use Rattle.text.specs.Text.{room, text_of, vertices_in, lines_in, ends_in, has_form}
use Rattle.text.specs.Calls.{Read, Write}

-- Lists and their lengths

-- what a buffer begins with that was filled with a whole list
pub take_filled : (n : ℕ) (l old : List ℕ) → length l ≡ n → take n (filled n l old) ≡ l
take_filled n l old e = let all : take n l ≡ l = take_all n l (omega arith) in rw all (take_at l (drop n old) n e)

pub not_odd : (count m : ℕ) → count ≡ 2 * m → odd count ≡ false
unfolding odd
not_odd count m e = ne_eqb (count % 2) 1 (λ q. omega arith)

-- Checks 4 to 6, twice

pub formed_once : (n : ℕ) (ends : List ℕ) {R R' : ℕ → Type 0} {G G' C : Type 0} → ((k : ℕ) → R k → R' k → C) → (G → G' → C)
    → Formed n ends R G → Formed n ends R' G' → C
formed_once n ends f g = check_once (f 4) (check_once (f 5) (check_once g (f 6)))

-- checks 4 to 6 are what is left of 2 to 6 where the count is within the limits and even
pub checked_formed : (n : ℕ) (ends : List ℕ) (R : ℕ → Type 0) (G : Type 0) → Checked n ends false R G → oversize n (length ends) ≡ false → odd (length ends) ≡ false
    → Formed n ends R G
checked_formed n ends R G (inl (t, a)) two three = true_false t two
checked_formed n ends R G (inr (d, inl (t, a))) two three = true_false t (either_no three refl)
checked_formed n ends R G (inr (d, inr (e, x))) two three = x

-- The ends meet none of 4 to 6.
abbrev pub Sound : ℕ → List ℕ → Type 0
Sound n ends = Formed n ends (λ k. ⊥) (Unit {0})

-- .. which is what an outcome comes to whose refusals cannot be
pub formed_sound : (n : ℕ) (ends : List ℕ) {R : ℕ → Type 0} {G : Type 0} → ((k : ℕ) → 0 < k → R k → ⊥) → Formed n ends R G → Sound n ends × G
formed_sound n ends never (inl (p, a)) = absurd (never 4 (omega arith) a)
formed_sound n ends never (inr (p, inl (q, a))) = absurd (never 5 (omega arith) a)
formed_sound n ends never (inr (p, inr (q, inl (c, g)))) = (inr (p, inr (q, inl (c, tt))), g)
formed_sound n ends never (inr (p, inr (q, inr (c, a)))) = absurd (never 6 (omega arith) a)

-- and with which every outcome is granted
pub sound_formed : (n : ℕ) (ends : List ℕ) (R : ℕ → Type 0) {G : Type 0} → Sound n ends → Formed n ends R G → G
sound_formed n ends R = formed_once n ends {R' = R} (λ k z a. absurd z) (λ u g. g)

pub sound_inside : (n : ℕ) (ends : List ℕ) → Sound n ends → astray n ends ≡ false
sound_inside n ends (inl (p, a)) = absurd a
sound_inside n ends (inr (p, s)) = cases (bool (astray n ends)) (λ t. absurd (p t)) (λ f. f)

is_false : {b : Bool} → (b ≡ true → ⊥) → b ≡ false
is_false {b} d = cases (bool b) (λ t. absurd (d t)) (λ f. f)

is_true : {b : Bool} → (b ≡ false → ⊥) → b ≡ true
is_true {b} d = cases (bool b) (λ t. t) (λ f. absurd (d f))

not_done : {r : Answer} {old new : List ℕ} → r.number ≡ 0 → (k : ℕ) → 0 < k → Untouched old r new k → ⊥
not_done z k h a = let e = ap (λ (x : Answer). x.number) a.answers in omega arith

-- Read

-- A text was read with 0: it has the form, its network is within the limits, and the buffer had room.
pub record Accepts (text ends : List ℕ) : Type 0 where
  pub form : has_form text ≡ true
  pub sized : oversize (vertices_in text) (2 * lines_in text) ≡ false
  pub roomy : 2 * lines_in text ≤ length ends
  pub sound : Sound (vertices_in text) (ends_in text)

abbrev pub Took : List ℕ → List ℕ → Answer → List ℕ → Type 0
Took text ends r ends' = (r ≡ done (vertices_in text) (lines_in text)) × (ends' ≡ filled (2 * lines_in text) (ends_in text) ends)

pub read_done : (text ends : List ℕ) (r : Answer) (ends' : List ℕ) → r.number ≡ 0 → Read text ends r ends' → Accepts text ends × Took text ends r ends'
read_done text ends r ends' z (inl (p, a)) = absurd (not_done z 1 (omega arith) a)
read_done text ends r ends' z (inr (f, inl (p, a))) = absurd (not_done z 2 (omega arith) a)
read_done text ends r ends' z (inr (f, inr (s, inl (p, a)))) = absurd (not_done z 3 (omega arith) a)
read_done text ends r ends' z (inr (f, inr (s, inr (l, g)))) =
    let w = formed_sound (vertices_in text) (ends_in text) (not_done z) g in
    (record { form = is_true f; sized = is_false s; roomy = ltb-false _ _ (is_false l); sound = w.0 }, w.1)

pub read_accepts : (text ends : List ℕ) (r : Answer) (ends' : List ℕ) → Accepts text ends → Read text ends r ends' → Took text ends r ends'
read_accepts text ends r ends' w (inl (p, a)) = true_false w.form p
read_accepts text ends r ends' w (inr (f, inl (p, a))) = true_false p w.sized
read_accepts text ends r ends' w (inr (f, inr (s, inl (p, a)))) = true_false p (le-ltb _ _ w.roomy)
read_accepts text ends r ends' w (inr (f, inr (s, inr (l, g)))) = sound_formed (vertices_in text) (ends_in text) (Untouched ends r ends') w.sound g

pub read_formless : (text ends : List ℕ) (r : Answer) (ends' : List ℕ) → has_form text ≡ false → Read text ends r ends' → Untouched ends r ends' 1
read_formless text ends r ends' f (inl (p, a)) = a
read_formless text ends r ends' f (inr (n, x)) = absurd (n f)

pub read_oversize : (text ends : List ℕ) (r : Answer) (ends' : List ℕ) → has_form text ≡ true → oversize (vertices_in text) (2 * lines_in text) ≡ true
    → Read text ends r ends' → Untouched ends r ends' 2
read_oversize text ends r ends' t o (inl (p, a)) = true_false t p
read_oversize text ends r ends' t o (inr (f, inl (p, a))) = a
read_oversize text ends r ends' t o (inr (f, inr (n, x))) = absurd (n o)

-- Write

-- A network was written with 0: it is within the limits, its ends come in pairs, and the buffer had room.
pub record Grants (n : ℕ) (ends text : List ℕ) : Type 0 where
  pub sized : oversize n (length ends) ≡ false
  pub paired : odd (length ends) ≡ false
  pub roomy : room (length ends / 2) ≤ length text
  pub sound : Sound n ends

abbrev pub Gave : ℕ → List ℕ → List ℕ → Answer → List ℕ → Type 0
Gave n ends text r text' = (r ≡ done (room (length ends / 2)) 0) × (text' ≡ filled (room (length ends / 2)) (text_of n ends) text)

pub write_done : (n : ℕ) (ends text : List ℕ) (r : Answer) (text' : List ℕ) → r.number ≡ 0 → Write n ends text r text'
    → Grants n ends text × Gave n ends text r text'
write_done n ends text r text' z (inl (p, a)) = absurd (not_done z 2 (omega arith) a)
write_done n ends text r text' z (inr (s, inl (p, a))) = absurd (not_done z 3 (omega arith) a)
write_done n ends text r text' z (inr (s, inr (l, g))) =
    let w = formed_sound n ends (not_done z) g in
    let e = either_neither (is_false l) in
    (record { sized = is_false s; paired = e.0; roomy = ltb-false _ _ e.1; sound = w.0 }, w.1)

pub write_grants : (n : ℕ) (ends text : List ℕ) (r : Answer) (text' : List ℕ) → Grants n ends text → Write n ends text r text' → Gave n ends text r text'
write_grants n ends text r text' w (inl (p, a)) = true_false p w.sized
write_grants n ends text r text' w (inr (s, inl (p, a))) = true_false p (either_no w.paired (le-ltb _ _ w.roomy))
write_grants n ends text r text' w (inr (s, inr (l, g))) = sound_formed n ends (Untouched text r text') w.sound g
