-- Small texts, tried by computation, and what read's statement says of some of them.
use mathlib.Core.Bool.{true, false}
use mathlib.Core.List.{List, [], ◌∷◌}
use mathlib.Core.Path.{◌≡◌, refl, subst}
use mathlib.Core.Logic.{inl, inr}
use Prim.Native.Nat.{ℕ}
use native.Mathlib.Omega.{arith}
use Rattle.laws.specs.Tests.{both, either, all, any, least}
use Rattle.laws.proofs.Cases.{true_false}
use Rattle.network.specs.Network.{Path, here, network, Connected}
use Rattle.network.specs.Numbers.{done, Untouched, oversize, astray, mispaired}
use Rattle.network.specs.Numbers.{Answer}
use Rattle.digits.specs.Digits.{digit, is_digit, value, digits, number_on, word}
use Rattle.text.specs.Text.{frame, frames, text_of, numbers, vertices_in, lines_in, ends_in, well_placed, has_form}
use Rattle.text.specs.Calls.{Read}
use Rattle.text.proofs.Accepted.{Sound, read_formless, read_oversize, read_accepts}

-- 00010000 and a line feed: one vertex and no line.
unfoldable pub lone : List ℕ
lone = 48 ∷ 48 ∷ 48 ∷ 49 ∷ 48 ∷ 48 ∷ 48 ∷ 48 ∷ 10 ∷ []

pub lone_has_form : has_form lone ≡ true
unfolding lone has_form well_placed is_digit digit value number_on word all any either both least
lone_has_form = refl

pub lone_read : (vertices_in lone ≡ 1) × (lines_in lone ≡ 0) × (ends_in lone ≡ [])
unfolding lone digit value number_on word numbers least
lone_read = (refl, refl, refl)

pub lone_written : text_of 1 [] ≡ lone
unfolding lone digit digits frame frames
lone_written = refl

-- 000A0000 and a line feed: a capital digit.
unfoldable pub capital : List ℕ
capital = 48 ∷ 48 ∷ 48 ∷ 65 ∷ 48 ∷ 48 ∷ 48 ∷ 48 ∷ 10 ∷ []

pub capital_has_not : has_form capital ≡ false
unfolding capital has_form well_placed is_digit digit value number_on word all any either both least
capital_has_not = refl

-- 00010000: the line feed is missing.
unfoldable pub unended : List ℕ
unended = 48 ∷ 48 ∷ 48 ∷ 49 ∷ 48 ∷ 48 ∷ 48 ∷ 48 ∷ []

pub unended_has_not : has_form unended ≡ false
unfolding unended has_form well_placed is_digit digit value number_on word all any either both least
unended_has_not = refl

-- 00000000 and a line feed: no vertex, in the right form.
unfoldable pub nothing : List ℕ
nothing = 48 ∷ 48 ∷ 48 ∷ 48 ∷ 48 ∷ 48 ∷ 48 ∷ 48 ∷ 10 ∷ []

pub nothing_has_form : has_form nothing ≡ true
unfolding nothing has_form well_placed is_digit digit value number_on word all any either both least
nothing_has_form = refl

-- No byte at all, a carriage return before the line feed, and a line too few.
pub empty_has_not : has_form [] ≡ false
unfolding has_form well_placed is_digit digit value number_on word all any either both least
empty_has_not = refl

unfoldable pub returned : List ℕ
returned = 48 ∷ 48 ∷ 48 ∷ 49 ∷ 48 ∷ 48 ∷ 48 ∷ 48 ∷ 13 ∷ 10 ∷ []

pub returned_has_not : has_form returned ≡ false
unfolding returned has_form well_placed is_digit digit value number_on word all any either both least
returned_has_not = refl

unfoldable pub cut : List ℕ
cut = 48 ∷ 48 ∷ 48 ∷ 50 ∷ 48 ∷ 48 ∷ 48 ∷ 49 ∷ 10 ∷ []

pub cut_has_not : has_form cut ≡ false
unfolding cut has_form well_placed is_digit digit value number_on word all any either both least
cut_has_not = refl

-- Four vertices, each joined to each.
unfoldable pub k4_ends : List ℕ
k4_ends = 0 ∷ 1 ∷ 1 ∷ 2 ∷ 2 ∷ 3 ∷ 3 ∷ 0 ∷ 3 ∷ 1 ∷ 2 ∷ 0 ∷ []

unfoldable pub k4_text : List ℕ
k4_text =
    48 ∷ 48 ∷ 48 ∷ 52 ∷ 48 ∷ 48 ∷ 48 ∷ 54 ∷ 10 ∷
    48 ∷ 48 ∷ 48 ∷ 48 ∷ 48 ∷ 48 ∷ 48 ∷ 49 ∷ 10 ∷
    48 ∷ 48 ∷ 48 ∷ 49 ∷ 48 ∷ 48 ∷ 48 ∷ 50 ∷ 10 ∷
    48 ∷ 48 ∷ 48 ∷ 50 ∷ 48 ∷ 48 ∷ 48 ∷ 51 ∷ 10 ∷
    48 ∷ 48 ∷ 48 ∷ 51 ∷ 48 ∷ 48 ∷ 48 ∷ 48 ∷ 10 ∷
    48 ∷ 48 ∷ 48 ∷ 51 ∷ 48 ∷ 48 ∷ 48 ∷ 49 ∷ 10 ∷
    48 ∷ 48 ∷ 48 ∷ 50 ∷ 48 ∷ 48 ∷ 48 ∷ 48 ∷ 10 ∷
    []

pub k4_has_form : has_form k4_text ≡ true
unfolding k4_text has_form well_placed is_digit digit value number_on word all any either both least
k4_has_form = refl

pub k4_read : (vertices_in k4_text ≡ 4) × (lines_in k4_text ≡ 6) × (ends_in k4_text ≡ k4_ends)
unfolding k4_ends k4_text digit value number_on word numbers least
k4_read = (refl, refl, refl)

pub k4_written : text_of 4 k4_ends ≡ k4_text
unfolding k4_ends k4_text digit digits frame frames
k4_written = refl

-- The highest number that four digits say: ffff.
pub highest : (digits 4 65535 ≡ 102 ∷ 102 ∷ 102 ∷ 102 ∷ []) × (number_on 0 (digits 4 65535) ≡ 65535)
unfolding digit digits value number_on least
highest = (refl, refl)

-- What read's statement says: one vertex is read, a capital digit and a missing line feed give 1, no vertex gives 2.

lone_connected : Connected (network 1 [])
lone_connected u v h k = subst (λ (w : ℕ). Path (network 1 []) u w) (omega arith) here

lone_sound : Sound 1 []
unfolding astray mispaired any
lone_sound = inr (λ t. true_false t refl, inr (λ t. true_false t refl, inl (lone_connected, tt)))

module _ (ends : List ℕ) (r : Answer) (ends' : List ℕ) where
  pub lone_is_read : Read lone ends r ends' → (r ≡ done 1 0) × (ends' ≡ ends)
  unfolding lone digit value number_on word numbers least oversize either
  lone_is_read = read_accepts lone ends r ends' (record { form = lone_has_form; sized = refl; roomy = omega arith; sound = lone_sound })

  pub capital_is_refused : Read capital ends r ends' → Untouched ends r ends' 1
  capital_is_refused = read_formless capital ends r ends' capital_has_not

  pub unended_is_refused : Read unended ends r ends' → Untouched ends r ends' 1
  unended_is_refused = read_formless unended ends r ends' unended_has_not

  pub nothing_is_refused : Read nothing ends r ends' → Untouched ends r ends' 2
  unfolding nothing digit value number_on word least oversize either
  nothing_is_refused = read_oversize nothing ends r ends' nothing_has_form refl
