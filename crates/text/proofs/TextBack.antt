-- The form, taken apart and put together; and the two round trips of a whole text, before any check of its network: a text that has the form is the text
-- of what it says, and the text of a network has the form and says that network.
use mathlib.Core.Bool.{true, false}
use mathlib.Core.List.{List, ◌∷◌, ◌++◌}
use mathlib.Core.Path.{◌≡◌}
use Prim.Native.Nat.{ℕ, suc, ◌*◌, ◌/◌, ◌<◌}
use native.Mathlib.Omega.{arith}
use lib.ListN.{get_or, length, drop}
use borrow.Author.Tests.{eq-eqb, eqb-true}
use Rattle.laws.proofs.Cases.{cases, bool}
use Rattle.laws.proofs.Tests.{both_yes, both_of, all_of, all_yes}
use Rattle.text.specs.Text.{frame, frames, text_of, room, numbers, vertices_in, lines_in, ends_in, well_placed, has_form}
use Rattle.text.specs.Inside.{Form}
use Rattle.text.proofs.FramesBack.{frame_first, frame_second, frame_rest, frames_two, length_frames, length_numbers, numbers_frames, frames_right, frames_numbers}

-- The two halves of the form

pub form_of : (text : List ℕ) → has_form text ≡ true → Form text
unfolding has_form
form_of text t =
    let p = both_of t in
    record { long = eqb-true (length text) (room (lines_in text)) p.0; places = all_of (well_placed text) (length text) p.1 }

pub form_yes : (text : List ℕ) → Form text → has_form text ≡ true
unfolding has_form
form_yes text f = both_yes (eq-eqb (length text) (room (lines_in text)) f.long) (all_yes (well_placed text) (length text) f.places)

-- no text of another length has the form
pub form_no_length : (text : List ℕ) → (length text ≡ room (lines_in text) → ⊥) → has_form text ≡ false
form_no_length text d = cases (bool (has_form text)) (λ t. absurd (d (form_of text t).long)) (λ f. f)

-- The text of what a text says

pub length_ends_in : (text : List ℕ) → length (ends_in text) ≡ 2 * lines_in text
length_ends_in text = length_numbers (lines_in text) (drop 9 text)

frames_said : (text : List ℕ) → has_form text ≡ true → frames (vertices_in text ∷ lines_in text ∷ ends_in text) ≡ text
unfolding numbers
frames_said text t =
    let f = form_of text t in
    frames_numbers (suc (lines_in text)) text (omega (arith, f.long)) (λ i h. f.places i (omega (arith, f.long)))

pub text_again : (text : List ℕ) → has_form text ≡ true → text_of (vertices_in text) (ends_in text) ≡ text
text_again text t = let half : length (ends_in text) / 2 ≡ lines_in text = omega (arith, length_ends_in text) in rw half (frames_said text t)

-- What the text of a network says

module _ (n m : ℕ) (ends : List ℕ) (even : length ends ≡ 2 * m) (few : m < 65536) where
  halved : length ends / 2 ≡ m
  halved = omega arith

  text_is : text_of n ends ≡ frame n m ++ frames ends
  text_is = rw halved (frames_two n m ends)

  pub length_text : length (text_of n ends) ≡ room m
  length_text = omega (arith, length_frames (suc m) (n ∷ length ends / 2 ∷ ends) (omega arith))

  pub lines_again : lines_in (text_of n ends) ≡ m
  lines_again = rw text_is (frame_second n m (frames ends) few)

  pub vertices_again : n < 65536 → vertices_in (text_of n ends) ≡ n
  vertices_again h = rw text_is (frame_first n m (frames ends) h)

  pub ends_again : ((i : ℕ) → i < length ends → get_or ends i 0 < 65536) → ends_in (text_of n ends) ≡ ends
  ends_again s = rw (lines_again, text_is, frame_rest n m (frames ends)) (numbers_frames m ends even s)

  pub text_has_form : has_form (text_of n ends) ≡ true
  text_has_form =
      form_yes (text_of n ends)
      (record {
        long = rw lines_again length_text;
        places = λ i h. frames_right (suc m) (n ∷ length ends / 2 ∷ ends) (omega arith) i (omega (arith, length_text));
      })
