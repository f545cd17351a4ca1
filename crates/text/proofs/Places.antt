-- The form, frame by frame: a frame is right where its two words are digits and its last byte is a line feed, and all places are right where all frames are.
use mathlib.Core.Bool.{Bool, true, false}
use mathlib.Core.List.{List}
use mathlib.Core.Path.{◌≡◌, sym, ◌∙◌}
use Prim.Native.Nat.{ℕ, ◌+◌, ◌-◌, ◌*◌, ◌%◌, ◌≤◌, ◌<◌}
use native.Mathlib.Omega.{arith}
use lib.Dec.{eqb}
use lib.ListN.{get_or, length}
use Rattle.laws.specs.Tests.{all}
use Rattle.laws.proofs.Cases.{cases, bool, true_false, lt_or}
use Rattle.laws.proofs.Tests.{all_of, all_yes}
use Rattle.text.specs.Text.{feed, room, lines_in, well_placed, has_form}
use Rattle.digits.specs.Inside.{is_word, Word, Number}
use Rattle.text.specs.Inside.{is_frame, Opened, Form}
use Rattle.text.proofs.FramesBack.{right_digit, right_feed}
use Rattle.text.proofs.TextBack.{form_of, form_yes, form_no_length}

-- what a Boolean cannot be, where another follows from it that is false
contrary : {a b : Bool} → (a ≡ true → b ≡ true) → b ≡ false → false ≡ a
contrary {a} {b} f e = cases (bool a) (λ t. true_false (f t) e) (λ q. sym q)

-- One frame

word_right : (text : List ℕ) (at : ℕ) → at % 9 ≤ 4 → ((i : ℕ) → i < 4 → well_placed text (at + i) ≡ true) → is_word text at ≡ true
unfolding is_word
word_right text at h r = all_yes _ 4 (λ i k. sym (right_digit text (at + i) (omega arith)) ∙ r i k)

-- a text with the form has four digits wherever a word begins
pub form_word : (text : List ℕ) → Form text → (at : ℕ) → at + 4 ≤ length text → at % 9 ≤ 4 → Word text at
form_word text f at h m = record { within = h; digits = word_right text at m (λ i k. f.places (at + i) (omega arith)) }

module _ (text : List ℕ) (k : ℕ) where
  frame_of : is_frame text k ≡ true → (i : ℕ) → i < 9 → well_placed text (9 * k + i) ≡ true
  unfolding is_frame
  frame_of t i h = all_of _ 9 t i h

  frame_by : ((i : ℕ) → i < 9 → well_placed text (9 * k + i) ≡ true) → is_frame text k ≡ true
  unfolding is_frame
  frame_by r = all_yes _ 9 r

  first_of : is_frame text k ≡ true → is_word text (9 * k) ≡ true
  first_of t = word_right text (9 * k) (omega arith) (λ i h. frame_of t i (omega arith))

  second_of : is_frame text k ≡ true → is_word text (9 * k + 4) ≡ true
  second_of t =
      word_right text (9 * k + 4) (omega arith)
      (λ i h. let at : 9 * k + 4 + i ≡ 9 * k + (4 + i) = omega arith in rw at (frame_of t (4 + i) (omega arith)))

  feed_of : is_frame text k ≡ true → eqb (get_or text (9 * k + 8) 0) feed ≡ true
  feed_of t = sym (right_feed text (9 * k + 8) (omega arith)) ∙ frame_of t 8 (omega arith)

  frame_yes : is_word text (9 * k) ≡ true → is_word text (9 * k + 4) ≡ true → eqb (get_or text (9 * k + 8) 0) feed ≡ true → is_frame text k ≡ true
  unfolding is_word
  frame_yes a b c =
      frame_by
      (λ i h. cases (lt_or i 4)
      (λ l. right_digit text (9 * k + i) (omega arith) ∙ all_of _ 4 a i l)
      (λ l. cases (lt_or i 8)
      (λ l'. let at : 9 * k + i ≡ 9 * k + 4 + (i - 4) = omega arith in rw at (right_digit text (9 * k + 4 + (i - 4)) (omega arith) ∙ all_of _ 4 b (i - 4) (omega arith)))
      (λ l'. let at : i ≡ 8 = omega arith in rw at (right_feed text (9 * k + 8) (omega arith) ∙ c))))

  pub frame_no_first : is_word text (9 * k) ≡ false → false ≡ is_frame text k
  frame_no_first f = contrary first_of f

  pub frame_no_second : is_word text (9 * k + 4) ≡ false → false ≡ is_frame text k
  frame_no_second f = contrary second_of f

  pub frame_last : is_word text (9 * k) ≡ true → is_word text (9 * k + 4) ≡ true → eqb (get_or text (9 * k + 8) 0) 10 ≡ is_frame text k
  frame_last a b =
      cases (bool (eqb (get_or text (9 * k + 8) 0) 10)) (λ e. e ∙ sym (frame_yes a b e)) (λ e. e ∙ contrary feed_of e)

-- All frames

-- the places of the first k frames are right
pub record Rights (text : List ℕ) (lines k : ℕ) : Type 0 where
  pub upto : k ≤ lines + 1
  pub places : (i : ℕ) → i < 9 * k → well_placed text i ≡ true

module _ (text : List ℕ) (lines : ℕ) (o : Opened text lines) where
  pub rights_start : Rights text lines 1
  rights_start =
      record {
        upto = omega arith;
        places = λ i h. let at : 9 * 0 + i ≡ i = omega arith in rw at at (frame_of text 0 o.first i (omega arith));
      }

  pub rights_all : (k : ℕ) → Rights text lines k → lines < k → true ≡ all (well_placed text) (length text)
  rights_all k s h = sym (all_yes (well_placed text) (length text) (λ i l. s.places i (omega (arith, o.long))))

  module _ (k : ℕ) (h : k ≤ lines) (r : Bool) (is : r ≡ is_frame text k) where
    pub rights_more : Rights text lines k → r ≡ true → Rights text lines (k + 1)
    rights_more s t =
        record {
          upto = omega arith;
          places = λ i l.
              cases (lt_or i (9 * k)) (s.places i)
              (λ l'. let at : 9 * k + (i - 9 * k) ≡ i = omega arith in rw at at (frame_of text k (sym is ∙ t) (i - 9 * k) (omega arith)));
        }

    pub rights_last : Rights text lines k → r ≡ true → lines ≤ k → true ≡ all (well_placed text) (length text)
    rights_last s t l = rights_all (k + 1) (rights_more s t) (omega arith)

    pub rights_no : r ≡ false → false ≡ all (well_placed text) (length text)
    rights_no f =
        contrary
        (λ t. frame_by text k (λ i l. all_of (well_placed text) (length text) t (9 * k + i) (omega (arith, o.long))))
        (sym is ∙ f)

-- The form

module _ (text : List ℕ) where
  pub form_short : length text < 9 → false ≡ has_form text
  form_short h = sym (form_no_length text (λ e. omega arith))

  module _ (h : 9 ≤ length text) (first : Bool) (is_first : first ≡ is_frame text 0) where
    pub form_no_first : first ≡ false → false ≡ has_form text
    form_no_first f = contrary (λ t. frame_by text 0 (λ i l. (form_of text t).places (9 * 0 + i) (omega arith))) (sym is_first ∙ f)

    module _ (right_first : first ≡ true) where
      pub lines_word : Word text 4
      lines_word = record { within = omega arith; digits = second_of text 0 (sym is_first ∙ right_first) }

      module _ (lines : ℕ) (is : Number text 4 lines) where
        pub form_no_room : (length text ≡ 9 * (lines + 1) → ⊥) → false ≡ has_form text
        form_no_room d = sym (form_no_length text (λ e. d (rw is.said e)))

        module _ (long : length text ≡ 9 * (lines + 1)) where
          pub form_last : (r : Bool) → r ≡ all (well_placed text) (length text) → r ≡ has_form text
          form_last r e =
              let room_is : length text ≡ room (lines_in text) = rw is.said at long in
              cases (bool (all (well_placed text) (length text)))
              (λ t. e ∙ t ∙ sym (form_yes text (record { long = room_is; places = all_of (well_placed text) (length text) t })))
              (λ f. e ∙ f ∙ contrary (λ t. all_yes (well_placed text) (length text) (form_of text t).places) f)
