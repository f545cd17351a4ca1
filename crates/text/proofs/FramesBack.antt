-- Frames and back: the numbers of frames that were made of numbers are those numbers, and frames made of the numbers of a text whose places are right
-- are that text. Both go frame by frame.
use mathlib.Core.Bool.{true}
use mathlib.Core.List.{List, [], ◌∷◌, ◌++◌, append_assoc}
use mathlib.Core.Path.{◌≡◌, refl, sym, ◌∙◌, ap}
use Prim.Native.Nat.{ℕ, zero, suc, ◌+◌, ◌-◌, ◌*◌, ◌%◌, ◌≤◌, ◌<◌, suc-le-suc, zero-le}
use native.Mathlib.Omega.{arith}
use lib.Dec.{eqb}
use lib.ListN.{get_or, length, take, drop, length-append, length-drop, take-append-drop, get_or-append}
use lib.Seq.{length-take-le, take_at, drop_at, drop-cons, drop-drop, get_or-take, get_or-drop, get_or-append-add, get_or_at}
use borrow.Author.Tests.{eq-eqb, ne_eqb, eqb-true}
use Rattle.laws.proofs.Cases.{cases, lt_or}
use Rattle.digits.specs.Digits.{is_digit, digits, word}
use Rattle.text.specs.Text.{feed, frame, frames, numbers, well_placed}
use Rattle.digits.proofs.Back.{length_digits, digits_are, number_digits, digits_number}

-- What a place should hold

pub right_digit : (t : List ℕ) (i : ℕ) → i % 9 < 8 → well_placed t i ≡ is_digit (get_or t i 0)
unfolding well_placed
right_digit t i h = rw (ne_eqb (i % 9) 8 (λ e. omega arith))

pub right_feed : (t : List ℕ) (i : ℕ) → i % 9 ≡ 8 → well_placed t i ≡ eqb (get_or t i 0) feed
unfolding well_placed
right_feed t i e = rw (eq-eqb (i % 9) 8 e)

-- a frame further on
right_drop : (t : List ℕ) (i : ℕ) → well_placed (drop 9 t) i ≡ well_placed t (9 + i)
unfolding well_placed
right_drop t i = let same : (9 + i) % 9 ≡ i % 9 = omega arith in rw (same, get_or-drop 9 t i 0)

-- Four digits at the beginning of a text

word_digits : (a : ℕ) (r : List ℕ) → a < 65536 → word (digits 4 a ++ r) ≡ a
unfolding word
word_digits a r h = rw (take_at (digits 4 a) r 4 (length_digits 4 a)) (number_digits 4 a h)

digits_word : (t : List ℕ) → 4 ≤ length t → ((i : ℕ) → i < 4 → is_digit (get_or t i 0) ≡ true) → digits 4 (word t) ≡ take 4 t
unfolding word
digits_word t h d =
    let long : length (take 4 t) ≡ 4 = length-take-le 4 t h in
    rw long at
    (digits_number (take 4 t) (λ i k. let l : i < 4 = omega arith in rw (get_or-take 4 t i 0 l) (d i l)))

-- One frame

pub length_frame : (a b : ℕ) → length (frame a b) ≡ 9
unfolding frame
length_frame a b =
    omega
    (arith, length-append (digits 4 a) (digits 4 b ++ (feed ∷ [])), length-append (digits 4 b) (feed ∷ []), length_digits 4 a, length_digits 4 b)

frame_before : (a b : ℕ) (r : List ℕ) → frame a b ++ r ≡ digits 4 a ++ (digits 4 b ++ (feed ∷ r))
unfolding frame
frame_before a b r = simp append_assoc

module _ (a b : ℕ) (r : List ℕ) where
  after_first : drop 4 (frame a b ++ r) ≡ digits 4 b ++ (feed ∷ r)
  after_first = rw (frame_before a b r) (drop_at (digits 4 a) _ 4 (length_digits 4 a))

  pub frame_first : a < 65536 → word (frame a b ++ r) ≡ a
  frame_first h = rw (frame_before a b r) (word_digits a _ h)

  pub frame_second : b < 65536 → word (drop 4 (frame a b ++ r)) ≡ b
  frame_second h = rw after_first (word_digits b _ h)

  pub frame_rest : drop 9 (frame a b ++ r) ≡ r
  frame_rest = drop_at (frame a b) r 9 (length_frame a b)

-- past the first n
get_d_past : (p q : List ℕ) (n i : ℕ) → length p ≡ n → n ≤ i → get_or (p ++ q) i 0 ≡ get_or q (i - n) 0
get_d_past p q n i e h = let at : i ≡ length p + (i - n) = omega arith in ap (λ k. get_or (p ++ q) k 0) at ∙ get_or-append-add p q (i - n) 0

frame_right : (a b : ℕ) (r : List ℕ) (i : ℕ) → i < 9 → well_placed (frame a b ++ r) i ≡ true
frame_right a b r i h =
    rw (frame_before a b r)
    (cases (lt_or i 4)
    (λ k. right_digit _ i (omega arith) ∙ (rw (get_or-append (digits 4 a) (digits 4 b ++ (feed ∷ r)) 0 i (omega (arith, length_digits 4 a))) (digits_are 4 a i k)))
    (λ k.
    let past = get_d_past (digits 4 a) (digits 4 b ++ (feed ∷ r)) 4 i (length_digits 4 a) k in
    cases (lt_or i 8)
    (λ k'.
    let j : i - 4 < 4 = omega arith in
    right_digit _ i (omega arith)
    ∙ (rw (past, get_or-append (digits 4 b) (feed ∷ r) 0 (i - 4) (omega (arith, length_digits 4 b))) (digits_are 4 b (i - 4) j)))
    (λ k'.
    let last : length (digits 4 b) ≡ i - 4 = omega (arith, length_digits 4 b) in
    right_feed _ i (omega arith) ∙ eq-eqb _ feed (past ∙ get_or_at (digits 4 b) feed r 0 (i - 4) last))))

-- Many frames

pub frames_two : (a b : ℕ) (l : List ℕ) → frames (a ∷ b ∷ l) ≡ frame a b ++ frames l
unfolding frames
frames_two a b l = refl

pub length_frames : (m : ℕ) (l : List ℕ) → length l ≡ 2 * m → length (frames l) ≡ 9 * m
length_frames zero [] e = unfold frames in refl
length_frames zero (a ∷ l) e = absurd (omega arith)
length_frames (suc m) [] e = absurd (omega arith)
length_frames (suc m) (a ∷ []) e = absurd (omega arith)
length_frames (suc m) (a ∷ b ∷ l) e =
    rw (frames_two a b l) (omega (arith, length-append (frame a b) (frames l), length_frame a b, length_frames m l (omega arith)))

pub length_numbers : (m : ℕ) (t : List ℕ) → length (numbers m t) ≡ 2 * m
unfolding numbers
length_numbers zero t = refl
length_numbers (suc m) t = omega (arith, length_numbers m (drop 9 t))

pub numbers_frames : (m : ℕ) (l : List ℕ) → length l ≡ 2 * m → ((i : ℕ) → i < length l → get_or l i 0 < 65536) → numbers m (frames l) ≡ l
unfolding numbers
numbers_frames zero [] e s = refl
numbers_frames zero (a ∷ l) e s = absurd (omega arith)
numbers_frames (suc m) [] e s = absurd (omega arith)
numbers_frames (suc m) (a ∷ []) e s = absurd (omega arith)
numbers_frames (suc m) (a ∷ b ∷ l) e s =
    rw (frames_two a b l, frame_first a b (frames l) (s 0 (suc-le-suc zero-le)), frame_second a b (frames l) (s 1 (suc-le-suc (suc-le-suc zero-le))), frame_rest a b (frames l))
    (ap (λ z. a ∷ b ∷ z) (numbers_frames m l (omega arith) (λ i h. s (suc (suc i)) (suc-le-suc (suc-le-suc h)))))

pub frames_right : (m : ℕ) (l : List ℕ) → length l ≡ 2 * m → (i : ℕ) → i < 9 * m → well_placed (frames l) i ≡ true
frames_right zero l e i h = absurd (omega arith)
frames_right (suc m) [] e i h = absurd (omega arith)
frames_right (suc m) (a ∷ []) e i h = absurd (omega arith)
frames_right (suc m) (a ∷ b ∷ l) e i h =
    rw (frames_two a b l)
    (cases (lt_or i 9)
    (λ k. frame_right a b (frames l) i k)
    (λ k.
    let on : i ≡ 9 + (i - 9) = omega arith in
    let later = frames_right m l (omega arith) (i - 9) (omega arith) in
    rw on (sym (right_drop (frame a b ++ frames l) (i - 9)) ∙ rw (frame_rest a b (frames l)) later)))

pub frames_numbers : (m : ℕ) (t : List ℕ) → length t ≡ 9 * m → ((i : ℕ) → i < 9 * m → well_placed t i ≡ true) → frames (numbers m t) ≡ t
unfolding numbers
frames_numbers zero [] e g = unfold frames in refl
frames_numbers zero (x ∷ t) e g = absurd (omega arith)
frames_numbers (suc m) t e g =
    let first = digits_word t (omega arith) (λ i h. sym (right_digit t i (omega arith)) ∙ g i (omega arith)) in
    let second = digits_word (drop 4 t) (omega (arith, length-drop 4 t))
    (λ i h. rw (get_or-drop 4 t i 0) (sym (right_digit t (4 + i) (omega arith)) ∙ g (4 + i) (omega arith))) in
    let last : get_or t 8 0 ≡ feed = eqb-true _ feed (sym (right_feed t 8 refl) ∙ g 8 (omega arith)) in
    let rest = frames_numbers m (drop 9 t) (omega (arith, length-drop 9 t)) (λ i h. right_drop t i ∙ g (9 + i) (omega arith)) in
    frames_two (word t) (word (drop 4 t)) (numbers m (drop 9 t))
    ∙ frame_before (word t) (word (drop 4 t)) (frames (numbers m (drop 9 t)))
    ∙ rw (first, second, rest) (whole last)
  where
    whole : get_or t 8 0 ≡ feed → take 4 t ++ (take 4 (drop 4 t) ++ (feed ∷ drop 9 t)) ≡ t
    whole last =
        let eight : drop 8 t ≡ feed ∷ drop 9 t = drop-cons t 8 0 (omega arith) ∙ ap (λ z. z ∷ drop 9 t) last in
        let four : take 4 (drop 4 t) ++ (feed ∷ drop 9 t) ≡ drop 4 t =
        ap (λ z. take 4 (drop 4 t) ++ z) (sym eight ∙ sym (drop-drop 4 4 t)) ∙ take-append-drop 4 (drop 4 t) in
        ap (λ z. take 4 t ++ z) four ∙ take-append-drop 4 t
