-- Buffers filled from the beginning: what a run of stores leaves, and how the ends taken from a text, and the frames put into one, grow by a line.
use mathlib.Core.List.{List, [], ◌∷◌, ◌++◌, append_assoc, append-nil}
use mathlib.Core.Path.{◌≡◌, refl, sym, ◌∙◌, ap}
use Prim.Native.Nat.{ℕ, zero, suc, ◌+◌, ◌*◌, ◌/◌, ◌≤◌, ◌<◌}
use native.Mathlib.Nat.{add-zero}
use native.Mathlib.Omega.{arith}
use lib.ListN.{get_or, set, length, take, drop, length-append, length-set, length-drop, take-append-drop}
use lib.Seq.{sets, sets-eq, length-sets, length-take-le, take_at, take_all, take-suc, drop-append-add, drop-drop}
use Rattle.laws.specs.Lists.{filled}
use Rattle.digits.specs.Digits.{digits, word}
use Rattle.text.specs.Text.{feed, frame, frames, text_of, room, numbers}
use Rattle.digits.specs.Inside.{Word, Number}
use Rattle.text.specs.Inside.{Parsable, Roomy, Writable, after_first}
use Rattle.digits.proofs.Back.{length_digits}
use Rattle.text.proofs.TextBack.{length_text}
use Rattle.text.proofs.Places.{form_word}
use Rattle.text.proofs.FramesBack.{length_frame, frames_two, length_frames, length_numbers}

-- Stores

pub sets_append : (l : List ℕ) (i : ℕ) (vs ws : List ℕ) → sets l i (vs ++ ws) ≡ sets (sets l i vs) (i + length vs) ws
sets_append l i [] ws = rw (add-zero i)
sets_append l i (v ∷ vs) ws =
    let on : i + suc (length vs) ≡ suc i + length vs = omega arith in
    rw on (sets_append (set l i v) (suc i) vs ws)

-- what is stored behind a beginning of a buffer makes it longer
sets_more : (p old vs : List ℕ) (n : ℕ) → length p ≡ n → n + length vs ≤ length old
    → sets (p ++ drop n old) n vs ≡ (p ++ vs) ++ drop (n + length vs) old
sets_more p old vs n e h =
    let l = p ++ drop n old in
    let long : n + length vs ≤ length l = omega (arith, length-append p (drop n old), length-drop n old) in
    let past : drop (n + length vs) l ≡ drop (n + length vs) old =
    ap (λ k. drop (k + length vs) l) (sym e) ∙ drop-append-add p (drop n old) (length vs) ∙ drop-drop (length vs) n old in
    rw (sets-eq vs l n long, take_at p (drop n old) n e, past)

-- Two at a time

numbers_last : (k : ℕ) (t : List ℕ) → numbers (suc k) t ≡ numbers k t ++ (word (drop (9 * k) t) ∷ word (drop (9 * k + 4) t) ∷ [])
unfolding numbers
numbers_last zero t = refl
numbers_last (suc k) t =
    let a : 9 + 9 * k ≡ 9 * suc k = omega arith in
    let b : 9 + (9 * k + 4) ≡ 9 * suc k + 4 = omega arith in
    ap (λ z. word t ∷ word (drop 4 t) ∷ z)
    (numbers_last k (drop 9 t) ∙ rw (drop-drop (9 * k) 9 t, drop-drop (9 * k + 4) 9 t, a, b))

frames_last : (m : ℕ) (l : List ℕ) (a b : ℕ) → length l ≡ 2 * m → frames (l ++ (a ∷ b ∷ [])) ≡ frames l ++ frame a b
unfolding frames
frames_last zero [] a b e = append-nil (frame a b)
frames_last zero (x ∷ l) a b e = absurd (omega arith)
frames_last (suc m) [] a b e = absurd (omega arith)
frames_last (suc m) (x ∷ []) a b e = absurd (omega arith)
frames_last (suc m) (x ∷ y ∷ l) a b e = rw (frames_last m l a b (omega arith)) (sym (append_assoc (frame x y) (frames l) (frame a b)))

take_two : (l : List ℕ) (n : ℕ) → n + 2 ≤ length l → take (n + 2) l ≡ take n l ++ (get_or l n 0 ∷ get_or l (n + 1) 0 ∷ [])
take_two l n h =
    let two : n + 2 ≡ suc (suc n) = omega arith in
    let one : n + 1 ≡ suc n = omega arith in
    rw (two, one, take-suc l (suc n) 0 (omega arith), take-suc l n 0 (omega arith)) (append_assoc (take n l) (get_or l n 0 ∷ []) (get_or l (suc n) 0 ∷ []))

-- The ends taken from a text, line by line

-- the buffer after the ends of k lines were taken
pub record Taken (text : List ℕ) (lines : ℕ) (ends₀ : List ℕ) (k : ℕ) (ends : List ℕ) : Type 0 where
  pub upto : k ≤ lines
  pub list : ends ≡ numbers k (drop 9 text) ++ drop (2 * k) ends₀
  pub long : length ends ≡ length ends₀

module _ (text : List ℕ) (lines : ℕ) (ends₀ : List ℕ) (p : Parsable text lines ends₀) where
  pub taken_start : Taken text lines ends₀ 0 ends₀
  unfolding numbers
  taken_start = record { upto = omega arith; list = refl; long = refl }

  module _ (k : ℕ) (ends : List ℕ) (t : Taken text lines ends₀ k ends) where
    module _ (h : k < lines) where
      reaches : length text ≡ 9 * (lines + 1)
      reaches = rw p.lines_are p.form.long

      pub first_word : Word text (9 * (k + 1))
      first_word = form_word text p.form (9 * (k + 1)) (omega (arith, reaches)) (omega arith)

      pub second_word : Word text (9 * (k + 1) + 4)
      second_word = form_word text p.form (9 * (k + 1) + 4) (omega (arith, reaches)) (omega arith)

      pub taken_more : (a b : ℕ) → Number text (9 * (k + 1)) a → Number text (9 * (k + 1) + 4) b
          → Taken text lines ends₀ (k + 1) (set (set ends (2 * k) a) (2 * k + 1) b)
      taken_more a b is_a is_b =
          let l = numbers k (drop 9 text) in
          let one : 2 * k + 1 ≡ suc (2 * k) = omega arith in
          let two : 2 * (k + 1) ≡ 2 * k + 2 = omega arith in
          let next : k + 1 ≡ suc k = omega arith in
          let at_a : 9 + 9 * k ≡ 9 * (k + 1) = omega arith in
          let at_b : 9 + (9 * k + 4) ≡ 9 * (k + 1) + 4 = omega arith in
          let grown : numbers (k + 1) (drop 9 text) ≡ l ++ (a ∷ b ∷ []) =
          rw (next, numbers_last k (drop 9 text), drop-drop (9 * k) 9 text, drop-drop (9 * k + 4) 9 text, at_a, at_b, is_a.said, is_b.said) in
          let stored = sets_more l ends₀ (a ∷ b ∷ []) (2 * k) (length_numbers k (drop 9 text)) (omega (arith, p.roomy)) in
          record {
            upto = omega arith;
            list = rw (t.list, one, two, grown) stored;
            long = omega (arith, length-set (set ends (2 * k) a) (2 * k + 1) b, length-set ends (2 * k) a, t.long);
          }

-- One frame put

pub frame_put : (l m r : List ℕ) (at a b : ℕ) → m ≡ sets l at (digits 4 a) → r ≡ sets m (at + 4) (digits 4 b) → set r (at + 8) 10 ≡ sets l at (frame a b)
unfolding frame
frame_put l m r at a b e f =
    let first : at + length (digits 4 a) ≡ at + 4 = omega (arith, length_digits 4 a) in
    let last : at + 4 + length (digits 4 b) ≡ at + 8 = omega (arith, length_digits 4 b) in
    sym
    (sets_append l at (digits 4 a) (digits 4 b ++ (feed ∷ []))
    ∙ rw (first, ← e, sets_append m (at + 4) (digits 4 b) (feed ∷ []), ← f, last))

-- The frames of lines put, line by line

-- the buffer after the frames of k lines were put
pub record Put (ends text₀ : List ℕ) (k : ℕ) (text : List ℕ) : Type 0 where
  pub upto : k ≤ length ends / 2
  pub list : text ≡ after_first ends k text₀
  pub long : length text ≡ length text₀

module _ (ends text₀ : List ℕ) (r : Roomy ends text₀) where
  pub put_start : Put ends text₀ 0 text₀
  unfolding frames
  put_start =
      record {
        upto = omega arith;
        list = sym (rw (append-nil (take 9 text₀)) (take-append-drop 9 text₀));
        long = refl;
      }

  module _ (k : ℕ) (text : List ℕ) (t : Put ends text₀ k text) where
    pub put_more : (text' : List ℕ) → k < length ends / 2 → text' ≡ sets text (9 * (k + 1)) (frame (get_or ends (2 * k) 0) (get_or ends (2 * k + 1) 0))
        → Put ends text₀ (k + 1) text'
    put_more text' h e =
        let a = get_or ends (2 * k) 0 in
        let b = get_or ends (2 * k + 1) 0 in
        let q = take (2 * k) ends in
        let two : 2 * (k + 1) ≡ 2 * k + 2 = omega arith in
        let even_q : length q ≡ 2 * k = length-take-le (2 * k) ends (omega arith) in
        let long_p : length (take 9 text₀ ++ frames q) ≡ 9 * (k + 1) =
        omega (arith, length-append (take 9 text₀) (frames q), length-take-le 9 text₀ (omega (arith, r.roomy)), length_frames k q even_q) in
        let nine = length_frame a b in
        let on : 9 * (k + 1) + 9 ≡ 9 * (k + 1 + 1) = omega arith in
        let stored = sets_more (take 9 text₀ ++ frames q) text₀ (frame a b) (9 * (k + 1)) long_p (omega (arith, r.roomy)) in
        let stored' = rw (nine, on) at stored in
        record {
          upto = omega arith;
          list = e ∙ (rw (t.list, two, take_two ends (2 * k) (omega arith), frames_last k q a b even_q, ← append_assoc (take 9 text₀) (frames q) (frame a b)) stored');
          long = ap length e ∙ length-sets text (9 * (k + 1)) (frame a b) ∙ t.long;
        }

-- A whole text put

module _ (n : ℕ) (ends text₀ mid : List ℕ) (w : Writable n ends text₀) (is_mid : mid ≡ sets text₀ 0 (frame n (length ends / 2))) where
  pub text_put : (text : List ℕ) → text ≡ after_first ends (length ends / 2) mid → text ≡ filled (room (length ends / 2)) (text_of n ends) text₀
  text_put text e =
      let m = length ends / 2 in
      let f = frame n m in
      let nine = length_frame n m in
      let opened : mid ≡ f ++ drop 9 text₀ = is_mid ∙ (rw nine at (sets_more [] text₀ f 0 refl (omega (arith, w.fits.roomy)))) in
      let past : drop (room m) (f ++ drop 9 text₀) ≡ drop (room m) text₀ =
      (let at : length f + 9 * m ≡ room m = omega arith in
      let on : 9 + 9 * m ≡ room m = omega arith in
      rw (at, drop-drop (9 * m) 9 text₀, on) at (drop-append-add f (drop 9 text₀) (9 * m))) in
      let whole : take (room m) (text_of n ends) ≡ text_of n ends =
      take_all (room m) (text_of n ends) (omega (arith, length_text n m ends w.fits.even w.few_lines)) in
      let all_ends : take (2 * m) ends ≡ ends = take_all (2 * m) ends (omega (arith, w.fits.even)) in
      e
      ∙ (rw (opened, take_at f (drop 9 text₀) 9 nine, all_ends, past, whole, frames_two n m ends))
