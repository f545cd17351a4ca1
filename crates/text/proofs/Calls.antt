-- What read and write say, together: each settles its result and its buffer; accepted text that is read and then written is the same text; a network
-- that is written and then read is the same network.
use mathlib.Core.Bool.{false}
use mathlib.Core.List.{List}
use mathlib.Core.Path.{◌≡◌, sym, ◌∙◌, ap, subst}
use Prim.Native.Nat.{ℕ, ◌*◌, ◌/◌, ◌≤◌, ◌<◌}
use native.Mathlib.Omega.{arith}
use lib.ListN.{get_or, length, take}
use Rattle.laws.specs.Lists.{filled}
use Rattle.laws.proofs.Checks.{check_once}
use Rattle.network.specs.Numbers.{done, oversize}
use Rattle.network.specs.Numbers.{Answer}
use Rattle.network.proofs.Checks.{sized, even, none_astray}
use Rattle.network.proofs.Sifting.{checked_once, untouched_once}
use Rattle.text.specs.Text.{room, text_of, vertices_in, lines_in, ends_in}
use Rattle.text.specs.Calls.{Read, Write}
use Rattle.text.proofs.TextBack.{form_of, length_ends_in, text_again, length_text, lines_again, vertices_again, ends_again, text_has_form}
use Rattle.text.proofs.Accepted.{take_filled, not_odd, formed_once, sound_inside, read_done, read_accepts, write_done, write_grants}

-- Two results that one statement allows are equal

alike : {A B : Type 0} {r r' a : A} {b b' c : B} → (r ≡ a) × (b ≡ c) → (r' ≡ a) × (b' ≡ c) → (r ≡ r') × (b ≡ b')
alike x y = (x.0 ∙ sym y.0, x.1 ∙ sym y.1)

pub read_once : (text ends : List ℕ) (r r' : Answer) (a a' : List ℕ) → Read text ends r a → Read text ends r' a' → (r ≡ r') × (a ≡ a')
read_once text ends r r' a a' =
    check_once (untouched_once 1) (check_once (untouched_once 2) (check_once (untouched_once 3) (formed_once (vertices_in text) (ends_in text) untouched_once alike)))

pub write_once : (n : ℕ) (ends text : List ℕ) (r r' : Answer) (a a' : List ℕ) → Write n ends text r a → Write n ends text r' a' → (r ≡ r') × (a ≡ a')
write_once n ends text r r' a a' = checked_once n ends _ untouched_once alike

-- Read, then written

pub read_then_write : (text ends : List ℕ) (r : Answer) (ends' : List ℕ) → Read text ends r ends' → r.number ≡ 0
    → (buffer : List ℕ) (s : Answer) (buffer' : List ℕ) → length text ≤ length buffer
    → Write r.count (take (2 * r.second) ends') buffer s buffer'
    → (s ≡ done (length text) 0) × (buffer' ≡ filled (length text) text buffer)
read_then_write text ends r ends' d z buffer s buffer' l w =
    let (a, (is_r, is_ends)) = read_done text ends r ends' z d in
    let n = vertices_in text in
    let m = lines_in text in
    let e = ends_in text in
    let long = length_ends_in text in
    let bytes : room (length e / 2) ≡ length text = omega (arith, (form_of text a.form).long) in
    let used : take (2 * m) ends' ≡ e = rw is_ends (take_filled (2 * m) e ends long) in
    let w' : Write n (take (2 * m) ends') buffer s buffer' =
    subst (λ (x : Answer). Write x.count (take (2 * x.second) ends') buffer s buffer') is_r w in
    let g = write_grants n e buffer s buffer'
    (record { sized = rw long a.sized; paired = not_odd (length e) m long; roomy = omega arith; sound = a.sound })
    (subst (λ (x : List ℕ). Write n x buffer s buffer') used w') in
    (g.0 ∙ ap (λ k. done k 0) bytes, g.1 ∙ (rw (bytes, text_again text a.form)))

-- Written, then read

pub write_then_read : (n : ℕ) (ends text : List ℕ) (r : Answer) (text' : List ℕ) → Write n ends text r text' → r.number ≡ 0
    → (buffer : List ℕ) (s : Answer) (buffer' : List ℕ) → length ends ≤ length buffer
    → Read (take r.count text') buffer s buffer'
    → (s ≡ done n (length ends / 2)) × (buffer' ≡ filled (length ends) ends buffer)
write_then_read n ends text r text' d z buffer s buffer' l w =
    let (a, (is_r, is_text)) = write_done n ends text r text' z d in
    let m = length ends / 2 in
    let t = text_of n ends in
    let limits = sized n (length ends) a.sized in
    let pairs = even (length ends) a.paired in
    let few : m < 65536 = omega (arith, limits.2) in
    let small : (i : ℕ) → i < length ends → get_or ends i 0 < 65536 = λ i h. omega (arith, none_astray n ends (sound_inside n ends a.sound) i h, limits.1) in
    let used : take (room m) text' ≡ t = rw is_text (take_filled (room m) t text (length_text n m ends pairs few)) in
    let w' : Read (take (room m) text') buffer s buffer' = subst (λ (x : Answer). Read (take x.count text') buffer s buffer') is_r w in
    let is_n = vertices_again n m ends pairs few (omega (arith, limits.1)) in
    let is_m = lines_again n m ends pairs few in
    let is_ends = ends_again n m ends pairs few small in
    let fits : oversize n (2 * m) ≡ false = rw (sym pairs) a.sized in
    let g = read_accepts t buffer s buffer'
    (record { form = text_has_form n m ends pairs few; sized = rw (is_n, is_m) fits; roomy = omega arith; sound = rw (is_n, is_ends) a.sound })
    (subst (λ (x : List ℕ). Read x buffer s buffer') used w') in
    (rw (is_n, is_m) at g.0, g.1 ∙ (rw (is_ends, is_m, ← pairs)))
