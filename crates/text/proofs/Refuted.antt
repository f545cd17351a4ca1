-- A wrong program that the statement of write does not allow: on any network, what stands past the text stays as it was.
use mathlib.Core.List.{List}
use mathlib.Core.Path.{◌≡◌, ap, ◌∙◌}
use Prim.Native.Nat.{ℕ, ◌/◌, ◌<◌}
use native.Mathlib.Omega.{arith}
use lib.Dec.{ltb}
use lib.ListN.{length, drop}
use lib.Seq.{take_all, drop-append_seam}
use Rattle.laws.specs.Lists.{filled}
use Rattle.network.specs.Numbers.{Untouched}
use Rattle.network.specs.Numbers.{Answer}
use Rattle.network.proofs.Sifting.{checked_elim}
use Rattle.text.specs.Text.{room, text_of}
use Rattle.text.specs.Calls.{Write}
use Rattle.text.proofs.TextBack.{length_text}
use Rattle.text.proofs.Accepted.{Gave}

-- past a whole list that a buffer was filled with
drop_filled : (n : ℕ) (l old : List ℕ) → length l ≡ n → drop n (filled n l old) ≡ drop n old
drop_filled n l old e = let all = take_all n l (omega arith) in rw (all, ← e) (drop-append_seam l (drop (length l) old))

pub past_stays : (n : ℕ) (ends text : List ℕ) (r : Answer) (text' : List ℕ) → Write n ends text r text'
    → drop (room (length ends / 2)) text' ≡ drop (room (length ends / 2)) text
past_stays n ends text r text' w =
    let m = length ends / 2 in
    checked_elim n ends (ltb (length text) (room m)) (Untouched text r text') (Gave n ends text r text') w
    (λ k z s a. ap (drop (room m)) a.same)
    (λ fit c g.
    let few : m < 65536 = omega (arith, fit.few_lines) in
    ap (drop (room m)) g.1 ∙ drop_filled (room m) (text_of n ends) text (length_text n m ends fit.ends_long few))
