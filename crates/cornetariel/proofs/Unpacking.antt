-- The number that packs an answer loses nothing: what is read out of it is that answer. So the call's statement holds of what C reads.
use mathlib.Core.Path.{◌≡◌, sym, ap, ◌∙◌}
use Prim.Native.Nat.{ℕ, ◌+◌, ◌*◌, ◌/◌, ◌%◌}
use native.Mathlib.Nat.{div-eq_of_lt-le}
use native.Mathlib.Omega.{arith}
use Rattle.network.specs.Numbers.{Answer}
use Rattle.cornetariel.specs.Face.{packed, unpack, Packed, Small}

pub unpacked : (a : Answer) → Small a → unpack (packed a) ≡ a
unpacked a s =
    let second : packed a / 4294967296 ≡ a.second = div-eq_of_lt-le 4294967296 (omega arith) (omega arith) in
    let both : packed a / 256 ≡ a.count + 16777216 * a.second = div-eq_of_lt-le 256 (omega arith) (omega arith) in
    let high : packed a / 256 / 16777216 ≡ a.second = div-eq_of_lt-le 16777216 (omega arith) (omega arith) in
    let number : packed a % 256 ≡ a.number = omega arith in
    let count : packed a / 256 % 16777216 ≡ a.count = omega arith in
    rw (number, count, second)

-- every number packs what is read out of it
packs_again : (r : ℕ) → packed (unpack r) ≡ r
packs_again r = omega arith

-- what C reads is an answer that the statement allows
pub read_out : {says : Answer → Type 0} {r : ℕ} → Packed says r → says (unpack r)
read_out p = rw (p.packs, unpacked p.answer p.parts) p.allowed

-- one answer, one number
pub one_number : (r s : ℕ) → unpack r ≡ unpack s → r ≡ s
one_number r s e = sym (packs_again r) ∙ ap packed e ∙ packs_again s
