-- What a refusal answers in numbers: its own number; and 7 is the ring's alone.
use mathlib.Core.Path.{◌≡◌, refl}
use Prim.Native.Nat.{ℕ}
use native.Mathlib.Omega.{arith}
use Rattle.network.specs.Numbers.{refusal_number, refusing}
use Rattle.network.specs.declared.Refusal.{Refusal}
use Rattle.network.specs.declared.Refusal.TheVariants.{Formless, Oversize, Cramped, Astray, Mispaired, Apart, Ringed, Unaligned, Last, Unbalanced}

pub refusing_number : (e : Refusal) → (refusing e).number ≡ refusal_number e
refusing_number Formless = refl
refusing_number Oversize = refl
refusing_number Cramped = refl
refusing_number Astray = refl
refusing_number Mispaired = refl
refusing_number Apart = refl
refusing_number (Ringed size) = refl
refusing_number Unaligned = refl
refusing_number Last = refl
refusing_number Unbalanced = refl

pub ringed_is : (e : Refusal) → refusal_number e ≡ 7 → (size : ℕ) × (e ≡ Ringed size)
ringed_is Formless z = absurd (omega arith)
ringed_is Oversize z = absurd (omega arith)
ringed_is Cramped z = absurd (omega arith)
ringed_is Astray z = absurd (omega arith)
ringed_is Mispaired z = absurd (omega arith)
ringed_is Apart z = absurd (omega arith)
ringed_is (Ringed size) z = (size, refl)
ringed_is Unaligned z = absurd (omega arith)
ringed_is Last z = absurd (omega arith)
ringed_is Unbalanced z = absurd (omega arith)
