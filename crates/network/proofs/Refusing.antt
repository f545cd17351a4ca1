-- What a refusal answers in numbers: never 0, and its number alone, but for the one that has a ring.
use mathlib.Core.Path.{◌≡◌, refl}
use Prim.Native.Nat.{◌≤◌}
use native.Mathlib.Omega.{arith}
use Rattle.network.specs.Numbers.{refused, refusal_number, refusing}
use Rattle.network.specs.declared.Refusal.{Refusal}
use Rattle.network.specs.declared.Refusal.TheVariants.{Formless, Oversize, Cramped, Astray, Mispaired, Apart, Ringed, Unaligned, Last, Unbalanced}

pub refusal_some : (e : Refusal) → refusal_number e ≡ 0 → ⊥
refusal_some Formless z = absurd (omega arith)
refusal_some Oversize z = absurd (omega arith)
refusal_some Cramped z = absurd (omega arith)
refusal_some Astray z = absurd (omega arith)
refusal_some Mispaired z = absurd (omega arith)
refusal_some Apart z = absurd (omega arith)
refusal_some (Ringed size) z = absurd (omega arith)
refusal_some Unaligned z = absurd (omega arith)
refusal_some Last z = absurd (omega arith)
refusal_some Unbalanced z = absurd (omega arith)

pub refusing_other : (e : Refusal) → (refusal_number e ≡ 7 → ⊥) → refusing e ≡ refused (refusal_number e)
refusing_other Formless d = refl
refusing_other Oversize d = refl
refusing_other Cramped d = refl
refusing_other Astray d = refl
refusing_other Mispaired d = refl
refusing_other Apart d = refl
refusing_other (Ringed size) d = absurd (d refl)
refusing_other Unaligned d = refl
refusing_other Last d = refl
refusing_other Unbalanced d = refl

pub refusing_plain : (e : Refusal) → refusal_number e ≤ 6 → refusing e ≡ refused (refusal_number e)
refusing_plain e h = refusing_other e (λ z. omega arith)
