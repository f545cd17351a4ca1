-- The numbers of a result tell the result: so where two answers that a statement allows are equal, the results are. Shown by reading it back out of them.
use mathlib.Core.Bool.{cond}
use mathlib.Core.Path.{◌≡◌, refl, sym, ap, ◌∙◌}
use Prim.Native.Nat.{ℕ}
use lib.Dec.{eqb}
use Rattle.std.specs.Prelude.{Result, Ok, Err}
use Rattle.network.specs.Numbers.{Answer, answered, answered_two}
use Rattle.network.specs.declared.Refusal.{Refusal}
use Rattle.network.specs.declared.Refusal.TheVariants.{Formless, Oversize, Cramped, Astray, Mispaired, Apart, Ringed, Unaligned, Last, Unbalanced}

abbrev told : ℕ → ℕ → Refusal
told k size =
    cond (eqb k 1) Formless
    (cond (eqb k 2) Oversize
    (cond (eqb k 3) Cramped
    (cond (eqb k 4) Astray
    (cond (eqb k 5) Mispaired
    (cond (eqb k 6) Apart
    (cond (eqb k 7) (Ringed size)
    (cond (eqb k 8) Unaligned
    (cond (eqb k 9) Last Unbalanced))))))))

abbrev result_in : {A : Type 0} → (Answer → A) → Answer → Result A Refusal
result_in counts a = cond (eqb a.number 0) (Ok (counts a)) (Err (told a.number a.second))

abbrev one : Answer → ℕ
one a = a.count

abbrev two : Answer → ℕ × ℕ
two a = (a.count, a.second)

back : (r : Result ℕ Refusal) → result_in one (answered r) ≡ r
back (Ok a) = refl
back (Err Formless) = refl
back (Err Oversize) = refl
back (Err Cramped) = refl
back (Err Astray) = refl
back (Err Mispaired) = refl
back (Err Apart) = refl
back (Err (Ringed size)) = refl
back (Err Unaligned) = refl
back (Err Last) = refl
back (Err Unbalanced) = refl

back_two : (r : Result (ℕ × ℕ) Refusal) → result_in two (answered_two r) ≡ r
back_two (Ok (a, b)) = refl
back_two (Err Formless) = refl
back_two (Err Oversize) = refl
back_two (Err Cramped) = refl
back_two (Err Astray) = refl
back_two (Err Mispaired) = refl
back_two (Err Apart) = refl
back_two (Err (Ringed size)) = refl
back_two (Err Unaligned) = refl
back_two (Err Last) = refl
back_two (Err Unbalanced) = refl

pub answered_once : (r r' : Result ℕ Refusal) → answered r ≡ answered r' → r ≡ r'
answered_once r r' e = sym (back r) ∙ ap (result_in one) e ∙ back r'

pub answered_two_once : (r r' : Result (ℕ × ℕ) Refusal) → answered_two r ≡ answered_two r' → r ≡ r'
answered_two_once r r' e = sym (back_two r) ∙ ap (result_in two) e ∙ back_two r'
