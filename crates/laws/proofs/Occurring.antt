-- How often a number stands in a list that was kept, joined or reversed.
use mathlib.Core.Bool.{Bool, true, false}
use mathlib.Core.List.{List, [], ◌∷◌, ◌++◌, reverse, reverse-cons}
use mathlib.Core.Path.{◌≡◌, refl, sym, ◌∙◌, ap}
use Prim.Native.Nat.{ℕ, ◌+◌}
use native.Mathlib.Omega.{arith}
use Rattle.laws.specs.Counting.{many}
use Rattle.laws.specs.Lists.{keep}
use Rattle.laws.proofs.Cases.{bool, cases, true_false}
use Rattle.laws.proofs.Counting.{many_nil, many_other, many_cons}
use Rattle.laws.proofs.Lists.{keep_nil, keep_yes, keep_no}

pub many_append : (x : ℕ) (l r : List ℕ) → many x (l ++ r) ≡ many x l + many x r
many_append x [] r = omega (arith, many_nil x)
many_append x (y ∷ l) r = omega (arith, many_append x l r, many_cons x y (l ++ r), many_cons x y l)

pub many_reverse : (x : ℕ) (l : List ℕ) → many x (reverse l) ≡ many x l
many_reverse x [] = refl
many_reverse x (y ∷ l) = rw (reverse-cons y l) (omega (arith, many_append x (reverse l) (y ∷ []), many_reverse x l, many_cons x y l))

pub many_keep_yes : (p : ℕ → Bool) (x : ℕ) (l : List ℕ) → p x ≡ true → many x (keep p l) ≡ many x l
many_keep_yes p x [] e = rw (keep_nil p)
many_keep_yes p x (y ∷ l) e =
    cases (bool (p y))
    (λ t. rw (keep_yes p y l t) (omega (arith, many_cons x y l, many_cons x y (keep p l), many_keep_yes p x l e)))
    (λ f. rw (keep_no p y l f) (omega (arith, many_other x y l (λ q. true_false e (ap p (sym q) ∙ f)), many_keep_yes p x l e)))

pub many_keep_no : (p : ℕ → Bool) (x : ℕ) (l : List ℕ) → p x ≡ false → many x (keep p l) ≡ 0
many_keep_no p x [] e = rw (keep_nil p) (many_nil x)
many_keep_no p x (y ∷ l) e =
    cases (bool (p y))
    (λ t. rw (keep_yes p y l t) (omega (arith, many_other x y (keep p l) (λ q. true_false t (ap p q ∙ e)), many_keep_no p x l e)))
    (λ f. rw (keep_no p y l f) (many_keep_no p x l e))
