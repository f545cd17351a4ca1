-- Maps that agree on what takes part have the same walks, with the same numbers.
use mathlib.Core.Bool.{Bool}
use mathlib.Core.Path.{◌≡◌, refl, sym, ◌∙◌, ap, subst}
use Prim.Native.Nat.{ℕ, zero, suc, ◌<◌, min}
use native.Mathlib.Omega.{arith}
use Rattle.laws.specs.Counting.{count}
use Rattle.laws.specs.Orbits.{lowest_on, leads, walk_number, walks}
use Rattle.laws.proofs.Cases.{cases, bool}
use Rattle.laws.proofs.Counting.{count_same}
use Rattle.laws.proofs.Orbits.{In, Turn, lowest_stays}

module _ (n : ℕ) (on on' : ℕ → Bool) (f g : ℕ → ℕ) (T : Turn n on f) (same_on : (x : ℕ) → x < n → on x ≡ on' x) (same : (x : ℕ) → In n on x → f x ≡ g x) where
  pub turn_agree : Turn n on' g
  turn_agree =
      record {
        stays = λ x h. let w = back x h in let s = T.stays x w in subst (λ (y : ℕ). In n on' y) (same x w) (record { below = s.below; yes = sym (same_on (f x) s.below) ∙ s.yes });
        apart = λ x y h k e. T.apart x y (back x h) (back y k) (same x (back x h) ∙ e ∙ sym (same y (back y k)));
      }
    where
      back : (x : ℕ) → In n on' x → In n on x
      back x h = record { below = h.below; yes = same_on x h.below ∙ h.yes }

  lowest_agree : (k x : ℕ) → In n on x → lowest_on f k x ≡ lowest_on g k x
  unfolding lowest_on
  lowest_agree zero x h = refl
  lowest_agree (suc k) x h = ap (min x) (lowest_agree k (f x) (T.stays x h) ∙ ap (lowest_on g k) (same x h))

  leads_agree : (x : ℕ) → x < n → leads on f n x ≡ leads on' g n x
  leads_agree x h =
      cases (bool (on x))
      (λ t. rw (t, sym (same_on x h) ∙ t, lowest_agree n x (record { below = h; yes = t })))
      (λ t. rw (t, sym (same_on x h) ∙ t))

  pub number_agree : (x : ℕ) → In n on x → walk_number on f n x ≡ walk_number on' g n x
  number_agree x h =
      ap (count (leads on f n)) (lowest_agree n x h)
      ∙ count_same (leads on f n) (leads on' g n) (lowest_on g n x)
      (λ y k. leads_agree y (let s = (lowest_stays n on f T x h).below in omega (arith, lowest_agree n x h)))

  pub walks_agree : walks on f n ≡ walks on' g n
  walks_agree = count_same (leads on f n) (leads on' g n) n leads_agree
