-- A trial holds where a test says so: the checks one after the other, and then each claim.
use mathlib.Core.Bool.{Bool, true, false, cond}
use mathlib.Core.List.{List}
use mathlib.Core.Logic.{inl, inr}
use mathlib.Core.Path.{◌≡◌, refl, sym, ◌∙◌}
use Prim.Native.Nat.{ℕ, ◌<◌}
use native.Mathlib.Omega.{arith}
use lib.Dec.{eqb, ltb}
use lib.ListN.{length}
use borrow.Author.Tests.{eqb-true, ltb-true}
use Rattle.laws.specs.Tests.{both}
use Rattle.laws.proofs.Cases.{cases, bool, true_false}
use Rattle.laws.proofs.Tests.{both_of, either_first, either_no}
use Rattle.network.specs.Network.{network}
use Rattle.network.specs.Numbers.{oversize, odd, astray, mispaired, Checked}
use Rattle.network.proofs.Sifting.{fit_when}
use Rattle.search.specs.Machine.{finished}
use Rattle.search.specs.Inside.{everyone}
use Rattle.search.proofs.Reached.{connected_of, connected_no}
use Rattle.trials.specs.Trials.{Trial, trial, refused_by, granted, ends_of, Every, True, Holds}
use Rattle.trials.proofs.Claims.{each, each_of, test, true_of}

-- The checks

-- the number that a network is refused by, or 0
unfoldable pub refusal : ℕ → List ℕ → ℕ
refusal n ends =
    cond (oversize n (length ends)) 2
    (cond (odd (length ends)) 3
    (cond (astray n ends) 4
    (cond (mispaired ends) 5
    (cond (everyone n (finished (network n ends)).found) 0 6))))

module _ (n : ℕ) (ends : List ℕ) (R : ℕ → Type 0) (G : Type 0) (refused : (k : ℕ) → 0 < k → refusal n ends ≡ k → R k) (done : refusal n ends ≡ 0 → G) where
  checked_of : Checked n ends false R G
  unfolding refusal
  checked_of =
      by (oversize n (length ends))
      (λ two. inl (two, refused 2 (omega arith) (rw two)))
      (λ two.
      inr (
        λ t. true_false t two,
        by (odd (length ends))
            (λ three. inl (either_first _ _ three, refused 3 (omega arith) (rw (two, three))))
            (λ three.
            inr (
              λ t. true_false t (either_no three refl),
              by (astray n ends)
                  (λ four. inl (four, refused 4 (omega arith) (rw (two, three, four))))
                  (λ four.
                  inr (
                    λ t. true_false t four,
                    by (mispaired ends)
                        (λ five. inl (five, refused 5 (omega arith) (rw (two, three, four, five))))
                        (λ five.
                        inr (
                          λ t. true_false t five,
                          by (everyone n (finished (network n ends)).found)
                              (λ six. inl (connected_of (network n ends) (fit_when n ends two three four five) six, done (rw (two, three, four, five, six))))
                              (λ six. inr (connected_no (network n ends) (fit_when n ends two three four five) six, refused 6 (omega arith) (rw (two, three, four, five, six)))),
                        )),
                  )),
            )),
      ))
    where
      by : {A : Type 0} (b : Bool) → (b ≡ true → A) → (b ≡ false → A) → A
      by b f g = cases (bool b) f g

-- The rows

unfoldable pub holdsb : Trial → Bool
holdsb (trial n lines (refused_by number)) = both (ltb 0 number) (eqb (refusal n (ends_of lines)) number)
holdsb (trial n lines (granted claims)) = both (eqb (refusal n (ends_of lines)) 0) (each (test (network n (ends_of lines)) (finished (network n (ends_of lines)))) claims)

pub holds_of : (t : Trial) → holdsb t ≡ true → Holds t
unfolding holdsb
holds_of (trial n lines (refused_by number)) t =
    let q = both_of t in
    let some = ltb-true 0 number q.0 in
    let is = eqb-true (refusal n (ends_of lines)) number q.1 in
    checked_of n (ends_of lines) (λ k. k ≡ number) ⊥ (λ k h e. sym e ∙ is) (λ e. absurd (omega arith))
holds_of (trial n lines (granted claims)) t =
    let q = both_of t in
    let is = eqb-true (refusal n (ends_of lines)) 0 q.0 in
    let net = network n (ends_of lines) in
    checked_of n (ends_of lines) (λ k. ⊥) (Every (True net) claims) (λ k h e. absurd (omega arith)) (λ e. each_of (test net (finished net)) (True net) (true_of net) claims q.1)

pub all_hold_of : (trials : List Trial) → each holdsb trials ≡ true → Every Holds trials
all_hold_of trials t = each_of holdsb Holds holds_of trials t
