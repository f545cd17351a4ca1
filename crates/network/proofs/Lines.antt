-- A line seen from its ends: the other end's other end is the first, and a path goes along either way.
use mathlib.Core.Bool.{true}
use mathlib.Core.List.{List}
use mathlib.Core.Logic.{◌⊎◌, inl, inr}
use mathlib.Core.Path.{◌≡◌, sym, ◌∙◌}
use Prim.Native.Nat.{ℕ, ◌+◌, ◌*◌, ◌<◌}
use native.Mathlib.Omega.{arith}
use borrow.Author.Tests.{eq-eqb, ne_eqb, eqb-true}
use Rattle.laws.proofs.Cases.{cases, eq_or}
use Rattle.laws.proofs.Tests.{either_first, either_second, either_of}
use Rattle.network.specs.Network.{Network, first, second, touches, other, joins, Path, here, along}
use Rattle.network.specs.Inside.{Fit}
use Rattle.network.proofs.Pairs.{joins_as_given, joins_turned, joins_of}

module _ (ends : List ℕ) where
  pub touches_first : (v k : ℕ) → first ends k ≡ v → touches ends v k ≡ true
  unfolding touches
  touches_first v k e = either_first _ _ (eq-eqb _ v e)

  pub touches_second : (v k : ℕ) → second ends k ≡ v → touches ends v k ≡ true
  unfolding touches
  touches_second v k e = either_second _ _ (eq-eqb _ v e)

  pub touches_of : (v k : ℕ) → touches ends v k ≡ true → (first ends k ≡ v) ⊎ (second ends k ≡ v)
  unfolding touches
  touches_of v k t = cases (either_of t) (λ e. inl (eqb-true _ v e)) (λ e. inr (eqb-true _ v e))

  pub other_first : (v k : ℕ) → first ends k ≡ v → other ends v k ≡ second ends k
  unfolding other
  other_first v k e = rw (eq-eqb (first ends k) v e)

  pub other_second : (v k : ℕ) → (first ends k ≡ v → ⊥) → other ends v k ≡ first ends k
  unfolding other
  other_second v k d = rw (ne_eqb (first ends k) v d)

  -- v and the other end are the two ends
  pub ends_from : (v k : ℕ) → touches ends v k ≡ true → ((first ends k ≡ v) × (second ends k ≡ other ends v k)) ⊎ ((first ends k ≡ other ends v k) × (second ends k ≡ v))
  ends_from v k t =
      cases (eq_or (first ends k) v)
      (λ e. inl (e, sym (other_first v k e)))
      (λ d. inr (sym (other_second v k d), cases (touches_of v k t) (λ e. absurd (d e)) (λ e. e)))

  pub touches_other : (v k : ℕ) → touches ends v k ≡ true → touches ends (other ends v k) k ≡ true
  touches_other v k t = cases (ends_from v k t) (λ q. touches_second _ k q.1) (λ q. touches_first _ k q.0)

  pub joins_other : (v k : ℕ) → touches ends v k ≡ true → joins ends k v (other ends v k) ≡ true
  joins_other v k t = cases (ends_from v k t) (λ q. joins_as_given ends k v _ q.0 q.1) (λ q. joins_turned ends k v _ q.0 q.1)

  pub joins_turn : (u v k : ℕ) → joins ends k u v ≡ true → joins ends k v u ≡ true
  joins_turn u v k t = cases (joins_of ends k u v t) (λ q. joins_turned ends k v u q.0 q.1) (λ q. joins_as_given ends k v u q.0 q.1)

  -- a line joins a vertex that it touches with its other end, and with nothing else
  pub joins_touches : (u v k : ℕ) → joins ends k u v ≡ true → touches ends u k ≡ true
  joins_touches u v k t = cases (joins_of ends k u v t) (λ q. touches_first u k q.0) (λ q. touches_second u k q.1)

  pub touches_two : (u v k : ℕ) → touches ends u k ≡ true → touches ends v k ≡ true → (v ≡ u) ⊎ (v ≡ other ends u k)
  touches_two u v k s t =
      cases (ends_from u k s)
      (λ q. cases (touches_of v k t) (λ e. inl (sym e ∙ q.0)) (λ e. inr (sym e ∙ q.1)))
      (λ q. cases (touches_of v k t) (λ e. inr (sym e ∙ q.0)) (λ e. inl (sym e ∙ q.1)))

  module _ (k : ℕ) (apart : first ends k ≡ second ends k → ⊥) where
    pub other_other : (v : ℕ) → touches ends v k ≡ true → other ends (other ends v k) k ≡ v
    other_other v t =
        cases (ends_from v k t)
        (λ q. other_second _ k (λ e. apart (e ∙ sym q.1)) ∙ q.0)
        (λ q. other_first _ k q.0 ∙ q.1)

    pub other_apart : (v : ℕ) → touches ends v k ≡ true → other ends v k ≡ v → ⊥
    other_apart v t o =
        cases (ends_from v k t)
        (λ q. apart (q.0 ∙ sym o ∙ sym q.1))
        (λ q. apart (q.0 ∙ o ∙ sym q.1))

    pub joins_is : (u v : ℕ) → joins ends k u v ≡ true → v ≡ other ends u k
    joins_is u v t =
        cases (joins_of ends k u v t)
        (λ q. sym q.1 ∙ sym (other_first u k q.0))
        (λ q. sym q.0 ∙ sym (other_second u k (λ e. apart (e ∙ sym q.1))))

pub other_in : (net : Network) → Fit net → (v k : ℕ) → k < net.lines → other net.ends v k < net.vertices
other_in net fit v k h =
    cases (eq_or (first net.ends k) v)
    (λ e. rw (other_first net.ends v k e) (fit.ends_in (2 * k + 1) (omega arith)))
    (λ d. rw (other_second net.ends v k d) (fit.ends_in (2 * k) (omega arith)))

-- Paths

pub path_join : {net : Network} {u v w : ℕ} → Path net u v → Path net v w → Path net u w
path_join here q = q
path_join (along k h j p) q = along k h j (path_join p q)

pub path_turn : {net : Network} {u v : ℕ} → Path net u v → Path net v u
path_turn here = here
path_turn {net} (along {u} {v} k h j p) = path_join (path_turn p) (along k h (joins_turn net.ends u v k j) here)
