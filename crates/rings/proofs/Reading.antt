-- The chain read as a ring, as the code does it, on lists.
use mathlib.Core.Bool.{Bool, true, false, cond}
use mathlib.Core.List.{List}
use mathlib.Core.Logic.{◌≢◌}
use mathlib.Core.Path.{◌≡◌, sym, ◌∙◌, ap}
use Prim.Native.Nat.{ℕ, suc, ◌+◌, ◌-◌, ◌*◌, ◌%◌, ◌≤◌, ◌<◌}
use native.Mathlib.Omega.{arith}
use lib.ListN.{set}
use borrow.Author.Tests.{eq-eqb, ne_eqb}
use Rattle.laws.specs.Lists.{at}
use Rattle.groups.specs.Groups.{columns}
use Rattle.groups.specs.declared.Groups.{Groups}
use Rattle.groups.proofs.Filling.{Filled, filled_more}
use Rattle.rings.specs.Rings.{LowestPlace, wrap, kind_of, spot_of, link_of, Spot, StepPlace, Readable, TracedLines, TracedKinds}
use Rattle.rings.proofs.Circles.{wrap_low, wrap_high, wrap_within}

-- Places round the circle

module _ (n i : ℕ) where
  pub around_low : i < n → i ≡ wrap n i
  around_low h = sym (wrap_low n i h)

  pub around_high : n ≤ i → i - n ≡ wrap n i
  around_high h = sym (wrap_high n i h)

module _ (n m : ℕ) (up : Bool) (j r : ℕ) (hm : m < n) where
  pub spot_up : j ≤ n → up ≡ true → r ≡ wrap n (m + j) → Spot n m up j r
  unfolding spot_of
  spot_up hj e q = record { is = rw (e, q); within = rw q (wrap_within n (m + j) (omega arith)) }

  pub spot_down : j ≤ n → up ≡ false → r ≡ wrap n (m + n - j) → Spot n m up j r
  unfolding spot_of
  spot_down hj e q = record { is = rw (e, q); within = rw q (wrap_within n (m + n - j) (omega arith)) }

  pub link_up : up ≡ true → Spot n m up j r → StepPlace n m up j r
  unfolding spot_of link_of
  link_up e q =
      let s : r ≡ cond up (wrap n (m + j)) (wrap n (m + n - j)) = q.is in
      record { is = rw e (rw e at s); within = q.within }

  pub link_down : up ≡ false → Spot n m up (j + 1) r → StepPlace n m up j r
  unfolding spot_of link_of
  link_down e q =
      let s : r ≡ cond up (wrap n (m + (j + 1))) (wrap n (m + n - (j + 1))) = q.is in
      let z : m + n - (j + 1) ≡ m + n - suc j = omega arith in
      record { is = rw e (rw (e, z) at s); within = q.within }

-- The lowest line

pub record Seen (n i : ℕ) (chain : List ℕ) (m : ℕ) : Type 0 where
  pub some : 0 < i
  pub upto : i ≤ n
  pub least : LowestPlace i (at chain) m

module _ (n : ℕ) (chain : List ℕ) where
  pub seen_all : (i m : ℕ) → Seen n i chain m → n ≤ i → LowestPlace n (at chain) m
  seen_all i m s h = let e : i ≡ n = omega (arith, s.upto) in rw e at s.least

-- Kinds

module _ (n k : ℕ) (g : Groups) (chain : List ℕ) (i : ℕ) where
  pub kind_home : i + 1 ≡ n → k ≡ kind_of (columns g).parity (at chain) n k i
  unfolding kind_of
  kind_home e = rw (eq-eqb (suc i) n (omega arith))

  pub kind_on : (r : ℕ) → (i + 1 ≡ n → ⊥) → r ≡ ((columns g).parity (at chain i) + (columns g).parity (at chain (i + 1))) % 2
      → r ≡ kind_of (columns g).parity (at chain) n k i
  unfolding kind_of
  kind_on r d e =
      let d' : i + 1 ≢ n = d in
      let z : i + 1 ≡ suc i = omega arith in
      rw (ne_eqb (suc i) n (λ q. omega arith), ← z) e

-- The direction

module _ (n m r : ℕ) (chain : List ℕ) (t : Readable n chain) (h : m < n) where
  pub next_inside : r ≡ wrap n (m + 1) → (n ≡ 2 → ⊥) → r < 2048
  next_inside e d = omega (arith, t.few, wrap_within n (m + 1) (omega arith))

  pub next_fits : r ≡ wrap n (m + 1) → (n ≡ 2 → ⊥) → r * 2 < 18446744073709551616
  next_fits e d = omega (arith, next_inside e d)

  pub before_inside : r ≡ wrap n (m + n - 1) → r < 2048
  before_inside e = omega (arith, t.few, wrap_within n (m + n - 1) (omega arith))

  pub before_fits : r ≡ wrap n (m + n - 1) → r * 2 < 18446744073709551616
  before_fits e = omega (arith, before_inside e)

-- Writing

unfoldable pub RingLines : List ℕ → ℕ → ℕ → Bool → ℕ → ℕ → Type 0
RingLines chain n m up j v = v ≡ at chain (spot_of n m up j)

unfoldable pub RingKinds : Groups → List ℕ → ℕ → ℕ → Bool → ℕ → ℕ → ℕ → Type 0
RingKinds g chain n m up k j v = v ≡ kind_of (columns g).parity (at chain) n k (link_of n m up j)

module _ (n m : ℕ) (up : Bool) (chain old : List ℕ) (j : ℕ) (l : List ℕ) (f : Filled (RingLines chain n m up) n j old l) where
  pub lines_more : (r : ℕ) → Spot n m up j r → j < n → Filled (RingLines chain n m up) n (j + 1) old (set l j (at chain r))
  unfolding RingLines
  lines_more r s h = filled_more f h (ap (at chain) s.is)

  pub lines_traced : n ≤ j → TracedLines (at chain) n m up old l
  unfolding RingLines
  lines_traced h = record { written = λ i o. f.done i (omega arith); rest = λ i o. f.rest i (omega (arith, f.upto)) }

module _ (n m : ℕ) (up : Bool) (k : ℕ) (g : Groups) (chain old : List ℕ) (j : ℕ) (l : List ℕ) (f : Filled (RingKinds g chain n m up k) n j old l) where
  pub kinds_more : (r w v : ℕ) → StepPlace n m up j r → j < n → w ≡ kind_of (columns g).parity (at chain) n k r → v ≡ w
      → Filled (RingKinds g chain n m up k) n (j + 1) old (set l j v)
  unfolding RingKinds
  kinds_more r w v s h e e' = filled_more f h (e' ∙ e ∙ ap (kind_of (columns g).parity (at chain) n k) s.is)

  pub kinds_traced : n ≤ j → TracedKinds (columns g).parity (at chain) n m up k old l
  unfolding RingKinds
  kinds_traced h = record { written = λ i o. f.done i (omega arith); rest = λ i o. f.rest i (omega (arith, f.upto)) }
