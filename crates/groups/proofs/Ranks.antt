-- The rank of a choice. Some lines lead: the bytes there tell a good choice, lowest line first, and so they make a number. Earlier is smaller rank; so what
-- has rank 0 is first, and what has the next rank is next.
use mathlib.Core.Bool.{Bool, true, false, cond}
use mathlib.Core.Logic.{◌⊎◌, inl, inr}
use mathlib.Core.Path.{◌≡◌, refl, sym, ◌∙◌}
use Prim.Native.Nat.{ℕ, zero, suc, ◌+◌, ◌*◌, ◌≤◌, ◌<◌}
use native.Mathlib.Omega.{arith}
use Rattle.laws.specs.Lists.{Agree}
use Rattle.laws.specs.Dictionary.{Before, First, Next, Last}
use Rattle.laws.proofs.Cases.{cases, bool, lt_or}
use Rattle.laws.proofs.Dictionary.{three}

-- the bytes at the leading lines below n, read as a binary number
unfoldable pub value : (ℕ → Bool) → (ℕ → ℕ) → ℕ → ℕ
value lead c zero = 0
value lead c (suc n) = cond (lead n) (2 * value lead c n + c n) (value lead c n)

module _ (lead : ℕ → Bool) where
  pub value_none : (c : ℕ → ℕ) → value lead c 0 ≡ 0
  unfolding value
  value_none c = refl

  pub value_lead : (c : ℕ → ℕ) (n : ℕ) → lead n ≡ true → value lead c (suc n) ≡ 2 * value lead c n + c n
  unfolding value
  value_lead c n e = rw e

  pub value_rest : (c : ℕ → ℕ) (n : ℕ) → lead n ≡ false → value lead c (suc n) ≡ value lead c n
  unfolding value
  value_rest c n e = rw e

  pub value_agree : (c d : ℕ → ℕ) (n : ℕ) → Agree n c d → value lead c n ≡ value lead d n
  value_agree c d zero a = value_none c ∙ sym (value_none d)
  value_agree c d (suc n) a =
      let v = value_agree c d n (λ b h. a b (omega arith)) in
      let e = a n (omega arith) in
      cases (bool (lead n))
      (λ t. omega (arith, value_lead c n t, value_lead d n t))
      (λ f. omega (arith, value_rest c n f, value_rest d n f))

-- Of the lines below n the leading ones have 0 or 1 in a good choice, and each other one has what the lines below it leave it.
pub record Led (n : ℕ) (Good : (ℕ → ℕ) → Type 0) (lead : ℕ → Bool) : Type 0 where
  pub side : (c : ℕ → ℕ) → Good c → (b : ℕ) → b < n → lead b ≡ true → c b ≤ 1
  pub forced : (c d : ℕ → ℕ) → Good c → Good d → (b : ℕ) → b < n → lead b ≡ false → Agree b c d → c b ≡ d b

module _ (n : ℕ) (Good : (ℕ → ℕ) → Type 0) (lead : ℕ → Bool) (led : Led n Good lead) where
  value_before : (c d : ℕ → ℕ) → Good c → Good d → (l : Before n c d) → (k : ℕ) → l.place < k → k ≤ n → value lead c k < value lead d k
  value_before c d g g' l zero h o = absurd (omega arith)
  value_before c d g g' l (suc k) h o =
      cases (lt_or l.place k)
      (λ e.
      let v = value_before c d g g' l k e (omega arith) in
      cases (bool (lead k))
      (λ t. omega (arith, value_lead lead c k t, value_lead lead d k t, led.side c g k o t))
      (λ f. omega (arith, value_rest lead c k f, value_rest lead d k f)))
      (λ e.
      let q : l.place ≡ k = omega arith in
      let a : Agree k c d = rw q at l.alike in
      let s : c k < d k = rw q at l.less in
      cases (bool (lead k))
      (λ t. omega (arith, value_lead lead c k t, value_lead lead d k t, value_agree lead c d k a))
      (λ f. absurd (omega (arith, led.forced c d g g' k o f a))))

  abbrev rank : (ℕ → ℕ) → ℕ
  rank c = value lead c n

  pub up : (c d : ℕ → ℕ) → Good c → Good d → Before n c d → rank c < rank d
  up c d g g' l = value_before c d g g' l n l.within (omega arith)

  pub by_rank : (c d : ℕ → ℕ) → Good c → Good d → rank c < rank d → Before n c d
  by_rank c d g g' h =
      cases (three n c d) (λ a. absurd (omega (arith, value_agree lead c d n a)))
      (λ o. cases o (λ l. l) (λ l. absurd (omega (arith, up d c g' g l))))

  pub at_most : (c d : ℕ → ℕ) → Good c → Good d → rank c ≤ rank d → Agree n c d ⊎ Before n c d
  at_most c d g g' h =
      cases (three n c d) inl (λ o. cases o inr (λ l. absurd (omega (arith, up d c g' g l))))

  pub first_by : (c : ℕ → ℕ) → Good c → rank c ≡ 0 → First n Good c
  first_by c g e = record { good = g; least = λ d h. at_most c d g h (omega arith) }

  pub next_by : (c d : ℕ → ℕ) → Good c → Good d → rank d ≡ suc (rank c) → Next n Good c d
  next_by c d g g' h =
      record {
        good = g';
        after = by_rank c d g g' (omega arith);
        least = λ e ge l. at_most d e g' ge (omega (arith, up c e g ge l));
      }

  pub last_by : (c : ℕ → ℕ) → Good c → ((e : ℕ → ℕ) → Good e → rank e ≤ rank c) → Last n Good c
  last_by c g h e g' l = omega (arith, up c e g g' l, h e g')
