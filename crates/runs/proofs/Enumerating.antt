-- The listing theorem for any test of choices with bytes below 3, where some choice passes. A choice is read as a number to the base 3: earlier is
-- smaller. Of the numbers that stand for good choices one looks for the greatest below a given one: that is the choice just before it.
-- (That the list rises and has no choice twice holds whatever is good: there is one first choice, and one next.)
use mathlib.Core.Bool.{Bool, true, false, cond}
use mathlib.Core.Logic.{◌⊎◌, inl, inr, ◌≢◌}
use mathlib.Core.Path.{◌≡◌, refl, sym, ◌∙◌}
use Prim.Native.Nat.{ℕ, zero, suc, ◌+◌, ◌*◌, ◌/◌, ◌%◌, ◌≤◌, ◌<◌}
use native.Mathlib.Omega.{arith}
use lib.Dec.{eqb, ltb}
use borrow.Author.Tests.{eq-eqb, ne_eqb, eqb-true, lt-ltb, le-ltb}
use Rattle.laws.specs.Tests.{both}
use Rattle.laws.specs.Lists.{Agree}
use Rattle.laws.specs.Dictionary.{Before, First, Next, Last, Listed, start, more, Listing}
use Rattle.laws.proofs.Cases.{cases, bool, eq_or, lt_or, true_false}
use Rattle.laws.proofs.Tests.{both_yes, both_of}
use Rattle.laws.proofs.Dictionary.{agree_sym, three, never_alike, before_same, first_once, next_once}

-- Whatever is good

before_trans : (n : ℕ) (c d e : ℕ → ℕ) → Before n c d → Before n d e → Before n c e
before_trans n c d e p q =
    cases (lt_or p.place q.place)
    (λ l.
    record {
      place = p.place;
      within = p.within;
      alike = λ b h. p.alike b h ∙ q.alike b (omega arith);
      less = omega (arith, p.less, q.alike p.place l);
    })
    (λ g.
    cases (lt_or q.place p.place)
    (λ l.
    record {
      place = q.place;
      within = q.within;
      alike = λ b h. p.alike b (omega arith) ∙ q.alike b h;
      less = omega (arith, q.less, p.alike q.place l);
    })
    (λ g'.
    let s : p.place ≡ q.place = omega arith in
    let h : c q.place < d q.place = rw s at p.less in
    record { place = q.place; within = q.within; alike = λ b o. p.alike b (omega arith) ∙ q.alike b o; less = omega (arith, q.less) }))

module _ (n : ℕ) (Good : (ℕ → ℕ) → Type 0) where
  pub next_agree : (c c' d d' : ℕ → ℕ) → Agree n c c' → Agree n d d' → Good d' → Next n Good c d → Next n Good c' d'
  next_agree c c' d d' a a' g f =
      record {
        good = g;
        after = before_same n c c' d d' a a' f.after;
        least = λ e h l.
            cases (f.least e h (before_same n c' c e e (agree_sym n c c' a) (λ b o. refl) l))
            (λ q. inl (λ b o. sym (a' b o) ∙ q b o))
            (λ q. inr (before_same n d d' e e a' (λ b o. refl) q));
      }

  -- one choice stands at each place, and the list rises
  pub same_place : {k : ℕ} {c d : ℕ → ℕ} → Listed n Good k c → Listed n Good k d → Agree n c d
  same_place (start {c = c} f) (start {c = d} g) = first_once n Good c d f g
  same_place (more {c = c} {d = d} l f) (more {c = c'} {d = d'} l' g) =
      next_once n Good c' d d' (next_agree c c' d d (same_place l l') (λ b h. refl) f.good f) g

  pub listed_rising : {j k : ℕ} {c d : ℕ → ℕ} → Listed n Good j c → Listed n Good k d → j < k → Before n c d
  listed_rising p (start f) h = absurd (omega arith)
  listed_rising {j} {c = c} p (more {k = k} {c = c'} {d = d} l f) h =
      cases (lt_or j k)
      (λ o. before_trans n c c' d (listed_rising p l o) f.after)
      (λ o. let e : j ≡ k = omega arith in before_same n c' c d d (same_place l (rw e at p)) (λ b i. refl) f.after)

  pub listed_once : {j k : ℕ} {c d : ℕ → ℕ} → Agree n c d → Listed n Good j c → Listed n Good k d → j ≡ k
  listed_once {j} {k} {c} {d} a p q =
      cases (lt_or j k)
      (λ h. absurd (never_alike n c d (listed_rising p q h) a))
      (λ g.
      cases (lt_or k j)
      (λ h. absurd (never_alike n d c (listed_rising q p h) (agree_sym n c d a)))
      (λ g'. omega arith))

  pub listed_good : {k : ℕ} {c : ℕ → ℕ} → Listed n Good k c → Good c
  listed_good (start f) = f.good
  listed_good (more l f) = f.good

  -- nothing stands past the last
  pub listed_bound : {j k : ℕ} {c d : ℕ → ℕ} → Listed n Good k d → Last n Good d → Listed n Good j c → j ≤ k
  listed_bound {j} {k} {c} l z p = cases (lt_or k j) (λ h. absurd (z c (listed_good p) (listed_rising l p h))) (λ h. h)

  -- the choices that a list goes through
  pub along : {k : ℕ} {c : ℕ → ℕ} → Listed n Good k c → ℕ → ℕ → ℕ
  along (start {c = c} f) j = c
  along (more {k = k} {d = d} l f) j = cond (ltb k j) d (along l j)

  pub along_first : {k : ℕ} {c : ℕ → ℕ} (l : Listed n Good k c) → First n Good (along l 0)
  unfolding along
  along_first (start f) = f
  along_first (more {k = k} l f) = rw (le-ltb k 0 (omega arith)) (along_first l)

  pub along_last : {k : ℕ} {c : ℕ → ℕ} (l : Listed n Good k c) → along l k ≡ c
  unfolding along
  along_last (start f) = refl
  along_last (more {k = k} l f) = rw (lt-ltb k (suc k) (omega arith)) refl

  pub along_next : {k : ℕ} {c : ℕ → ℕ} (l : Listed n Good k c) (j : ℕ) → j < k → Next n Good (along l j) (along l (suc j))
  unfolding along
  along_next (start f) j h = absurd (omega arith)
  along_next (more {k = k} {c = c} {d = d} l f) j h =
      cases (lt_or j k)
      (λ o. rw (le-ltb k j (omega arith), le-ltb k (suc j) o) (along_next l j o))
      (λ o. let e : j ≡ k = omega arith in rw (e, le-ltb k k (omega arith), lt-ltb k (suc k) (omega arith), along_last l) f)

  pub along_listed : {k : ℕ} {c : ℕ → ℕ} (l : Listed n Good k c) (j : ℕ) → j ≤ k → Listed n Good j (along l j)
  along_listed l zero h = start (along_first l)
  along_listed l (suc j) h = more (along_listed l j (omega arith)) (along_next l j h)

-- Choices as numbers

unfoldable code : (ℕ → ℕ) → ℕ → ℕ
code c zero = 0
code c (suc n) = 3 * code c n + c n

-- the greatest there is
unfoldable top : ℕ → ℕ
top zero = 0
top (suc n) = 3 * top n + 2

-- the choice for a number
unfoldable spell : ℕ → ℕ → ℕ → ℕ
spell zero v b = 0
spell (suc n) v b = cond (eqb b n) (v % 3) (spell n (v / 3) b)

code_more : (c : ℕ → ℕ) (n : ℕ) → code c (suc n) ≡ 3 * code c n + c n
unfolding code
code_more c n = refl

code_none : (c : ℕ → ℕ) → code c zero ≡ 0
unfolding code
code_none c = refl

code_agree : (c d : ℕ → ℕ) (n : ℕ) → Agree n c d → code c n ≡ code d n
code_agree c d zero a = code_none c ∙ sym (code_none d)
code_agree c d (suc n) a = omega (arith, code_more c n, code_more d n, code_agree c d n (λ b h. a b (omega arith)), a n (omega arith))

abbrev Small : ℕ → (ℕ → ℕ) → Type 0
Small n c = (b : ℕ) → b < n → c b ≤ 2

code_top : (c : ℕ → ℕ) (n : ℕ) → Small n c → code c n ≤ top n
unfolding top
code_top c zero s = omega (arith, code_none c)
code_top c (suc n) s = omega (arith, code_more c n, code_top c n (λ b h. s b (omega arith)), s n (omega arith))

-- earlier is smaller
code_before : (c d : ℕ → ℕ) (n : ℕ) → Small n c → Before n c d → code c n < code d n
code_before c d n s l = upto n l.within (omega arith)
  where
    upto : (k : ℕ) → l.place < k → k ≤ n → code c k < code d k
    upto zero h o = absurd (omega arith)
    upto (suc k) h o =
        cases (lt_or l.place k)
        (λ e. omega (arith, upto k e (omega arith), code_more c k, code_more d k, s k o))
        (λ e.
        let q : l.place ≡ k = omega arith in
        let a : Agree k c d = rw q at l.alike in
        let z : c k < d k = rw q at l.less in
        omega (arith, code_more c k, code_more d k, code_agree c d k a))

-- a choice is the one for its number
spelt : (c : ℕ → ℕ) (n : ℕ) → Small n c → Agree n c (spell n (code c n))
unfolding spell
spelt c zero s b h = absurd (omega arith)
spelt c (suc n) s b h =
    let z = s n (omega arith) in
    cases (eq_or b n)
    (λ e. rw (eq-eqb b n e) (rw e (omega (arith, code_more c n))))
    (λ d.
    let d' : b ≢ n = d in
    let q : code c (suc n) / 3 ≡ code c n = omega (arith, code_more c n) in
    rw (ne_eqb b n d) (rw q (spelt c n (λ i o. s i (omega arith)) b (omega arith))))

-- the greatest number below v that passes, or none does
pub record Greatest (p : ℕ → Bool) (v w : ℕ) : Type 0 where
  pub below : w < v
  pub passes : p w ≡ true
  pub above : (x : ℕ) → w < x → x < v → p x ≡ false

greatest : (p : ℕ → Bool) (v : ℕ) → ((w : ℕ) × Greatest p v w) ⊎ ((x : ℕ) → x < v → p x ≡ false)
greatest p zero = inr (λ x h. absurd (omega arith))
greatest p (suc v) =
    cases (bool (p v))
    (λ t. inl (v, record { below = omega arith; passes = t; above = λ x h o. absurd (omega arith) }))
    (λ f. cases (greatest p v) (λ g. inl (g.0, further f g.0 g.1)) (λ none. inr (λ x h. with_last f x h (none x))))
  where
    with_last : p v ≡ false → (x : ℕ) → x < suc v → (x < v → p x ≡ false) → p x ≡ false
    with_last f x h k = cases (lt_or x v) k (λ o. let e : x ≡ v = omega arith in rw e f)

    further : p v ≡ false → (w : ℕ) → Greatest p v w → Greatest p (suc v) w
    further f w g = record { below = omega (arith, g.below); passes = g.passes; above = λ x h o. with_last f x o (g.above x h) }

-- The list

module _ (n : ℕ) (Good : (ℕ → ℕ) → Type 0) (goodb : (ℕ → ℕ) → Bool) (to : (c : ℕ → ℕ) → goodb c ≡ true → Good c) (from : (c : ℕ → ℕ) → Good c → goodb c ≡ true)
    (small : (c : ℕ → ℕ) → Good c → Small n c) (respects : (c d : ℕ → ℕ) → Agree n c d → Good c → Good d) where
  -- v is the number of a good choice
  unfoldable numbers : ℕ → Bool
  numbers v = both (goodb (spell n v)) (eqb (code (spell n v) n) v)

  numbers_of : (v : ℕ) → numbers v ≡ true → Good (spell n v) × (code (spell n v) n ≡ v)
  unfolding numbers
  numbers_of v t = let q = both_of t in (to (spell n v) q.0, eqb-true (code (spell n v) n) v q.1)

  numbers_yes : (c : ℕ → ℕ) → Good c → numbers (code c n) ≡ true
  unfolding numbers
  numbers_yes c g =
      let a = spelt c n (small c g) in
      both_yes (from _ (respects c (spell n (code c n)) a g)) (eq-eqb _ _ (sym (code_agree c (spell n (code c n)) n a)))

  by_code : (c d : ℕ → ℕ) → Good c → Good d → code c n ≤ code d n → Agree n c d ⊎ Before n c d
  by_code c d g g' h = cases (three n c d) inl (λ o. cases o inr (λ l. absurd (omega (arith, code_before d c n (small d g') l))))

  -- a good choice is the first, or the next after a good one
  before_it : (c : ℕ → ℕ) → Good c → First n Good c ⊎ ((w : ℕ) × (w < code c n) × Good (spell n w) × (code (spell n w) n ≡ w) × Next n Good (spell n w) c)
  before_it c g =
      cases (greatest numbers (code c n))
      (λ q. inr (last q.0 q.1))
      (λ none.
      inl (record {
        good = g;
        least = λ e h. by_code c e g h (cases (lt_or (code e n) (code c n)) (λ o. true_false (numbers_yes e h) (none (code e n) o)) (λ o. o));
      }))
    where
      last : (w : ℕ) → Greatest numbers (code c n) w → (w : ℕ) × (w < code c n) × Good (spell n w) × (code (spell n w) n ≡ w) × Next n Good (spell n w) c
      last w q =
          let y = numbers_of w q.passes in
          let under = q.below in (
            w,
            under,
            y.0,
            y.1,
            record {
              good = g;
              after = cases (by_code (spell n w) c y.0 g (omega (arith, y.1))) (λ a. absurd (omega (arith, y.1, code_agree (spell n w) c n a))) (λ l. l);
              least = λ e h l.
                  let over = code_before (spell n w) e n (small (spell n w) y.0) l in
                  by_code c e g h (cases (lt_or (code e n) (code c n)) (λ o. true_false (numbers_yes e h) (q.above (code e n) (omega (arith, y.1)) o)) (λ o. o));
            },
          )

  reached : (f : ℕ) (c : ℕ → ℕ) → Good c → code c n ≤ f → (k : ℕ) × Listed n Good k c
  reached zero c g h = cases (before_it c g) (λ q. (zero, start q)) (λ q. absurd (omega (arith, q.1)))
  reached (suc f) c g h =
      cases (before_it c g) (λ q. (zero, start q))
      (λ q. let r = reached f (spell n q.0) q.2 (omega (arith, q.1, q.3)) in (suc r.0, more r.1 q.4))

  every : (c : ℕ → ℕ) → Good c → (k : ℕ) × Listed n Good k c
  every c g = reached (code c n) c g (omega arith)

  pub listing_by_test : (c : ℕ → ℕ) → Good c → Listing n Good
  listing_by_test c g =
      record {
        every = every;
        once = λ j k d p q. listed_once n Good (λ b h. refl) p q;
        rising = λ j k d e p q h. listed_rising n Good p q h;
        ends =
            cases (greatest numbers (suc (top n)))
            (λ q. last q.0 q.1)
            (λ none. true_false (numbers_yes c g) (none (code c n) (omega (arith, code_top c n (small c g)))));
      }
    where
      last : (w : ℕ) → Greatest numbers (suc (top n)) w → (k : ℕ) × (d : ℕ → ℕ) × Listed n Good k d × Last n Good d
      last w q =
          let y = numbers_of w q.passes in
          let r = every (spell n w) y.0 in (
            r.0,
            spell n w,
            r.1,
            λ e h l.
                true_false (numbers_yes e h)
                (q.above (code e n) (omega (arith, y.1, code_before (spell n w) e n (small (spell n w) y.0) l)) (omega (arith, code_top e n (small e h)))),
          )
