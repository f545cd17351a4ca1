-- The number of choices is a power of two, where of three good choices the first stays good when it is turned over wherever the other two part.
-- A line is free where two good choices part that are alike below it. Free lines can be given any sides, one after the other, and the sides that they
-- have tell all the rest; so, read as a binary number, they are the place of a choice in the list.
use mathlib.Core.Bool.{Bool, true, false, cond, not}
use mathlib.Core.Logic.{◌≢◌}
use mathlib.Core.Path.{◌≡◌, refl, sym, ◌∙◌, ap}
use Prim.Native.Nat.{ℕ, zero, suc, ◌*◌, ◌-◌, ◌/◌, ◌%◌, ◌^◌, ◌≤◌, ◌<◌}
use native.Mathlib.Nat.{pow-zero, pow-suc}
use native.Mathlib.Omega.{arith}
use lib.Dec.{eqb}
use borrow.Author.Tests.{eq-eqb, ne_eqb, eqb-true, eqb-false, not-true}
use Rattle.laws.specs.Tests.{both, all, any}
use Rattle.laws.specs.Counting.{count}
use Rattle.laws.specs.Lists.{Agree}
use Rattle.laws.specs.Dictionary.{First, Next, Listed, start, more, Listing}
use Rattle.laws.proofs.Cases.{cases, bool, eq_or, lt_or, true_false}
use Rattle.laws.proofs.Tests.{both_yes, both_of, all_of, all_yes, any_of, any_yes}
use Rattle.laws.proofs.Counting.{count_zero, count_yes, count_no}
use Rattle.tree.specs.Tree.{Tree}
use Rattle.tree.specs.Returns.{backb}
use Rattle.tree.specs.Words.{BackLine}
use Rattle.fork.proofs.Rule.{back_of}
use Rattle.groups.proofs.Ranks.{value, value_none, value_lead, value_rest, value_agree, Led, up, by_rank}
use Rattle.choice.specs.Choice.{Proper}
use Rattle.runs.proofs.Enumerating.{same_place, listed_good, along, along_listed, listed_bound}

-- c, turned over wherever d and e part
unfoldable pub turn : (ℕ → ℕ) → (ℕ → ℕ) → (ℕ → ℕ) → ℕ → ℕ
turn c d e b = cond (eqb (d b) (e b)) (c b) (1 - c b)

module _ (c d e : ℕ → ℕ) (b : ℕ) where
  turn_keeps : d b ≡ e b → turn c d e b ≡ c b
  unfolding turn
  turn_keeps s = rw (eq-eqb (d b) (e b) s)

  turn_turns : (d b ≡ e b → ⊥) → turn c d e b ≡ 1 - c b
  unfolding turn
  turn_turns s = rw (ne_eqb (d b) (e b) s)

module _ (n : ℕ) (Good : (ℕ → ℕ) → Type 0) (turned : (c d e : ℕ → ℕ) → Good c → Good d → Good e → Good (turn c d e))
    (side : (c d e : ℕ → ℕ) → Good c → Good d → Good e → (b : ℕ) → b < n → (d b ≡ e b → ⊥) → c b ≤ 1) (list : Listing n Good) where
  choices : ℕ
  choices = suc list.ends.0

  listed_as : ℕ → ℕ → ℕ
  listed_as = along n Good list.ends.2

  -- where a choice stands in the list
  standing : (c : ℕ → ℕ) → Good c → (i : ℕ) × (i < choices) × Agree n c (listed_as i)
  unfolding choices listed_as
  standing c g =
      let q = list.every c g in
      let h = listed_bound n Good list.ends.2 list.ends.3 q.1 in
      (q.0, omega (arith, h), same_place n Good q.1 (along_listed n Good list.ends.2 q.0 h))

  standing_good : (i : ℕ) → i < choices → Good (listed_as i)
  unfolding choices listed_as
  standing_good i h = listed_good n Good (along_listed n Good list.ends.2 i (omega arith))

  parts : (ℕ → ℕ) → (ℕ → ℕ) → ℕ → Bool
  parts c d b = both (all (λ x. eqb (c x) (d x)) b) (not (eqb (c b) (d b)))

  pub free : ℕ → Bool
  free b = any (λ i. any (λ j. parts (listed_as i) (listed_as j) b) choices) choices

  free_of : (b : ℕ) → free b ≡ true → (c : ℕ → ℕ) × (d : ℕ → ℕ) × Good c × Good d × Agree b c d × (c b ≡ d b → ⊥)
  unfolding free parts
  free_of b t =
      let i = any_of _ choices t in
      let j = any_of _ choices i.2 in
      let q = both_of j.2 in (
        listed_as i.0,
        listed_as j.0,
        standing_good i.0 i.1,
        standing_good j.0 j.1,
        λ x h. eqb-true _ _ (all_of _ b q.0 x h),
        eqb-false _ _ (not-true _ q.1),
      )

  free_yes : (c d : ℕ → ℕ) → Good c → Good d → (b : ℕ) → b < n → Agree b c d → (c b ≡ d b → ⊥) → free b ≡ true
  unfolding free parts
  free_yes c d g g' b h a s =
      let i = standing c g in
      let j = standing d g' in
      any_yes _ choices i.0 i.1
      (any_yes _ choices j.0 j.1
      (both_yes
      (all_yes _ b (λ x o. eq-eqb _ _ (sym (i.2 x (omega arith)) ∙ a x o ∙ j.2 x (omega arith))))
      (ap not (ne_eqb _ _ (λ e. s (i.2 b h ∙ e ∙ sym (j.2 b h)))))))

  led : Led n Good free
  led =
      record {
        side = λ c g b h t. let q = free_of b t in side c q.0 q.1 g q.2 q.3 b h q.5;
        forced = λ c d g g' b h f a. cases (eq_or (c b) (d b)) (λ e. e) (λ s. true_false (free_yes c d g g' b h a s) f);
      }

  -- how many ways there are to give sides to the free lines below k
  ways_yes : (k : ℕ) → free k ≡ true → 2 ^ count free (suc k) ≡ 2 ^ count free k * 2
  ways_yes k t = ap (λ (x : ℕ). 2 ^ x) (count_yes free k t) ∙ pow-suc 2 (count free k)

  ways_no : (k : ℕ) → free k ≡ false → 2 ^ count free (suc k) ≡ 2 ^ count free k
  ways_no k f = ap (λ (x : ℕ). 2 ^ x) (count_no free k f)

  ways_none : 2 ^ count free 0 ≡ 1
  ways_none = ap (λ (x : ℕ). 2 ^ x) (count_zero free) ∙ pow-zero 2

  bounded : (c : ℕ → ℕ) → Good c → (k : ℕ) → k ≤ n → value free c k < 2 ^ count free k
  bounded c g zero h = omega (arith, value_none free c, ways_none)
  bounded c g (suc k) h =
      let v = bounded c g k (omega arith) in
      cases (bool (free k))
      (λ t. omega (arith, value_lead free c k t, ways_yes k t, led.side c g k h t))
      (λ f. omega (arith, value_rest free c k f, ways_no k f))

  -- .. and each of them is that of a good choice
  met : (k : ℕ) → k ≤ n → (v : ℕ) → v < 2 ^ count free k → (c : ℕ → ℕ) × Good c × (value free c k ≡ v)
  met zero h v o = let c = list.ends.1 in (c, listed_good n Good list.ends.2, omega (arith, value_none free c, ways_none))
  met (suc k) h v o =
      cases (bool (free k)) (λ t. given t (met k (omega arith) (v / 2) (omega (arith, ways_yes k t))))
      (λ f. let q = met k (omega arith) v (omega (arith, ways_no k f)) in (q.0, q.1, value_rest free q.0 k f ∙ q.2))
    where
      given : free k ≡ true → (c : ℕ → ℕ) × Good c × (value free c k ≡ v / 2) → (c : ℕ → ℕ) × Good c × (value free c (suc k) ≡ v)
      given t q =
          let c = q.0 in
          let w = free_of k t in
          let d = turn c w.0 w.1 in
          let alike = value_agree free d c k (λ x l. turn_keeps c w.0 w.1 x (w.4 x l)) in
          cases (eq_or (c k) (v % 2))
          (λ e. (c, q.1, omega (arith, value_lead free c k t, q.2)))
          (λ s.
          let s' : c k ≢ v % 2 = s in
          (d, turned c w.0 w.1 q.1 w.2 w.3, omega (arith, value_lead free d k t, alike, q.2, turn_turns c w.0 w.1 k w.5, led.side c q.1 k h t)))

  -- The place of a choice is what its free lines read.

  first_reads : (c : ℕ → ℕ) → First n Good c → value free c n ≡ 0
  first_reads c f =
      let q = met n (omega arith) 0 (omega (arith, bounded c f.good n (omega arith))) in
      cases (f.least q.0 q.1)
      (λ a. value_agree free c q.0 n a ∙ q.2)
      (λ l. absurd (omega (arith, q.2, up n Good free led c q.0 f.good q.1 l)))

  next_reads : (c d : ℕ → ℕ) → Good c → Next n Good c d → value free d n ≡ suc (value free c n)
  next_reads c d g f =
      let over = up n Good free led c d g f.good f.after in
      let q = met n (omega arith) (suc (value free c n)) (omega (arith, bounded d f.good n (omega arith))) in
      cases (f.least q.0 q.1 (by_rank n Good free led c q.0 g q.1 (omega (arith, q.2))))
      (λ a. value_agree free d q.0 n a ∙ q.2)
      (λ l. absurd (omega (arith, q.2, up n Good free led d q.0 f.good q.1 l)))

  pub place_reads : {k : ℕ} {c : ℕ → ℕ} → Listed n Good k c → value free c n ≡ k
  place_reads (start {c} f) = first_reads c f
  place_reads (more {c = c} {d = d} l f) = next_reads c d (listed_good n Good l) f ∙ ap suc (place_reads l)

  pub power_of_two : suc list.ends.0 ≡ 2 ^ count free n
  power_of_two =
      let c = list.ends.1 in
      let l = list.ends.2 in
      let g = listed_good n Good l in
      let k = place_reads l in
      cases (lt_or (suc list.ends.0) (2 ^ count free n))
      (λ h.
      let q = met n (omega arith) (suc list.ends.0) h in
      absurd (list.ends.3 q.0 q.1 (by_rank n Good free led c q.0 g q.1 (omega (arith, q.2)))))
      (λ h. omega (arith, bounded c g n (omega arith)))

-- Proper choices are so: each of their rules makes two lines alike or unlike.

module _ (S : Tree) (c d e : ℕ → ℕ) (p : Proper S c) (q : Proper S d) (r : Proper S e) where
  turn_alike : (b b' : ℕ) → c b ≡ c b' → d b ≡ d b' → e b ≡ e b' → turn c d e b ≡ turn c d e b'
  unfolding turn
  turn_alike b b' x y z = rw (x, y, z) refl

  turn_bit : (b : ℕ) → BackLine S b → turn c d e b ≤ 1
  turn_bit b l =
      let h = p.aligned.legal.bits b l in
      cases (eq_or (d b) (e b)) (λ s. omega (arith, turn_keeps c d e b s)) (λ s. omega (arith, turn_turns c d e b s))

  turn_unlike : (b b' : ℕ) → BackLine S b → BackLine S b' → (c b ≡ c b' → ⊥) → (d b ≡ d b' → ⊥) → (e b ≡ e b' → ⊥) → turn c d e b ≡ turn c d e b' → ⊥
  turn_unlike b b' l l' x y z same =
      let x' : c b ≢ c b' = x in
      let y' : d b ≢ d b' = y in
      let z' : e b ≢ e b' = z in
      let bc = p.aligned.legal.bits in
      let bd = q.aligned.legal.bits in
      let be = r.aligned.legal.bits in
      cases (eq_or (d b) (e b))
      (λ s. omega (arith, turn_keeps c d e b s, turn_keeps c d e b' (omega (arith, bd b l, bd b' l', be b l, be b' l'))))
      (λ s.
      let s' : d b ≢ e b = s in
      omega (arith, bc b l, bc b' l', turn_turns c d e b s, turn_turns c d e b' (λ t. omega (arith, bd b l, bd b' l', be b l, be b' l'))))

  pub turn_proper : Proper S (turn c d e)
  turn_proper =
      record {
        no_side = λ k h f. turn_keeps c d e k (q.no_side k h f ∙ sym (r.no_side k h f)) ∙ p.no_side k h f;
        aligned =
            record {
              legal =
                  record {
                    bits = turn_bit;
                    same = λ f g b b' k x y.
                        turn_alike b b' (p.aligned.legal.same f g b b' k x y) (q.aligned.legal.same f g b b' k x y) (r.aligned.legal.same f g b b' k x y);
                    other = λ f g b b' k x y.
                        turn_unlike b b' x.return.is_back y.return.is_back (p.aligned.legal.other f g b b' k x y) (q.aligned.legal.other f g b b' k x y)
                        (r.aligned.legal.other f g b b' k x y);
                  };
              lined = λ t b b' k x y. turn_alike b b' (p.aligned.lined t b b' k x y) (q.aligned.lined t b b' k x y) (r.aligned.lined t b b' k x y);
            };
      }

  pub parting_side : (b : ℕ) → b < S.lines → (d b ≡ e b → ⊥) → c b ≤ 1
  parting_side b h s =
      cases (bool (backb S b)) (λ t. omega (arith, p.aligned.legal.bits b (back_of S b h t))) (λ f. absurd (s (q.no_side b h f ∙ sym (r.no_side b h f))))
