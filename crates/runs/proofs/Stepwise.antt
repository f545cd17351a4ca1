-- Step for step, what the calls leave is what the order of choices calls first and next; and the other way round, each step of the list of choices
-- is one that the calls' statements allow, in a buffer that has just the bytes of the choice.
use mathlib.Core.List.{List, [], ◌∷◌}
use mathlib.Core.Logic.{inl, inr}
use mathlib.Core.Path.{◌≡◌, refl, sym, ap, ◌∙◌}
use Prim.Native.Nat.{ℕ, zero, suc, ◌/◌, ◌≤◌}
use native.Mathlib.Omega.{arith}
use lib.ListN.{length, get_or-eq_default}
use borrow.Author.Tests.{ltb-false}
use Rattle.laws.specs.Checks.{Check}
use Rattle.laws.specs.Lists.{at, Agree, Kept}
use Rattle.laws.specs.Dictionary.{First, Next, Last, Listed, start, more}
use Rattle.laws.proofs.Tests.{either_neither}
use Rattle.laws.proofs.Dictionary.{agree_sym, before_same, first_agree}
use Rattle.network.specs.Network.{network}
use Rattle.network.specs.Numbers.{refused, done, Untouched, triple, Accepted}
use Rattle.network.specs.Numbers.{Answer}
use Rattle.tree.specs.Tree.{Tree}
use Rattle.search.specs.Machine.{tree_in}
use Rattle.search.specs.Orient.{back_lines}
use Rattle.choice.specs.Choice.{Drawable, Proper, Outdone}
use Rattle.choice.specs.Calls.{cramped_first, Chosen, Ringed, FirstChoice, cramped_next, Stepped, NextChoice}
use Rattle.runs.specs.Listing.{FirstSays, NextSays, Steps}
use Rattle.runs.proofs.Granted.{passed, proper_agree}
use Rattle.runs.proofs.Outcomes.{first_by, next_by, next_nine_by}
use Rattle.runs.proofs.Enumerating.{next_agree}

-- What the calls leave

pub with_number : {r r' : Answer} → r ≡ r' → r.number ≡ r'.number
with_number e = ap (λ (y : Answer). y.number) e

module _ (n : ℕ) (ends : List ℕ) where
  abbrev S : Tree
  S = tree_in (network n ends)

  -- first choice says 0 of accepted networks that have a legal choice
  pub first_zero : {choice lines kinds c l k : List ℕ} {r : Answer} → FirstChoice n ends choice lines kinds r c l k → r.number ≡ 0
      → Accepted n ends × Drawable S × First (length ends / 2) (Proper S) (at c) × (length ends / 2 ≤ length c)
  unfolding cramped_first
  first_zero {choice} {lines} {kinds} {c} {l} {k} {r} f z =
      let q = passed n ends (λ j some (u : Untouched (triple choice lines kinds) r (triple c l k) j). absurd (omega (arith, with_number u.answers))) f in
      let room = ltb-false (length choice) (length ends / 2) (either_neither q.1).0 in
      let x = go room q.2 in
      (q.0, x.0, x.1, x.2)
    where
      go : length ends / 2 ≤ length choice → Check (Drawable S) (Chosen (network n ends) choice lines kinds r c l k) (Ringed (network n ends) choice lines kinds r c l k)
          → Drawable S × First (length ends / 2) (Proper S) (at c) × (length ends / 2 ≤ length c)
      go h (inl (d, x)) = (d, x.first, omega (arith, x.rest.long))
      go h (inr (_, x)) = absurd (omega (arith, with_number x.answers))

  next_zero : {c d : List ℕ} {r : Answer} → NextChoice n ends c r d → r.number ≡ 0 → Next (length ends / 2) (Proper S) (at c) (at d) × (length ends / 2 ≤ length d)
  unfolding cramped_next
  next_zero {c} {d} {r} f z =
      let q = passed n ends (λ j some (u : Untouched c r d j). absurd (omega (arith, with_number u.answers))) f in
      go (ltb-false (length c) (length ends / 2) q.1) q.2
    where
      go : length ends / 2 ≤ length c → Check (Proper S (at c)) (Check (Outdone S (at c)) (Stepped (network n ends) c r d) (Untouched c r d 9)) (Untouched c r d 8)
          → Next (length ends / 2) (Proper S) (at c) (at d) × (length ends / 2 ≤ length d)
      go h (inl (_, inl (_, x))) = (x.next, omega (arith, x.rest.long))
      go h (inl (_, inr (_, u))) = absurd (omega (arith, with_number u.answers))
      go h (inr (_, u)) = absurd (omega (arith, with_number u.answers))

  pub steps_listed : {k : ℕ} {held : ℕ → List ℕ} → Steps n ends k held → (j : ℕ) → j ≤ k
      → Listed (length ends / 2) (Proper S) j (at (held j)) × (length ends / 2 ≤ length (held j))
  steps_listed s zero h = let q = first_zero s.begins.6 s.begins.7 in (start q.2, q.3)
  steps_listed s (suc j) h =
      let f = s.goes_on j h in
      let q = next_zero f.1 f.2 in
      (more (steps_listed s j (omega arith)).0 q.0, q.1)

-- A buffer with the bytes of a choice

unfoldable bytes : ℕ → (ℕ → ℕ) → List ℕ
bytes zero c = []
bytes (suc m) c = c 0 ∷ bytes m (λ b. c (suc b))

bytes_long : (m : ℕ) (c : ℕ → ℕ) → length (bytes m c) ≡ m
unfolding bytes
bytes_long zero c = refl
bytes_long (suc m) c = ap suc (bytes_long m (λ b. c (suc b)))

bytes_at : (m : ℕ) (c : ℕ → ℕ) → Agree m c (at (bytes m c))
unfolding bytes
bytes_at zero c b h = absurd (omega arith)
bytes_at (suc m) c zero h = refl
bytes_at (suc m) c (suc b) h = bytes_at m (λ b. c (suc b)) b (omega arith)

bytes_kept : (m : ℕ) (c d : ℕ → ℕ) → Kept m (bytes m c) (bytes m d)
bytes_kept m c d =
    record {
      long = bytes_long m d ∙ sym (bytes_long m c);
      past = λ j h.
          get_or-eq_default (bytes m d) 0 {n = j} (omega (arith, bytes_long m d))
          ∙ sym (get_or-eq_default (bytes m c) 0 {n = j} (omega (arith, bytes_long m c)));
    }

-- Each step of the list of choices is one that the calls may take.

module _ (n : ℕ) (ends : List ℕ) (a : Accepted n ends) where
  pub buffer : (ℕ → ℕ) → List ℕ
  buffer c = bytes (length ends / 2) c

  room : (c : ℕ → ℕ) → length ends / 2 ≤ length (buffer c)
  unfolding buffer
  room c = omega (arith, bytes_long (length ends / 2) c)

  holds : (c : ℕ → ℕ) → Agree (length ends / 2) c (at (buffer c))
  unfolding buffer
  holds c = bytes_at (length ends / 2) c

  kept : (c d : ℕ → ℕ) → Kept (length ends / 2) (buffer c) (buffer d)
  unfolding buffer
  kept c d = bytes_kept (length ends / 2) c d

  holds_proper : (c : ℕ → ℕ) → Proper (tree_in (network n ends)) c → Proper (tree_in (network n ends)) (at (buffer c))
  holds_proper c = proper_agree (tree_in (network n ends)) c (at (buffer c)) (holds c)

  pub may_begin : (c : ℕ → ℕ) → First (length ends / 2) (Proper (tree_in (network n ends))) c → FirstSays n ends 0 (buffer c)
  may_begin c f =
      let b = buffer c in
      let p = holds_proper c f.good in
      let r = done (back_lines (network n ends)) 0 in (
        b,
        b,
        b,
        b,
        b,
        r,
        first_by n ends a b b b (room c) (room c) (room c) r b b b (at b, p.aligned.legal)
            (record {
              answers = refl;
              first = first_agree (length ends / 2) (Proper (tree_in (network n ends))) c (at b) f p (holds c);
              rest = kept c c;
              same_lines = refl;
              same_kinds = refl;
            }),
        refl,
      )

  pub may_go_on : (c d : ℕ → ℕ) → Proper (tree_in (network n ends)) c → Next (length ends / 2) (Proper (tree_in (network n ends))) c d → NextSays n ends (buffer c) 0 (buffer d)
  may_go_on c d p f =
      let r = done (back_lines (network n ends)) 0 in
      let x = next_agree (length ends / 2) (Proper (tree_in (network n ends))) c (at (buffer c)) d (at (buffer d)) (holds c) (holds d) (holds_proper d f.good) f in (
        r,
        next_by n ends a (buffer c) (room c) r (buffer d) (holds_proper c p) (at (buffer d), x.good, x.after) (record { answers = refl; next = x; rest = kept c d }),
        refl,
      )

  pub may_end : (c : ℕ → ℕ) → Proper (tree_in (network n ends)) c → Last (length ends / 2) (Proper (tree_in (network n ends))) c → NextSays n ends (buffer c) 9 (buffer c)
  may_end c p l =
      let m = length ends / 2 in (
        refused 9,
        next_nine_by n ends a (buffer c) (room c) (refused 9) (buffer c) (holds_proper c p)
            (λ o. l o.0 o.1 (before_same m (at (buffer c)) c o.0 o.0 (agree_sym m c (at (buffer c)) (holds c)) (λ b h. refl) o.2))
            (record { answers = refl; same = refl }),
        refl,
      )
