-- The tests of the first, the next and the last choice say what their propositions say, both ways. A proper choice has one of two sides at each back
-- line and none elsewhere; so a test goes through all of them by going through all ways to write such sides.
use mathlib.Core.Bool.{Bool, true, false, not}
use mathlib.Core.List.{List, [], ◌∷◌, map}
use mathlib.Core.Logic.{◌⊎◌, inl, inr, ◌≢◌}
use mathlib.Core.Path.{◌≡◌, refl, sym, ap, ◌∙◌, subst}
use Prim.Native.Nat.{ℕ, zero, suc, ◌+◌, ◌≤◌}
use native.Mathlib.Omega.{arith}
use borrow.Author.Tests.{eq-eqb, eqb-true, lt-ltb, ltb-true, not-true}
use Rattle.laws.specs.Tests.{either}
use Rattle.laws.specs.Lists.{from, upto, at, Agree}
use Rattle.laws.proofs.Cases.{cases, bool, true_false, eq_or}
use Rattle.laws.proofs.Tests.{both_yes, both_of, either_first, either_second, either_of, all_of, all_yes, any_of, any_yes}
use Rattle.laws.proofs.Wherever.{implies_of, implies_yes}
use Rattle.laws.specs.Dictionary.{Before, First, Next, Last}
use Rattle.laws.proofs.Dictionary.{agree_sym, before_same}
use Rattle.side.specs.Sides.{left, right, none}
use Rattle.tree.specs.Tree.{Tree}
use Rattle.tree.specs.Returns.{backb}
use Rattle.fork.proofs.Rule.{back_of}
use Rattle.choice.specs.Choice.{Proper}
use Rattle.drawing.proofs.Walked.{at_map}
use Rattle.runs.proofs.Granted.{properb, proper_yes, proper_agree, proper_of}
use Rattle.trials.specs.Tests.{agreeb, beforeb, not_later, scan, everyb, firstb, nextb, lastb}

-- Two choices

module _ (c d : ℕ → ℕ) where
  pub agree_of : (n : ℕ) → agreeb n c d ≡ true → Agree n c d
  unfolding agreeb
  agree_of n t b h = eqb-true (c b) (d b) (all_of _ n t b h)

  agree_yes : (n : ℕ) → Agree n c d → agreeb n c d ≡ true
  unfolding agreeb
  agree_yes n a = all_yes _ n (λ b h. eq-eqb (c b) (d b) (a b h))

  before_of : (n : ℕ) → beforeb n c d ≡ true → Before n c d
  unfolding beforeb
  before_of n t =
      let q = any_of _ n t in
      let r = both_of q.2 in
      record { place = q.0; within = q.1; alike = agree_of q.0 r.0; less = ltb-true (c q.0) (d q.0) r.1 }

  before_yes : (n : ℕ) → Before n c d → beforeb n c d ≡ true
  unfolding beforeb
  before_yes n l = any_yes _ n l.place l.within (both_yes (agree_yes l.place l.alike) (lt-ltb (c l.place) (d l.place) l.less))

-- All ways to write a side where the list says true, and none where it says false

abbrev Side : Bool → ℕ → Type 0
Side true x = x ≤ right
Side false x = x ≡ none

abbrev Sides : List Bool → List ℕ → Type 0
Sides [] [] = Unit {0}
Sides [] (x ∷ l) = ⊥
Sides (b ∷ backs) [] = ⊥
Sides (b ∷ backs) (x ∷ l) = Side b x × Sides backs l

scan_of : (backs : List Bool) (test : List ℕ → Bool) → scan backs test ≡ true → (l : List ℕ) → Sides backs l → test l ≡ true
unfolding scan
scan_of [] test t [] s = t
scan_of [] test t (x ∷ l) s = absurd s
scan_of (false ∷ backs) test t [] s = absurd s
scan_of (true ∷ backs) test t [] s = absurd s
scan_of (false ∷ backs) test t (x ∷ l) s = subst (λ (y : ℕ). test (y ∷ l) ≡ true) (sym s.0) (scan_of backs (λ r. test (none ∷ r)) t l s.1)
scan_of (true ∷ backs) test t (x ∷ l) s =
    let q = both_of t in
    cases (eq_or x 0)
    (λ e. subst (λ (y : ℕ). test (y ∷ l) ≡ true) (sym e) (scan_of backs (λ r. test (left ∷ r)) q.0 l s.1))
    (λ d.
    let d' : x ≢ 0 = d in
    let e : x ≡ 1 = omega (arith, s.0) in
    subst (λ (y : ℕ). test (y ∷ l) ≡ true) (sym e) (scan_of backs (λ r. test (right ∷ r)) q.1 l s.1))

scan_yes : (backs : List Bool) (test : List ℕ → Bool) → ((l : List ℕ) → test l ≡ true) → scan backs test ≡ true
unfolding scan
scan_yes [] test f = f []
scan_yes (false ∷ backs) test f = scan_yes backs (λ l. test (none ∷ l)) (λ l. f (none ∷ l))
scan_yes (true ∷ backs) test f = both_yes (scan_yes backs (λ l. test (left ∷ l)) (λ l. f (left ∷ l))) (scan_yes backs (λ l. test (right ∷ l)) (λ l. f (right ∷ l)))

-- A choice as a list of its bytes

module _ (S : Tree) where
  bytes : (c : ℕ → ℕ) → Proper S c → (a n : ℕ) → a + n ≤ S.lines → Sides (map (backb S) (from a n)) (map c (from a n))
  unfolding from
  bytes c p a zero h = tt
  bytes c p a (suc n) h = (byte (backb S a) refl, bytes c p (suc a) n (omega arith))
    where
      byte : (t : Bool) → backb S a ≡ t → Side t (c a)
      byte true e = p.aligned.legal.bits a (back_of S a (omega arith) e)
      byte false e = p.no_side a (omega arith) e

  -- (a choice is tested by its bytes at the lines)
  every_of : (test : (ℕ → ℕ) → Bool) → everyb S test ≡ true → (c : ℕ → ℕ) → Proper S c → (d : ℕ → ℕ) × Agree S.lines d c × (test d ≡ true)
  unfolding everyb
  every_of test t c p =
      let l = map c (upto S.lines) in
      let a : Agree S.lines (at l) c = λ b h. at_map c 0 S.lines b h ∙ ap c (omega arith) in
      let s = scan_of (map (backb S) (upto S.lines)) (λ r. either (not (properb S (at r))) (test (at r))) t l (bytes c p 0 S.lines (omega arith)) in
      (at l, a, implies_of s (proper_yes S (at l) (proper_agree S c (at l) (agree_sym S.lines (at l) c a) p)))

  every_yes : (test : (ℕ → ℕ) → Bool) → ((c : ℕ → ℕ) → Proper S c → test c ≡ true) → everyb S test ≡ true
  unfolding everyb
  every_yes test f = scan_yes _ _ (λ l. implies_yes _ _ (λ t. f (at l) (proper_of S (at l) t)))

  -- First, next, last

  not_later_of : (c d e : ℕ → ℕ) → not_later S.lines c d ≡ true → Agree S.lines d e → Agree S.lines c e ⊎ Before S.lines c e
  unfolding not_later
  not_later_of c d e t a =
      cases (either_of t)
      (λ y. inl (λ b h. agree_of c d S.lines y b h ∙ a b h))
      (λ y. inr (before_same S.lines c c d e (λ b h. refl) a (before_of c d S.lines y)))

  not_later_yes : (c d : ℕ → ℕ) → Agree S.lines c d ⊎ Before S.lines c d → not_later S.lines c d ≡ true
  unfolding not_later
  not_later_yes c d s =
      cases s
      (λ a. either_first _ _ (agree_yes c d S.lines a))
      (λ l. either_second _ _ (before_yes c d S.lines l))

  pub first_of : (c : ℕ → ℕ) → firstb S c ≡ true → First S.lines (Proper S) c
  unfolding firstb
  first_of c t =
      let q = both_of t in
      record {
        good = proper_of S c q.0;
        least = λ e g. let r = every_of (not_later S.lines c) q.1 e g in not_later_of c r.0 e r.2 r.1;
      }

  pub first_yes : (c : ℕ → ℕ) → First S.lines (Proper S) c → firstb S c ≡ true
  unfolding firstb
  first_yes c f = both_yes (proper_yes S c f.good) (every_yes (not_later S.lines c) (λ e g. not_later_yes c e (f.least e g)))

  -- what comes later than c comes later also as a list of bytes
  later : (c d e : ℕ → ℕ) → Agree S.lines d e → Before S.lines c e → beforeb S.lines c d ≡ true
  later c d e a l = before_yes c d S.lines (before_same S.lines c c e d (λ b h. refl) (agree_sym S.lines d e a) l)

  pub next_of : (c d : ℕ → ℕ) → nextb S c d ≡ true → Next S.lines (Proper S) c d
  unfolding nextb
  next_of c d t =
      let q = both_of t in
      let q' = both_of q.1 in
      record {
        good = proper_of S d q.0;
        after = before_of c d S.lines q'.0;
        least = λ e g l.
            let r = every_of (λ x. either (not (beforeb S.lines c x)) (not_later S.lines d x)) q'.1 e g in
            not_later_of d r.0 e (implies_of r.2 (later c r.0 e r.1 l)) r.1;
      }

  pub next_yes : (c d : ℕ → ℕ) → Next S.lines (Proper S) c d → nextb S c d ≡ true
  unfolding nextb
  next_yes c d f =
      both_yes (proper_yes S d f.good)
      (both_yes (before_yes c d S.lines f.after)
      (every_yes _ (λ e g. implies_yes _ _ (λ t. not_later_yes d e (f.least e g (before_of c e S.lines t))))))

  pub last_of : (c : ℕ → ℕ) → lastb S c ≡ true → Last S.lines (Proper S) c
  unfolding lastb
  last_of c t e g l =
      let r = every_of (λ x. not (beforeb S.lines c x)) t e g in
      true_false (later c r.0 e r.1 l) (not-true _ r.2)

  pub last_yes : (c : ℕ → ℕ) → Last S.lines (Proper S) c → lastb S c ≡ true
  unfolding lastb
  last_yes c l = every_yes _ (λ e g. cases (bool (beforeb S.lines c e)) (λ t. absurd (l e g (before_of c e S.lines t))) (λ f. ap not f))

  -- no proper choice at all
  pub none_of : everyb S (λ c. false) ≡ true → (c : ℕ → ℕ) → Proper S c → ⊥
  none_of t c p = true_false (every_of (λ d. false) t c p).2 refl
