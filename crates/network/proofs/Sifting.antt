-- What passed checks 2 to 5 can be searched; and the checks of a call, put together from those that its code has made.
use mathlib.Core.Bool.{Bool, true, false}
use mathlib.Core.List.{List}
use mathlib.Core.Logic.{inl, inr}
use mathlib.Core.Path.{◌≡◌, refl, sym, ap, ◌∙◌}
use Prim.Native.Nat.{ℕ, ◌≤◌, ◌<◌}
use native.Mathlib.Omega.{arith}
use lib.ListN.{length}
use Rattle.laws.specs.Tests.{either}
use Rattle.laws.specs.Checks.{Check}
use Rattle.laws.proofs.Cases.{cases, true_false, false_when}
use Rattle.laws.proofs.Checks.{check_once}
use Rattle.laws.proofs.Tests.{either_first, either_of}
use Rattle.network.specs.Network.{network, Connected}
use Rattle.network.specs.Numbers.{refused, Untouched, triple, pair, oversize, odd, astray, mispaired, Formed, Checked, Sifted}
use Rattle.network.specs.Inside.{Fit}
use Rattle.network.specs.Numbers.{Answer}
use Rattle.network.proofs.Checks.{sized, even, none_astray}
use Rattle.network.proofs.Pairs.{none_looped, loop_yes}

pub fit_when : (n : ℕ) (ends : List ℕ) → oversize n (length ends) ≡ false → odd (length ends) ≡ false → astray n ends ≡ false → mispaired ends ≡ false → Fit (network n ends)
fit_when n ends two three four five =
    let s = sized n (length ends) two in
    let e = even (length ends) three in
    record {
      some_vertex = s.0;
      few_vertices = s.1;
      few_lines = omega (arith, s.2);
      ends_long = e;
      ends_in = λ i h. none_astray n ends four i (omega arith);
      apart = λ k h z. true_false (loop_yes ends k z) (none_looped ends five k h);
    }

-- The sifted number

pub sift_fit : (n : ℕ) (ends : List ℕ) (r : ℕ) → Sifted n ends r → r ≡ 0 → Fit (network n ends)
sift_fit n ends r (inl (t, z)) e = absurd (omega arith)
sift_fit n ends r (inr (two, inl (t, z))) e = absurd (omega arith)
sift_fit n ends r (inr (two, inr (three, inl (t, z)))) e = absurd (omega arith)
sift_fit n ends r (inr (two, inr (three, inr (four, inl (t, z))))) e = absurd (omega arith)
sift_fit n ends r (inr (two, inr (three, inr (four, inr (five, z))))) e = fit_when n ends (false_when _ two) (false_when _ three) (false_when _ four) (false_when _ five)

no_short : (b : Bool) → either b false ≡ true → b ≡ true
no_short b t = cases (either_of t) (λ x. x) (λ x. true_false x refl)

-- what is refused by 2 to 5 is refused so by the checks of a call that lends nothing
pub sift_refused : (n : ℕ) (ends : List ℕ) (r : ℕ) → Sifted n ends r → (r ≡ 0 → ⊥) → (R : ℕ → Type 0) (G : Type 0) → R r → Checked n ends false R G
sift_refused n ends r (inl (t, z)) d R G a = inl (t, subst_number z a)
  where
    subst_number : {j : ℕ} → r ≡ j → R r → R j
    subst_number e x = rw e at x
sift_refused n ends r (inr (two, inl (t, z))) d R G a = inr (two, inl (either_first _ _ t, rw z at a))
sift_refused n ends r (inr (two, inr (three, inl (t, z)))) d R G a = inr (two, inr (λ x. three (no_short _ x), inl (t, rw z at a)))
sift_refused n ends r (inr (two, inr (three, inr (four, inl (t, z))))) d R G a = inr (two, inr (λ x. three (no_short _ x), inr (four, inl (t, rw z at a))))
sift_refused n ends r (inr (two, inr (three, inr (four, inr (five, z))))) d R G a = absurd (d z)

-- where none of them applies, 6 decides
pub sift_connected : (n : ℕ) (ends : List ℕ) (r : ℕ) → Sifted n ends r → r ≡ 0 → (R : ℕ → Type 0) (G : Type 0) → Check (Connected (network n ends)) G (R 6) → Checked n ends false R G
sift_connected n ends r (inl (t, z)) e R G a = absurd (omega arith)
sift_connected n ends r (inr (two, inl (t, z))) e R G a = absurd (omega arith)
sift_connected n ends r (inr (two, inr (three, inl (t, z)))) e R G a = absurd (omega arith)
sift_connected n ends r (inr (two, inr (three, inr (four, inl (t, z))))) e R G a = absurd (omega arith)
sift_connected n ends r (inr (two, inr (three, inr (four, inr (five, z))))) e R G a = inr (two, inr (λ x. three (no_short _ x), inr (four, inr (five, a))))

-- The checks of a call

module _ (n : ℕ) (ends : List ℕ) (short : Bool) (R : ℕ → Type 0) (G : Type 0) where
  pub refuse_2 : oversize n (length ends) ≡ true → R 2 → Checked n ends short R G
  refuse_2 t a = inl (t, a)

  pub refuse_3 : oversize n (length ends) ≡ false → either (odd (length ends)) short ≡ true → R 3 → Checked n ends short R G
  refuse_3 two t a = inr (λ x. true_false x two, inl (t, a))

  -- .. and the rest, where nothing is odd or short
  pub refuse_rest : either (odd (length ends)) short ≡ false → {R' : ℕ → Type 0} {G' : Type 0} → Checked n ends false R' G' → ((k : ℕ) → 0 < k → R' k → R k) → (G' → G) → Checked n ends short R G
  refuse_rest three (inl (t, a)) f g = inl (t, f 2 (omega arith) a)
  refuse_rest three (inr (two, inl (t, a))) f g = true_false (either_first _ _ (no_short _ t)) three
  refuse_rest three (inr (two, inr (odd, inl (t, a)))) f g = inr (two, inr (λ x. true_false x three, inl (t, f 4 (omega arith) a)))
  refuse_rest three (inr (two, inr (odd, inr (four, inl (t, a))))) f g = inr (two, inr (λ x. true_false x three, inr (four, inl (t, f 5 (omega arith) a))))
  refuse_rest three (inr (two, inr (odd, inr (four, inr (five, inl (c, a)))))) f g = inr (two, inr (λ x. true_false x three, inr (four, inr (five, inl (c, g a)))))
  refuse_rest three (inr (two, inr (odd, inr (four, inr (five, inr (c, a)))))) f g = inr (two, inr (λ x. true_false x three, inr (four, inr (five, inr (c, f 6 (omega arith) a)))))

-- other things may be said of the refusals and of what is granted
pub formed_map : (n : ℕ) (ends : List ℕ) {R : ℕ → Type 0} {G : Type 0} → Formed n ends R G → (R' : ℕ → Type 0) (G' : Type 0)
    → ((k : ℕ) → 0 < k → R k → R' k) → (G → G') → Formed n ends R' G'
formed_map n ends (inl (p, a)) R' G' f g = inl (p, f 4 (omega arith) a)
formed_map n ends (inr (p, inl (q, a))) R' G' f g = inr (p, inl (q, f 5 (omega arith) a))
formed_map n ends (inr (p, inr (q, inl (c, a)))) R' G' f g = inr (p, inr (q, inl (c, g a)))
formed_map n ends (inr (p, inr (q, inr (c, a)))) R' G' f g = inr (p, inr (q, inr (c, f 6 (omega arith) a)))

pub checked_map : (n : ℕ) (ends : List ℕ) (short : Bool) {R : ℕ → Type 0} {G : Type 0} → Checked n ends short R G → (R' : ℕ → Type 0) (G' : Type 0)
    → ((k : ℕ) → 0 < k → R k → R' k) → (G → G') → Checked n ends short R' G'
checked_map n ends short (inl (p, a)) R' G' f g = inl (p, f 2 (omega arith) a)
checked_map n ends short (inr (p, inl (q, a))) R' G' f g = inr (p, inl (q, f 3 (omega arith) a))
checked_map n ends short (inr (p, inr (q, a))) R' G' f g = inr (p, inr (q, formed_map n ends a R' G' f g))

-- What follows from each refusal, and from what is granted to a well-formed network, follows.
pub checked_elim : (n : ℕ) (ends : List ℕ) (short : Bool) (R : ℕ → Type 0) (G : Type 0) {C : Type 0} → Checked n ends short R G → ((k : ℕ) → 0 < k → k ≤ 6 → R k → C)
    → (Fit (network n ends) → Connected (network n ends) → G → C) → C
checked_elim n ends short R G (inl (t, a)) f g = f 2 (omega arith) (omega arith) a
checked_elim n ends short R G (inr (two, inl (t, a))) f g = f 3 (omega arith) (omega arith) a
checked_elim n ends short R G (inr (two, inr (three, inl (t, a)))) f g = f 4 (omega arith) (omega arith) a
checked_elim n ends short R G (inr (two, inr (three, inr (four, inl (t, a))))) f g = f 5 (omega arith) (omega arith) a
checked_elim n ends short R G (inr (two, inr (three, inr (four, inr (five, inl (c, a)))))) f g =
    g (fit_when n ends (false_when _ two) (false_when _ (λ t. three (either_first _ _ t))) (false_when _ four) (false_when _ five)) c a
checked_elim n ends short R G (inr (two, inr (three, inr (four, inr (five, inr (c, a)))))) f g = f 6 (omega arith) (omega arith) a

-- Two results of the same checks agree, where two like outcomes do.
pub checked_once : (n : ℕ) (ends : List ℕ) (short : Bool) {R R' : ℕ → Type 0} {G G' C : Type 0} → ((k : ℕ) → R k → R' k → C) → (G → G' → C)
    → Checked n ends short R G → Checked n ends short R' G' → C
checked_once n ends short f g = check_once (f 2) (check_once (f 3) (check_once (f 4) (check_once (f 5) (check_once g (f 6)))))

-- A refusal leaves what was lent as it is; and two refusals by one number, with what they leave, are equal.
pub untouched : {A : Type 0} {lent : A} {r : Answer} {k : ℕ} → r ≡ refused k → Untouched lent r lent k
untouched e = record { answers = e; same = refl }

pub untouched_once : {A : Type 0} {lent a b : A} {r s : Answer} (k : ℕ) → Untouched lent r a k → Untouched lent s b k → (r ≡ s) × (a ≡ b)
untouched_once k p q = (p.answers ∙ sym q.answers, p.same ∙ sym q.same)

-- .. two buffers, or three, one by one
pub two_untouched_once : {a b c d e f : List ℕ} {r s : Answer} (k : ℕ) → Untouched (pair a b) r (pair c d) k → Untouched (pair a b) s (pair e f) k
    → (r ≡ s) × (c ≡ e) × (d ≡ f)
two_untouched_once k p q =
    let (answer, left) = untouched_once k p q in
    (answer, ap (λ (x : List ℕ × List ℕ). x.0) left, ap (λ (x : List ℕ × List ℕ). x.1) left)

pub three_untouched_once : {a b c d e f x y z : List ℕ} {r s : Answer} (k : ℕ) → Untouched (triple a b c) r (triple d e f) k → Untouched (triple a b c) s (triple x y z) k
    → (r ≡ s) × (d ≡ x) × (e ≡ y) × (f ≡ z)
three_untouched_once k p q =
    let (answer, left) = untouched_once k p q in
    (answer, ap (λ (x : List ℕ × List ℕ × List ℕ). x.0) left, ap (λ (x : List ℕ × List ℕ × List ℕ). x.1) left, ap (λ (x : List ℕ × List ℕ × List ℕ). x.2) left)
