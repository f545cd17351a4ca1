-- The statements of the calls leave no freedom but that of the ring: two results of next choice that they allow are equal, and two of first choice
-- are, or both show a ring. There is one first and one next choice, and the bytes past the lines are kept.
use mathlib.Core.List.{List}
use mathlib.Core.Logic.{◌⊎◌, inl, inr}
use mathlib.Core.Path.{◌≡◌, sym, ap, ◌∙◌}
use Prim.Native.Nat.{ℕ}
use native.Mathlib.Omega.{arith}
use lib.Seq.{ext_get_or}
use Rattle.laws.specs.Lists.{at, Agree, Kept}
use Rattle.laws.proofs.Cases.{cases, lt_or}
use Rattle.laws.proofs.Checks.{check_once}
use Rattle.laws.proofs.Dictionary.{first_once, next_once}
use Rattle.network.specs.Network.{Network, network}
use Rattle.network.specs.Numbers.{Answer}
use Rattle.network.specs.Numbers.{Untouched, triple}
use Rattle.network.proofs.Sifting.{checked_once, untouched_once, three_untouched_once}
use Rattle.search.specs.Machine.{tree_in}
use Rattle.fork.specs.Fork.{Constraint}
use Rattle.rings.specs.Ring.{Ring}
use Rattle.choice.specs.Choice.{Proper}
use Rattle.choice.specs.Calls.{cramped_first, Chosen, Ringed, FirstChoice, cramped_next, Stepped, NextChoice}

-- two buffers that were changed in their first n places, and are the same there
kept_same : (n : ℕ) (old a b : List ℕ) → Kept n old a → Kept n old b → Agree n (at a) (at b) → a ≡ b
kept_same n old a b p q e =
    ext_get_or 0 a b (omega (arith, p.long, q.long))
    (λ i h. cases (lt_or i n) (λ l. e i l) (λ g. p.past i g ∙ sym (q.past i g)))

-- Next choice

module _ (n : ℕ) (ends choice : List ℕ) (r r' : Answer) (c c' : List ℕ) where
  stepped : Stepped (network n ends) choice r c → Stepped (network n ends) choice r' c' → (r ≡ r') × (c ≡ c')
  stepped a b =
      let net = network n ends in (
        a.answers ∙ sym b.answers,
        kept_same net.lines choice c c' a.rest b.rest (next_once net.lines (Proper (tree_in net)) (at choice) (at c) (at c') a.next b.next),
      )

  pub next_choice_once : NextChoice n ends choice r c → NextChoice n ends choice r' c' → (r ≡ r') × (c ≡ c')
  next_choice_once =
      checked_once n ends (cramped_next ends choice) untouched_once
      (check_once (check_once stepped (untouched_once 9)) (untouched_once 8))

-- First choice

-- Two results with 7: the count is 0 and the choice is as it was in both, each has a ring of fork constraints, and nothing but the ring is open: where the rings are the
-- same, all is.
pub record BothRinged (net : Network) (choice : List ℕ) (r r' : Answer) (c c' l l' k k' : List ℕ) : Type 0 where
  pub number : r.number ≡ 7
  pub number' : r'.number ≡ 7
  pub count : r.count ≡ 0
  pub count' : r'.count ≡ 0
  pub same_choice : c ≡ choice
  pub same_choice' : c' ≡ choice
  pub ring : Ring (Constraint (tree_in net)) r.second (at l) (at k)
  pub ring' : Ring (Constraint (tree_in net)) r'.second (at l') (at k')
  pub rest : r.second ≡ r'.second → Agree r.second (at l) (at l') → Agree r.second (at k) (at k') → (r ≡ r') × (l ≡ l') × (k ≡ k')

-- Two results are equal in everything, or both say 7 and show a ring.
abbrev pub Alike : Network → List ℕ → Answer → Answer → List ℕ → List ℕ → List ℕ → List ℕ → List ℕ → List ℕ → Type 0
Alike net choice r r' c c' l l' k k' = ((r ≡ r') × (c ≡ c') × (l ≡ l') × (k ≡ k')) ⊎ BothRinged net choice r r' c c' l l' k k'

module _ (n : ℕ) (ends choice lines kinds : List ℕ) (r r' : Answer) (c c' l l' k k' : List ℕ) where
  untouched : (j : ℕ) → Untouched (triple choice lines kinds) r (triple c l k) j → Untouched (triple choice lines kinds) r' (triple c' l' k') j → Alike (network n ends) choice r r' c c' l l' k k'
  untouched j a b = inl (three_untouched_once j a b)

  chosen : Chosen (network n ends) choice lines kinds r c l k → Chosen (network n ends) choice lines kinds r' c' l' k' → Alike (network n ends) choice r r' c c' l l' k k'
  chosen a b =
      let net = network n ends in
      inl (
        a.answers ∙ sym b.answers,
        kept_same net.lines choice c c' a.rest b.rest (first_once net.lines (Proper (tree_in net)) (at c) (at c') a.first b.first),
        a.same_lines ∙ sym b.same_lines,
        a.same_kinds ∙ sym b.same_kinds,
      )

  ringed : Ringed (network n ends) choice lines kinds r c l k → Ringed (network n ends) choice lines kinds r' c' l' k' → Alike (network n ends) choice r r' c c' l l' k k'
  ringed a b =
      inr (record {
        number = ap (λ (x : Answer). x.number) a.answers;
        number' = ap (λ (x : Answer). x.number) b.answers;
        count = ap (λ (x : Answer). x.count) a.answers;
        count' = ap (λ (x : Answer). x.count) b.answers;
        same_choice = a.same_choice;
        same_choice' = b.same_choice;
        ring = rw (ap (λ (x : Answer). x.second) a.answers) a.ring;
        ring' = rw (ap (λ (x : Answer). x.second) b.answers) b.ring;
        rest = λ e f g.
            let x = ap (λ (y : Answer). y.second) a.answers in
            let y = ap (λ (y : Answer). y.second) b.answers in
            let same : a.size ≡ b.size = sym x ∙ e ∙ y in (
              a.answers ∙ ap (λ (z : ℕ). record { number = 7; count = 0; second = z }) same ∙ sym b.answers,
              kept_same a.size lines l l' a.lines_rest (rw same b.lines_rest) (rw x at f),
              kept_same a.size kinds k k' a.kinds_rest (rw same b.kinds_rest) (rw x at g),
            );
      })

  pub first_choice_once : FirstChoice n ends choice lines kinds r c l k → FirstChoice n ends choice lines kinds r' c' l' k' → Alike (network n ends) choice r r' c c' l l' k k'
  first_choice_once = checked_once n ends (cramped_first ends choice lines kinds) untouched (check_once chosen ringed)
