-- What a call says of a network that no check refuses is what it grants; and a choice is proper where a test says so.
use mathlib.Core.Bool.{Bool, true, false}
use mathlib.Core.List.{List}
use mathlib.Core.Logic.{inl, inr}
use mathlib.Core.Path.{◌≡◌, sym, ◌∙◌}
use native.Mathlib.Omega.{arith}
use Prim.Native.Nat.{ℕ, ◌/◌, ◌≤◌, ◌<◌}
use lib.Dec.{eqb}
use lib.ListN.{length}
use borrow.Author.Tests.{eq-eqb, le-ltb, eqb-true}
use Rattle.laws.specs.Tests.{both, either, all}
use Rattle.laws.specs.Lists.{Agree}
use Rattle.laws.proofs.Cases.{cases, bool, true_false, false_when}
use Rattle.laws.proofs.Tests.{both_yes, both_of, either_first, either_second, either_of, either_no, either_neither, all_of, all_yes}
use Rattle.network.specs.Network.{network}
use Rattle.network.specs.Numbers.{Checked, Accepted}
use Rattle.network.specs.Inside.{Fit}
use Rattle.network.proofs.Sifting.{fit_when}
use Rattle.tree.specs.Tree.{Tree}
use Rattle.tree.specs.Returns.{backb}
use Rattle.side.specs.Sides.{none}
use Rattle.fork.specs.Fork.{alignedb}
use Rattle.fork.proofs.Rule.{aligned_yes, aligned_of}
use Rattle.fork.proofs.Choices.{aligned_agree}
use Rattle.choice.specs.Choice.{Proper}
use Rattle.choice.specs.Calls.{cramped_first, cramped_next}

-- Networks that no check refuses

module _ (n : ℕ) (ends : List ℕ) where
  module _ (a : Accepted n ends) where
    pub fit : Fit (network n ends)
    fit = fit_when n ends a.sized a.paired_ends a.inside a.single

    module _ (short : Bool) (enough : short ≡ false) (R : ℕ → Type 0) (G : Type 0) where
      pub grant : G → Checked n ends short R G
      grant g =
          inr (
            λ t. true_false t a.sized,
            inr (
              λ t. true_false t (either_no a.paired_ends enough),
              inr (
                λ t. true_false t a.inside,
                inr (λ t. true_false t a.single, inl (a.connected, g)),
              ),
            ),
          )

      pub granted : Checked n ends short R G → G
      granted (inl (t, x)) = true_false t a.sized
      granted (inr (_, inl (t, x))) = true_false t (either_no a.paired_ends enough)
      granted (inr (_, inr (_, inl (t, x)))) = true_false t a.inside
      granted (inr (_, inr (_, inr (_, inl (t, x))))) = true_false t a.single
      granted (inr (_, inr (_, inr (_, inr (_, inl (c, g)))))) = g
      granted (inr (_, inr (_, inr (_, inr (_, inr (c, x)))))) = absurd (c a.connected)

  -- a result that is no refusal: the network is accepted, there was room, and it is what is granted
  pub passed : {short : Bool} {R : ℕ → Type 0} {G : Type 0} → ((k : ℕ) → 0 < k → R k → ⊥) → Checked n ends short R G → Accepted n ends × (short ≡ false) × G
  passed f (inl (t, x)) = absurd (f 2 (omega arith) x)
  passed f (inr (_, inl (t, x))) = absurd (f 3 (omega arith) x)
  passed f (inr (_, inr (_, inl (t, x)))) = absurd (f 4 (omega arith) x)
  passed f (inr (_, inr (_, inr (_, inl (t, x))))) = absurd (f 5 (omega arith) x)
  passed f (inr (two, inr (three, inr (four, inr (five, inl (c, g)))))) =
      let paired = either_neither (false_when _ three) in
      (record { sized = false_when _ two; paired_ends = paired.0; inside = false_when _ four; single = false_when _ five; connected = c }, paired.1, g)
  passed f (inr (_, inr (_, inr (_, inr (_, inr (c, x)))))) = absurd (f 6 (omega arith) x)

  pub room_first : (choice lines kinds : List ℕ) → length ends / 2 ≤ length choice → length ends / 2 ≤ length lines → length ends / 2 ≤ length kinds → cramped_first ends choice lines kinds ≡ false
  unfolding cramped_first
  room_first choice lines kinds h i j = either_no (le-ltb _ _ h) (either_no (le-ltb _ _ i) (le-ltb _ _ j))

  pub room_next : (choice : List ℕ) → length ends / 2 ≤ length choice → cramped_next ends choice ≡ false
  unfolding cramped_next
  room_next choice h = le-ltb _ _ h

-- Proper choices

unfoldable pub properb : Tree → (ℕ → ℕ) → Bool
properb S c = both (all (λ k. either (backb S k) (eqb (c k) none)) S.lines) (alignedb S c)

module _ (S : Tree) (c : ℕ → ℕ) where
  pub proper_of : properb S c ≡ true → Proper S c
  unfolding properb
  proper_of e =
      record {
        no_side = λ k h f. cases (either_of (all_of _ S.lines (both_of e).0 k h)) (λ t. true_false t f) (λ t. eqb-true (c k) none t);
        aligned = aligned_of S c (both_of e).1;
      }

  pub proper_yes : Proper S c → properb S c ≡ true
  unfolding properb
  proper_yes p =
      both_yes
      (all_yes _ S.lines (λ k h.
      cases (bool (backb S k)) (λ t. either_first _ _ t) (λ f. either_second _ _ (eq-eqb (c k) none (p.no_side k h f)))))
      (aligned_yes S c p.aligned)

-- what lies past the lines does not count
pub proper_agree : (S : Tree) (c d : ℕ → ℕ) → Agree S.lines c d → Proper S c → Proper S d
proper_agree S c d a p =
    record {
      no_side = λ k h f. sym (a k h) ∙ p.no_side k h f;
      aligned = aligned_agree S c d (λ b l. a b l.0.below) p.aligned;
    }
