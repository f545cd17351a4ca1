-- From a conflict to a ring: the chain from d to b and the step from b back to d are a circle, of which that step alone does not agree with the
-- parities; and between different lines the steps are constraints taken in.
use mathlib.Core.Bool.{Bool, true, false}
use mathlib.Core.List.{List}
use mathlib.Core.Logic.{inl, inr}
use mathlib.Core.Path.{◌≡◌, sym, ◌∙◌, ap}
use Prim.Native.Nat.{ℕ, suc, ◌+◌, ◌-◌, ◌%◌, ◌≤◌, ◌<◌}
use native.Mathlib.Omega.{arith}
use borrow.Author.Tests.{eq-eqb, ne_eqb}
use Rattle.laws.specs.Lists.{at}
use Rattle.laws.proofs.Cases.{cases, eq_or, lt_or}
use Rattle.groups.specs.Constraints.{Constraints, Between, More, Sided}
use Rattle.groups.specs.Groups.{Tables, Grouped}
use Rattle.groups.proofs.Ways.{way_append, way_turn}
use Rattle.rings.specs.Flooding.{SimpleWay}
use Rattle.rings.specs.Rings.{Noted, Torn, LowestPlace, wrap, kind_of, spot_of, link_of, Upward, TracedLines, TracedKinds, Shown}
use Rattle.rings.specs.Ring.{Ring}
use Rattle.rings.proofs.Rings.{ring_map, ring_agree}
use Rattle.rings.proofs.Circles.{wrap_low, wrap_high, Hop, Circle, up_ring, down_ring}

kind_last : (parity line : ℕ → ℕ) (n k i : ℕ) → suc i ≡ n → kind_of parity line n k i ≡ k
unfolding kind_of
kind_last parity line n k i e = rw (eq-eqb (suc i) n e)

kind_step : (parity line : ℕ → ℕ) (n k i : ℕ) → (suc i ≡ n → ⊥) → kind_of parity line n k i ≡ (parity (line i) + parity (line (suc i))) % 2
unfolding kind_of
kind_step parity line n k i e = rw (ne_eqb (suc i) n e)

module _ (lines b d k : ℕ) (t : Tables) where
  abbrev Links : Constraints
  Links = Between (Noted lines t b d k)

  abbrev parity : ℕ → ℕ
  parity = t.parity

  turned : (u v z : ℕ) → Links u v z → Links v u z
  turned u v z l = cases l inr inl

  module _ (torn : Torn lines t b d k) (n : ℕ) (line : ℕ → ℕ) (c : SimpleWay lines b d t n line) where
    kind : ℕ → ℕ
    kind = kind_of parity line n k

    two : 2 ≤ n
    two =
        cases (lt_or n 2)
        (λ h. absurd (torn.apart (sym (c.last 0 (omega (arith, c.some))) ∙ c.first)))
        (λ h. h)

    hop_home : (i : ℕ) → suc i ≡ n → Hop Links parity (n - 1) i (kind_of parity line n k i) (line i) (line 0)
    hop_home i h =
        let e = kind_last parity line n k i h in
        record {
          link = inl (inr (c.last i h, c.first, e));
          small = omega (arith, torn.small);
          even = λ o. absurd (o (omega arith));
          odd = λ o. rw (e, c.last i h, c.first) torn.odd;
        }

    hop_on : (i : ℕ) → suc i < n → Hop Links parity (n - 1) i (kind_of parity line n k i) (line i) (line (suc i))
    hop_on i h =
        let e = kind_step parity line n k i (λ z. omega arith) in
        record {
          link =
              cases (c.steps i h)
              (λ j. inr (inl (j, omega arith)))
              (λ j. inl (inl (j, e)));
          small = omega arith;
          even = λ o. omega arith;
          odd = λ o. absurd (omega arith);
        }

    circle : Circle Links parity n (n - 1) line (kind_of parity line n k)
    circle =
        record {
          two = two;
          within = omega (arith, two);
          apart = c.apart;
          hop = λ i h.
              cases (lt_or (suc i) n)
              (λ o. rw (wrap_low n (suc i) o) (hop_on i o))
              (λ o.
              let z : wrap n (suc i) ≡ 0 = wrap_high n (suc i) o ∙ omega arith in
              rw z (hop_home i (omega arith)));
        }

    module _ (m : ℕ) (l : LowestPlace n line m) where
      same_neighbour : n ≡ 2 → line (wrap n (m + 1)) ≡ line (wrap n (m + n - 1))
      same_neighbour e = ap (λ (x : ℕ). line (wrap n x)) (omega arith)

      up_shown : (ring ring' kinds kinds' : List ℕ) → Upward n (kind_of parity line n k m) (line (wrap n (m + 1))) (line (wrap n (m + n - 1))) true
          → TracedLines line n m true ring ring' → TracedKinds parity line n m true k kinds kinds' → Ring Links n (at ring') (at kinds')
      unfolding spot_of link_of
      up_shown ring ring' kinds kinds' u w w' =
          ring_agree Links n (λ j. line (wrap n (m + j))) (λ j. kind_of parity line n k (wrap n (m + j))) (at ring') (at kinds')
          (up_ring Links turned parity n line (kind_of parity line n k) circle m l.within l.low
          (cases (eq_or n 2) (λ e. omega (arith, same_neighbour e)) (λ o. u.1 o)) u.0)
          w.written w'.written

      down_shown : (ring ring' kinds kinds' : List ℕ) → Upward n (kind_of parity line n k m) (line (wrap n (m + 1))) (line (wrap n (m + n - 1))) false
          → TracedLines line n m false ring ring' → TracedKinds parity line n m false k kinds kinds' → Ring Links n (at ring') (at kinds')
      unfolding spot_of link_of
      down_shown ring ring' kinds kinds' u w w' =
          ring_agree Links n (λ j. line (wrap n (m + n - j))) (λ j. kind_of parity line n k (wrap n (m + n - suc j))) (at ring') (at kinds')
          (down_ring Links turned parity n line (kind_of parity line n k) circle m l.within l.low
          (cases (eq_or n 2) (λ e. omega (arith, same_neighbour e)) (λ o. u.1 o)) u.0)
          w.written w'.written

      pub shown : (up : Bool) (ring ring' kinds kinds' : List ℕ) → Upward n (kind_of parity line n k m) (line (wrap n (m + 1))) (line (wrap n (m + n - 1))) up
          → TracedLines line n m up ring ring' → TracedKinds parity line n m up k kinds kinds' → Shown lines t b d k n ring kinds ring' kinds'
      shown true ring ring' kinds kinds' u w w' =
          record { few = c.few; is_ring = up_shown ring ring' kinds kinds' u w w'; ring_rest = w.rest; kinds_rest = w'.rest }
      shown false ring ring' kinds kinds' u w w' =
          record { few = c.few; is_ring = down_shown ring ring' kinds kinds' u w w'; ring_rest = w.rest; kinds_rest = w'.rest }

-- What a conflict leaves, and what the ring shows

module _ (lines : ℕ) (back : ℕ → Bool) (P : Constraints) (t : Tables) (g : Grouped lines back P t) (b d k : ℕ) where
  pub torn : Sided lines back b → Sided lines back d → lines ≤ 2048 → k ≤ 1 → (b ≡ d → ⊥) → t.leader b ≡ t.leader d
      → (t.parity b + t.parity d + k) % 2 ≡ 1 → Torn lines t b d k
  torn hb hd few small apart together odd =
      record {
        few = few;
        first = hb.within;
        second = hd.within;
        apart = apart;
        small = small;
        odd = odd;
        inside = g.inside;
        way = way_append (way_turn (g.way b hb)) (rw (← together) at (g.way d hd));
      }

  pub ring_shown : (n : ℕ) (ring kinds ring' kinds' : List ℕ) → Shown lines t b d k n ring kinds ring' kinds'
      → Ring (Between (More P b d k)) n (at ring') (at kinds')
  ring_shown n ring kinds ring' kinds' s =
      ring_map (Between (Noted lines t b d k)) (Between (More P b d k)) n (at ring') (at kinds')
      (λ u v z o l. cases l (λ x. inl (link u v z o x)) (λ x. inr (link v u z (λ e. o (sym e)) x))) s.is_ring
    where
      link : (u v z : ℕ) → (u ≡ v → ⊥) → Noted lines t b d k u v z → More P b d k u v z
      link u v z o (inl (j, e)) =
          cases (g.taken j.place j.within)
          (λ q. absurd (o (sym j.is_from ∙ q ∙ j.is_to)))
          (λ p. inl (rw (e, ← j.is_from, ← j.is_to) p))
      link u v z o (inr e) = inr e
