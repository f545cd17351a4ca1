-- Taking in a constraint, as the code does it. The two looks up change the pointers and not what they stand for; then the answer goes by the two leaders
-- and the sum of the turns.
use mathlib.Core.Logic.{◌⊎◌, inl, inr, ◌≢◌}
use mathlib.Core.Path.{◌≡◌, sym, ◌∙◌}
use Prim.Native.Nat.{ℕ, ◌+◌, ◌%◌, ◌<◌, min, max}
use native.Mathlib.Omega.{arith}
use Rattle.laws.proofs.Cases.{cases, lt_or}
use Rattle.groups.specs.Groups.{Tables, pointed, Relabel, Merged}
use Rattle.groups.specs.Calls.{Alike, Joinable, LookedUp, GivenOver, Replied}
use Rattle.groups.specs.declared.Groups.{Groups}
use Rattle.groups.specs.declared.Joining.TheVariants.{Joins}
use Rattle.groups.proofs.Alike.{alike_then}

-- a group given over, of tables that agree
merged_alike : {n low high turn b d : ℕ} {t u v : Tables} → Alike n t u → Merged n low high turn b d u v → Merged n low high turn b d t v
merged_alike {n} {low} {high} {turn} {b} {d} {t} {u} {v} a m =
    record {
      groups = record {
        each = λ x h.
            let r : Relabel low high turn (u.leader x) (u.parity x) (v.leader x) (v.parity x) = m.groups.each x h in
            rw (a.leaders x h, a.parities x h) at r;
      };
      from = record { here = m.from.here; there = λ x h e. m.from.there x h e ∙ a.froms x h };
      to = record { here = m.to.here; there = λ x h e. m.to.there x h e ∙ a.tos x h };
    }

module _ (b d kind : ℕ) (g g₁ g₂ : Groups) (j : Joinable b d) (x s : ℕ) (one : LookedUp b g g₁ x s) (y t : ℕ) (two : LookedUp d g₁ g₂ y t) where
  both : Alike 2048 (pointed g) (pointed g₂)
  both = alike_then one.alike two.alike

  -- the leaders and the parities before are those of the second look up too
  second_leader : (pointed g).leader d ≡ y
  second_leader = sym (one.alike.leaders d j.second) ∙ two.leader

  second_parity : (pointed g₁).parity d ≡ (pointed g).parity d
  second_parity = one.alike.parities d j.second

  -- the higher leader may be pointed to the lower one
  module _ (low high : ℕ) (is_low : low ≡ min x y) (is_high : high ≡ max x y) (n : x ≡ y → ⊥) where
    less : low < high
    less = let n' : x ≢ y = n in omega (arith, is_low, is_high)

    who : ((low ≡ x) × (high ≡ y)) ⊎ ((low ≡ y) × (high ≡ x))
    who = cases (lt_or x y) (λ h. inl (omega (arith, is_low), omega (arith, is_high))) (λ h. inr (omega (arith, is_low), omega (arith, is_high)))

  module _ (turn : ℕ) (is_turn : turn ≡ (s + t + kind) % 2) where
    is_sum : turn ≡ ((pointed g).parity b + (pointed g).parity d + kind) % 2
    is_sum = omega (arith, is_turn, one.turned, two.turned, second_parity)

    pub joined : (low high : ℕ) → low ≡ min x y → high ≡ max x y → (x ≡ y → ⊥) → (g' : Groups) → GivenOver low high turn b d g₂ g'
        → Replied b d kind g g' Joins
    joined low high is_low is_high n g' m =
        record {
          answer = record {
            low = low;
            high = high;
            less = less low high is_low is_high n;
            who =
                cases (who low high is_low is_high n)
                (λ a. inl (one.leader ∙ sym a.0, second_leader ∙ sym a.1))
                (λ a. inr (one.leader ∙ sym a.1, second_leader ∙ sym a.0));
            merged = rw is_sum at (merged_alike both m.merged);
          };
        }
