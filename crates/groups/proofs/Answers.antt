-- What the functions' answers mean: the groups at the start; the first choice; the next one, or none.
use mathlib.Core.Bool.{Bool, true, false}
use mathlib.Core.List.{List}
use mathlib.Core.Path.{◌≡◌, sym, ◌∙◌}
use Prim.Native.Nat.{ℕ, ◌≤◌, ◌<◌}
use native.Mathlib.Omega.{arith}
use lib.ListN.{length}
use Rattle.laws.specs.Lists.{at, Agree}
use Rattle.laws.specs.Dictionary.{First, Next, Last}
use Rattle.laws.proofs.Dictionary.{first_agree}
use Rattle.groups.specs.Constraints.{Constraints, Satisfies}
use Rattle.groups.specs.Groups.{columns, pointed, Grouped}
use Rattle.groups.specs.Calls.{Started, Reading, Copied, Advanced, Stuck}
use Rattle.groups.specs.declared.Groups.{Groups}
use Rattle.groups.proofs.Grouped.{None, grouped_none}
use Rattle.groups.proofs.Choosing.{parity_first, parity_obeys, turned_next, no_pivot_last}

-- The start

pub grouped_start : (lines : ℕ) (back : ℕ → Bool) (kinds : List ℕ) (g : Groups)
    → ((b : ℕ) → b < lines → back b ≡ true → at kinds b ≡ 1) → ((b : ℕ) → b < lines → back b ≡ false → at kinds b ≡ 1 → ⊥)
    → Started lines kinds g → Grouped lines back None (pointed g)
grouped_start lines back kinds g yes' no' s =
    grouped_none lines back (pointed g)
    (record {
      alone = λ b h. (s.leaders b h, s.froms b h, s.tos b h);
      backs = λ b h e. (s.parities b h).back (yes' b h e);
      trees = λ b h e. (s.parities b h).other (no' b h e);
    })

-- The choices

module _ (lines : ℕ) (back : ℕ → Bool) (P : Constraints) (g : Groups) (s : Grouped lines back P (columns g)) where
  pub reading : (choice : List ℕ) → lines ≤ 2048 → lines ≤ length choice → Reading lines g choice
  reading choice few h =
      record { few = few; bytes = h; inside = λ x o. omega (arith, s.low x o) }

  obeys_agree : (c d : ℕ → ℕ) → Agree lines d c → Satisfies lines back P c → Satisfies lines back P d
  obeys_agree c d a o =
      record {
        tree = λ b h f. a b h ∙ o.tree b h f;
        side = λ b h. omega (arith, a b h.within, o.side b h);
        kept = λ b e k p. let q = s.ends b e k p in omega (arith, a b q.0.within, a e q.1.within, o.kept b e k p);
      }

  pub copied_first : (choice choice' : List ℕ) → Copied lines g choice choice' → First lines (Satisfies lines back P) (at choice')
  copied_first choice choice' c =
      first_agree lines (Satisfies lines back P) (columns g).parity (at choice') (parity_first lines back P (columns g) s)
      (obeys_agree (columns g).parity (at choice') c.bytes (parity_obeys lines back P (columns g) s))
      (λ b h. sym (c.bytes b h))

  module _ (choice choice' : List ℕ) (o : Satisfies lines back P (at choice)) where
    pub advanced_next : Advanced lines g choice choice' → Next lines (Satisfies lines back P) (at choice) (at choice')
    advanced_next a = turned_next lines back P (columns g) s (at choice) (at choice') a.pivot o a.highest a.turned.bytes

    pub stuck_last : Stuck lines g choice choice' → Last lines (Satisfies lines back P) (at choice)
    stuck_last q = no_pivot_last lines back P (columns g) s (at choice) o q.none
