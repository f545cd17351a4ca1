-- Loops that write a list from the front: each place below i has what it should, and the rest is as it was.
use mathlib.Core.Bool.{Bool, true, false, not}
use mathlib.Core.List.{List}
use mathlib.Core.Logic.{◌≢◌}
use mathlib.Core.Path.{◌≡◌, refl, sym, ◌∙◌}
use Prim.Native.Nat.{ℕ, zero, suc, ◌+◌, ◌-◌, ◌%◌, ◌≤◌, ◌<◌}
use native.Mathlib.Omega.{arith}
use lib.Dec.{eqb}
use lib.ListN.{length, set, length-set}
use lib.Seq.{get_or-set_same, get_or-set_other}
use borrow.Author.Tests.{eq-eqb, ne_eqb, lt-leb, le-leb, not-true}
use Rattle.laws.specs.Tests.{both, all}
use Rattle.laws.specs.Lists.{at, Past}
use Rattle.laws.proofs.Cases.{cases, eq_or, bool, true_false}
use Rattle.laws.proofs.Tests.{all_yes, all_of}
use Rattle.side.specs.Sides.{opposite}
use Rattle.side.proofs.Opposite.{opposite_left, opposite_other}
use Rattle.groups.specs.Groups.{columns, PutAt, PutBelow, Recoloured, fitb, fitsb}
use Rattle.groups.specs.Calls.{Rewritten}
use Rattle.groups.specs.declared.Groups.{Groups}

-- a store, where it is and elsewhere
pub stored : (l : List ℕ) (i v : ℕ) → i < length l → at (set l i v) i ≡ v
stored l i v h = get_or-set_same l i v 0 h

pub beside : (l : List ℕ) (i v j : ℕ) → (j ≡ i → ⊥) → at (set l i v) j ≡ at l j
beside l i v j d = get_or-set_other l i j v 0 d

pub put_at : (l : List ℕ) (v x : ℕ) → v < length l → PutAt (at l) v x (at (set l v x))
put_at l v x h = record { here = stored l v x h; there = λ b e. beside l v x b e }

pub put_below : (n : ℕ) (l : List ℕ) (v x : ℕ) → v < length l → PutBelow n (at l) v x (at (set l v x))
put_below n l v x h = record { here = stored l v x h; there = λ b k e. beside l v x b e }

pub record Filled (P : ℕ → ℕ → Type 0) (n i : ℕ) (old new : List ℕ) : Type 0 where
  pub upto : i ≤ n
  pub room : n ≤ length old
  pub long : length new ≡ length old
  pub done : (j : ℕ) → j < i → P j (at new j)
  pub rest : (j : ℕ) → i ≤ j → at new j ≡ at old j

pub filled_more : {P : ℕ → ℕ → Type 0} {n i : ℕ} {old l : List ℕ} {v : ℕ} → Filled P n i old l → i < n → P i v → Filled P n (i + 1) old (set l i v)
filled_more {P} {n} {i} {old} {l} {v} f h p =
    let p' = put_at l i v (omega (arith, f.room, f.long)) in
    record {
      upto = omega arith;
      room = f.room;
      long = omega (arith, f.long, length-set l i v);
      done = λ j o. cases (eq_or j i) (λ e. rw (e, p'.here) p) (λ d. let d' : j ≢ i = d in rw (p'.there j d) (f.done j (omega arith)));
      rest = λ j o. p'.there j (λ e. omega arith) ∙ f.rest j (omega arith);
    }

filled_all : (P : ℕ → ℕ → Type 0) (n i : ℕ) (old l : List ℕ) → Filled P n i old l → n ≤ i → (j : ℕ) → j < n → P j (at l j)
filled_all P n i old l f h j o = f.done j (omega arith)

filled_rest : (P : ℕ → ℕ → Type 0) (n i : ℕ) (old l : List ℕ) → Filled P n i old l → Past n old l
filled_rest P n i old l f j o = f.rest j (omega (arith, f.upto))

-- Turning

unfoldable pub Turns : Groups → List ℕ → ℕ → ℕ → ℕ → Type 0
Turns g old r j v = Recoloured ((columns g).leader j) ((columns g).parity j) (at old j) r v

module _ (lines b r : ℕ) (g : Groups) (old l : List ℕ) (f : Filled (Turns g old r) lines b old l) where
  pub turns_more : (v : ℕ) → b < lines → Recoloured (at g.leader b) (at g.parity b) (at l b) r v
      → Filled (Turns g old r) lines (b + 1) old (set l b v)
  unfolding Turns
  turns_more v h c = filled_more f h (rw (← f.rest b (omega arith)) c)

  pub turns_all : lines ≤ b → Rewritten lines r g old l
  unfolding Turns
  turns_all h = record { bytes = filled_all (Turns g old r) lines b old l f h; rest = filled_rest (Turns g old r) lines b old l f }

-- The pivot

-- no line from b on leads and is left
pub record Seeking (lines b : ℕ) (g : Groups) (choice : List ℕ) : Type 0 where
  pub upto : b ≤ lines
  pub above : (s : ℕ) → b ≤ s → s < lines → at g.leader s ≡ s → at choice s ≡ 0 → ⊥

-- The test of a choice

module _ (p x y : ℕ) where
  pub fit_tree : p ≡ 2 → eqb x 2 ≡ fitb p x y
  unfolding fitb
  fit_tree e = rw (eq-eqb p 2 e)

  pub fit_high : (p ≡ 2 → ⊥) → 1 < x → false ≡ fitb p x y
  unfolding fitb both
  fit_high n h = rw (ne_eqb p 2 n, lt-leb x 1 h)

  pub fit_side : (r : ℕ) → (p ≡ 2 → ⊥) → x ≤ 1 → r ≡ (y + x + p) % 2 → eqb r 0 ≡ fitb p x y
  unfolding fitb both
  fit_side r n h e = rw (e, ne_eqb p 2 n, le-leb x 1 h)

pub record Fitting (lines b : ℕ) (g : Groups) (choice : List ℕ) : Type 0 where
  pub upto : b ≤ lines
  pub fit : (j : ℕ) → j < b → fitb ((columns g).parity j) (at choice j) (at choice ((columns g).leader j)) ≡ true

module _ (lines : ℕ) (g : Groups) (choice : List ℕ) where
  module _ (b : ℕ) (s : Fitting lines b g choice) (h : b < lines) where
    module _ (r : Bool) (here : r ≡ fitb (at g.parity b) (at choice b) (at choice (at g.leader b))) where
      pub misfit : not r ≡ true → false ≡ fitsb lines (columns g).leader (columns g).parity (at choice)
      unfolding fitsb
      misfit f =
          cases (bool (all (λ j. fitb ((columns g).parity j) (at choice j) (at choice ((columns g).leader j))) lines))
          (λ t. true_false (all_of _ lines t b h) (sym here ∙ not-true r f)) sym

  pub fitting_all : (b : ℕ) → Fitting lines b g choice → lines ≤ b → true ≡ fitsb lines (columns g).leader (columns g).parity (at choice)
  unfolding fitsb
  fitting_all b s h = sym (all_yes _ lines (λ j o. s.fit j (omega arith)))

-- The opposite side is what is left of 1.
opposite_rest : (x : ℕ) → opposite x ≡ 1 - x
opposite_rest zero = sym (opposite_left zero refl)
opposite_rest (suc x) = let none : 0 ≡ 1 - suc x = omega arith in sym (opposite_other (suc x) (λ e. omega arith)) ∙ none

pub turned_over : (l p x r z : ℕ) → z ≡ opposite x → r ≤ l → l ≤ r → Recoloured l p x r z
turned_over l p x r z e h k = record { keep = λ o. absurd (omega arith); turn = λ _. e ∙ opposite_rest x; anew = λ o. absurd (omega arith) }
