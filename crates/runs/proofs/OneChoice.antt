-- A network without back lines has one choice, with no side in it: first choice gives it, and next choice says 9 of it. Every line is a tree line, so
-- that all groups of forks are empty and there is nothing to line up.
use mathlib.Core.Bool.{not}
use mathlib.Core.List.{List}
use mathlib.Core.Logic.{inl, inr}
use mathlib.Core.Path.{◌≡◌, refl, ◌∙◌, ap}
use Prim.Native.Nat.{ℕ, zero, suc, ◌/◌, ◌≤◌}
use native.Mathlib.Omega.{arith}
use lib.ListN.{length}
use Rattle.laws.specs.Checks.{Check}
use Rattle.laws.specs.Lists.{at, Agree}
use Rattle.laws.specs.Dictionary.{Before}
use Rattle.laws.proofs.Cases.{cases, bool}
use Rattle.laws.proofs.Counting.{count_split}
use Rattle.laws.proofs.Orbits.{count_below}
use Rattle.network.specs.Network.{network}
use Rattle.network.specs.Numbers.{refused, done, Accepted}
use Rattle.network.specs.Numbers.{Answer}
use Rattle.tree.specs.Tree.{Tree}
use Rattle.tree.specs.Words.{BackLine}
use Rattle.search.specs.Machine.{tree_in}
use Rattle.search.specs.Orient.{back_lines}
use Rattle.search.proofs.Grows.{tree_lines, backs_counted}
use Rattle.side.specs.Sides.{none}
use Rattle.fork.proofs.Rule.{back_of}
use Rattle.choice.specs.Choice.{Drawable, Proper}
use Rattle.choice.specs.Calls.{Chosen, Ringed, FirstChoice, NextChoice}
use Rattle.runs.specs.Listing.{Run}
use Rattle.runs.proofs.Granted.{fit}
use Rattle.runs.proofs.Outcomes.{first_says, next_last}
use Rattle.runs.proofs.Listed.{every_run_is_complete}

module _ (n : ℕ) (ends : List ℕ) (a : Accepted n ends) (no_backs : back_lines (network n ends) ≡ 0) where
  abbrev S : Tree
  S = tree_in (network n ends)

  -- a choice with no side in it
  abbrev Bare : (ℕ → ℕ) → Type 0
  Bare c = Agree (length ends / 2) c (λ b. none)

  none_back : (b : ℕ) → BackLine S b → ⊥
  none_back b l =
      let f = fit n ends a in
      let some = count_below (λ k. not (S.tree k)) b (length ends / 2) l.0.below (ap not l.1) in
      omega (arith, some, no_backs, tree_lines (network n ends) f a.connected, backs_counted (network n ends) f a.connected, count_split S.tree (length ends / 2))

  bare_proper : (c : ℕ → ℕ) → Bare c → Proper S c
  bare_proper c e =
      record {
        no_side = λ k h f. e k h;
        aligned =
            record {
              legal =
                  record {
                    bits = λ b l. absurd (none_back b l);
                    same = λ f g b d k p q. absurd (none_back b p.return.is_back);
                    other = λ f g b d k p q. absurd (none_back b p.return.is_back);
                  };
              lined = λ t b d k p q. absurd (none_back b p.return.is_back);
            };
      }

  proper_bare : (c : ℕ → ℕ) → Proper S c → Bare c
  proper_bare c p b h = p.no_side b h (cases (bool _) (λ t. absurd (none_back b (back_of S b h t))) (λ f. f))

  one_bare : (c d : ℕ → ℕ) → Bare c → Bare d → Before (length ends / 2) c d → ⊥
  one_bare c d p q l = omega (arith, l.less, p l.place l.within, q l.place l.within)

  pub first_gives_it : (choice lines kinds : List ℕ) → length ends / 2 ≤ length choice → length ends / 2 ≤ length lines → length ends / 2 ≤ length kinds
      → (r : Answer) (c l k : List ℕ) → FirstChoice n ends choice lines kinds r c l k → (r ≡ done 0 0) × Bare (at c)
  first_gives_it choice lines kinds h i j r c l k f = go (first_says n ends a choice lines kinds h i j r c l k f)
    where
      go : Check (Drawable S) (Chosen (network n ends) choice lines kinds r c l k) (Ringed (network n ends) choice lines kinds r c l k) → (r ≡ done 0 0) × Bare (at c)
      go (inl (_, x)) = (x.answers ∙ ap (λ (b : ℕ). done b 0) no_backs, proper_bare (at c) x.first.good)
      go (inr (e, _)) = absurd (e (λ b. none, (bare_proper (λ b. none) (λ b o. refl)).aligned.legal))

  pub then_nine : (c : List ℕ) → length ends / 2 ≤ length c → Bare (at c) → (r : Answer) (d : List ℕ) → NextChoice n ends c r d → (r ≡ refused 9) × (d ≡ c)
  then_nine c h e r d f =
      let u = next_last n ends a c h r d (bare_proper (at c) e) (λ o. one_bare (at c) o.0 e (proper_bare o.0 o.1) o.2) f in
      (u.answers, u.same)

  -- so a run is over where it begins
  pub one_choice : (last : ℕ) (held : ℕ → List ℕ) → Run n ends last held → last ≡ 0
  one_choice zero held run = refl
  one_choice (suc last) held run =
      let w = every_run_is_complete n ends (suc last) held run in
      absurd (one_bare (at (held 0)) (at (held (suc last)))
      (proper_bare (at (held 0)) (w.proper 0 (omega arith)))
      (proper_bare (at (held (suc last))) (w.proper (suc last) (omega arith)))
      (w.rising 0 (suc last) (omega arith) (omega arith)))
