-- An input has one page: two pages that the statement allows are equal, or the network has no legal choice and each shows a ring.
use mathlib.Core.List.{List, ◌++◌}
use mathlib.Core.Logic.{◌⊎◌, inl, inr}
use mathlib.Core.Path.{◌≡◌, refl, sym, ap, ◌∙◌, subst}
use Prim.Native.Nat.{ℕ}
use Rattle.laws.specs.Lists.{at}
use Rattle.laws.proofs.Checks.{check_once}
use Rattle.laws.proofs.Dictionary.{first_list, next_list}
use Rattle.network.specs.Network.{Network, network}
use Rattle.search.specs.Machine.{tree_in}
use Rattle.search.specs.Orient.{back_lines}
use Rattle.text.specs.Text.{vertices_in, ends_in}
use Rattle.text.proofs.Accepted.{formed_once}
use Rattle.tree.specs.Returns.{backb}
use Rattle.choice.specs.Choice.{Proper}
use Rattle.drawing.specs.Draw.{meshes_in}
use Rattle.listing.specs.Page.{answer_line, counts_line, choice_line, ChoiceLines, Sheet, ListPage, RingPage, Shows, Prints}

module _ (net : Network) where
  -- the choices from one on have one text
  pub choices_once : (k : ℕ) (c t u : List ℕ) → ChoiceLines net k c t → ChoiceLines net k c u → t ≡ u
  choices_once k c t u ChoiceLines.no_more_room ChoiceLines.no_more_room = refl
  choices_once k c t u (ChoiceLines.last _) (ChoiceLines.last _) = refl
  choices_once k c t u (ChoiceLines.last e) (ChoiceLines.more {d = d} _ n _) = absurd (e (at d, n.good, n.after))
  choices_once k c t u (ChoiceLines.more {d = d} _ n _) (ChoiceLines.last e) = absurd (e (at d, n.good, n.after))
  choices_once k c t u (ChoiceLines.more {k = j} {d = d} {t = t'} l n x) (ChoiceLines.more {d = e} {t = u'} l' n' y) =
      let same : e ≡ d = next_list net.lines (Proper (tree_in net)) c e d l' l n' n in
      ap (λ (z : List ℕ). choice_line (backb (tree_in net)) net.lines (at c) ++ z)
      (choices_once j d t' u' x (subst (λ (z : List ℕ). ChoiceLines net j z u') same y))

  sheet_once : (c p q : List ℕ) → Sheet net c p → Sheet net c q → p ≡ q
  sheet_once c p q =
      check_once
      (λ x y. x.2 ∙ ap (λ (z : List ℕ). counts_line (meshes_in net c) (back_lines net) ++ z) (choices_once 64 c x.0 y.0 x.1 y.1) ∙ sym y.2)
      (λ x y. x ∙ sym y)

  pub listed_once : (p q : List ℕ) → ListPage net p → ListPage net q → p ≡ q
  listed_once p q a b =
      let same : b.choice ≡ a.choice = first_list net.lines (Proper (tree_in net)) b.choice a.choice b.long a.long b.first a.first in
      sheet_once a.choice p q a.sheet (subst (λ (z : List ℕ). Sheet net z q) same b.sheet)

  pub shows_once : (p q : List ℕ) → Shows net p → Shows net q → (p ≡ q) ⊎ (RingPage net p × RingPage net q)
  shows_once p q = check_once (λ a b. inl (listed_once p q a b)) (λ a b. inr (a, b))

pub prints_once : (input p q : List ℕ) → Prints input p → Prints input q
    → (p ≡ q) ⊎ (RingPage (network (vertices_in input) (ends_in input)) p × RingPage (network (vertices_in input) (ends_in input)) q)
prints_once input p q =
    let net = network (vertices_in input) (ends_in input) in
    check_once (λ x y. inl (x ∙ sym y))
    (check_once (λ x y. inl (x ∙ sym y))
    (check_once (λ x y. inl (x ∙ sym y)) (formed_once (vertices_in input) (ends_in input) {R = λ k. p ≡ answer_line k} {R' = λ k. q ≡ answer_line k} (λ k x y. inl (x ∙ sym y)) (shows_once net p q))))
