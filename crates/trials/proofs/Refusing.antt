-- A network that the checks refuse by a number: every call refuses it by that number, and so does read where it is given its text.
use mathlib.Core.Bool.{Bool, false}
use mathlib.Core.List.{List}
use mathlib.Core.Logic.{inl, inr}
use mathlib.Core.Path.{◌≡◌, refl, sym, ap, ◌∙◌, subst}
use Prim.Native.Nat.{ℕ, ◌*◌, ◌/◌, ◌<◌}
use lib.Dec.{ltb}
use lib.ListN.{get_or, length}
use Rattle.laws.specs.Checks.{Check}
use Rattle.laws.specs.Lists.{filled, at}
use Rattle.laws.proofs.Cases.{true_false}
use Rattle.laws.proofs.Tests.{either_no}
use Rattle.network.specs.Network.{Network, network}
use Rattle.network.specs.Numbers.{done, Checked, Untouched, pair, triple}
use Rattle.network.specs.Numbers.{Answer}
use Rattle.network.proofs.Sifting.{checked_once}
use Rattle.search.specs.Machine.{tree_in}
use Rattle.search.specs.Orient.{cramped, Oriented}
use Rattle.text.specs.Text.{room, text_of, vertices_in, lines_in, ends_in}
use Rattle.text.specs.Calls.{Read}
use Rattle.text.proofs.TextBack.{length_ends_in, vertices_again, ends_again, text_has_form}
use Rattle.text.proofs.Accepted.{not_odd, Took}
use Rattle.choice.specs.Choice.{Drawable, Proper, Outdone}
use Rattle.choice.specs.Calls.{cramped_first, Chosen, Ringed, cramped_next, Stepped}
use Rattle.drawing.specs.Draw.{Balanced, cramped_draw, Drew}
use Rattle.trials.specs.Answers.{Says, Refuses}

module _ (n : ℕ) (ends : List ℕ) where
  abbrev pub net : Network
  net = network n ends

  -- What the checks leave of each call's statement

  abbrev pub Firstly : List ℕ → List ℕ → List ℕ → Answer → List ℕ → List ℕ → List ℕ → Type 0
  Firstly choice lines kinds r choice' lines' kinds' =
      Check (Drawable (tree_in net)) (Chosen net choice lines kinds r choice' lines' kinds') (Ringed net choice lines kinds r choice' lines' kinds')

  abbrev pub Nextly : List ℕ → Answer → List ℕ → Type 0
  Nextly choice r choice' =
      Check (Proper (tree_in net) (at choice)) (Check (Outdone (tree_in net) (at choice)) (Stepped net choice r choice') (Untouched choice r choice' 9)) (Untouched choice r choice' 8)

  abbrev pub Drawn : List ℕ → List ℕ → List ℕ → List ℕ → Answer → List ℕ → List ℕ → List ℕ → Type 0
  Drawn choice order mesh sizes r order' mesh' sizes' =
      Check (Proper (tree_in net) (at choice))
      (Check (Balanced net choice) (Drew net choice order mesh sizes r order' mesh' sizes') (Untouched (triple order mesh sizes) r (triple order' mesh' sizes') 10))
      (Untouched (triple order mesh sizes) r (triple order' mesh' sizes') 8)

  -- What read checks of a text that says a network is what the other calls check of the network.
  read_checked : (text buffer : List ℕ) (r : Answer) (buffer' : List ℕ) → Says n ends text → ltb (length buffer) (length ends) ≡ false → Read text buffer r buffer'
      → Checked n ends false (Untouched buffer r buffer') (Took text buffer r buffer')
  read_checked text buffer r buffer' says roomy x =
      subst (λ (l : List ℕ). Checked n l false (Untouched buffer r buffer') (Took text buffer r buffer')) says.its_ends
      (subst (λ (k : ℕ). Checked k (ends_in text) false (Untouched buffer r buffer') (Took text buffer r buffer')) says.its_vertices (go x))
    where
      long : length (ends_in text) ≡ 2 * lines_in text
      long = length_ends_in text

      enough : ltb (length buffer) (2 * lines_in text) ≡ false
      enough = ap (ltb (length buffer)) (sym long ∙ ap length says.its_ends) ∙ roomy

      go : Read text buffer r buffer' → Checked (vertices_in text) (ends_in text) false (Untouched buffer r buffer') (Took text buffer r buffer')
      go (inl (t, a)) = true_false says.form t
      go (inr (_, inl (t, a))) = inl (rw long t, a)
      go (inr (_, inr (two, inl (t, a)))) = true_false t enough
      go (inr (_, inr (two, inr (three, y)))) =
          inr (λ t. two (rw long at t), inr (λ t. true_false t (either_no (not_odd (length (ends_in text)) (lines_in text) long) refl), y))

  -- (there is such a text, where four digits hold each number: the one that is written)
  pub text_says : (m : ℕ) → length ends ≡ 2 * m → m < 65536 → n < 65536 → ((i : ℕ) → i < length ends → get_or ends i 0 < 65536) → Says n ends (text_of n ends)
  text_says m even few small within =
      record { form = text_has_form n m ends even few; its_vertices = vertices_again n m ends even few small; its_ends = ends_again n m ends even few within }

  -- .. and by that number

  module _ (k : ℕ) (h : Checked n ends false (λ j. j ≡ k) ⊥) where
    refused_so : (short : Bool) (R : ℕ → Type 0) (G : Type 0) → short ≡ false → Checked n ends short R G → R k
    refused_so short R G e x = checked_once n ends false {R = λ j. j ≡ k} {R' = R} (λ j a b. subst R a b) (λ a b. absurd a) h (subst (λ (s : Bool). Checked n ends s R G) e x)

    pub refuses : Refuses n ends k
    refuses =
        record {
          orient = λ kinds heights kinds' heights' r room x.
              (refused_so (cramped n ends kinds heights) (Untouched (pair kinds heights) r (pair kinds' heights')) (Oriented net kinds heights r kinds' heights') room x).answers;
          first = λ choice lines kinds choice' lines' kinds' r room x.
              (refused_so (cramped_first ends choice lines kinds) (Untouched (triple choice lines kinds) r (triple choice' lines' kinds')) (Firstly choice lines kinds r choice' lines' kinds') room x).answers;
          next = λ choice choice' r room x. (refused_so (cramped_next ends choice) (Untouched choice r choice') (Nextly choice r choice') room x).answers;
          draw = λ choice order mesh sizes order' mesh' sizes' r room x.
              (refused_so (cramped_draw (length ends / 2) (length choice) (length order) (length mesh) (length sizes)) (Untouched (triple order mesh sizes) r (triple order' mesh' sizes'))
              (Drawn choice order mesh sizes r order' mesh' sizes') room x).answers;
          read = λ text buffer buffer' r says roomy x.
              (refused_so false (Untouched buffer r buffer') (Took text buffer r buffer') refl (read_checked text buffer r buffer' says roomy x)).answers;
          write = λ text text' r roomy x.
              (refused_so (ltb (length text) (room (length ends / 2))) (Untouched text r text')
              ((r ≡ done (room (length ends / 2)) 0) × (text' ≡ filled (room (length ends / 2)) (text_of n ends) text)) roomy x).answers;
        }
