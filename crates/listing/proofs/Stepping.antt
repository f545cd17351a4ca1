-- What the loop over the choices has put: a text that, with any text of the choices still to come, is the text of them all. Each turn adds the line of the
-- choice at hand; then next choice says whether there is another.
use mathlib.Core.Bool.{not}
use mathlib.Core.List.{List, [], ◌∷◌, ◌++◌, append_assoc}
use mathlib.Core.Logic.{◌⊎◌, inl, inr}
use mathlib.Core.Path.{◌≡◌, sym, ◌∙◌, ap, subst}
use Prim.Native.Nat.{ℕ, suc, ◌+◌, ◌-◌, ◌*◌, ◌≤◌, ◌<◌}
use native.Mathlib.Omega.{arith}
use borrow.Author.Tests.{eq-eqb, ne_eqb}
use lib.ListN.{length, length-append}
use lib.Seq.{sets, length-sets}
use Rattle.laws.specs.Checks.{Check}
use Rattle.laws.specs.Lists.{upto, at}
use Rattle.laws.specs.Dictionary.{Next}
use Rattle.laws.proofs.Cases.{cases, bool}
use Rattle.laws.proofs.Lists.{all_map, from_all}
use Rattle.laws.proofs.Gathering.{gather_same}
use Rattle.network.specs.Network.{Network, network}
use Rattle.network.specs.Numbers.{Answer}
use Rattle.network.specs.Numbers.{Untouched}
use Rattle.network.proofs.Checks.{sized}
use Rattle.tree.specs.Returns.{backb}
use Rattle.search.specs.Machine.{tree_in}
use Rattle.fork.proofs.Rule.{back_of}
use Rattle.side.specs.Sides.{none}
use Rattle.choice.specs.Choice.{Proper, Outdone}
use Rattle.choice.specs.Calls.{Stepped, NextChoice}
use Rattle.runs.proofs.Outcomes.{next_says}
use Rattle.listing.specs.Page.{answer_line, side_digits, choice_line, ChoiceLines}
use Rattle.listing.specs.declared.pieces.Page.{Page}
use Rattle.listing.specs.Inside.{Put, has_side, Listable, PutChoices}
use Rattle.listing.proofs.Putting.{put_more, answer_long, line_short}

-- At a proper choice the lines with a side are the back lines.
module _ (net : Network) (c : List ℕ) (p : Proper (tree_in net) (at c)) where
  sided : (k : ℕ) → k < net.lines → has_side c k ≡ backb (tree_in net) k
  sided k h =
      cases (bool (backb (tree_in net) k))
      (λ t. let l = p.aligned.legal.bits k (back_of (tree_in net) k h t) in ap not (ne_eqb (at c k) none (λ e. omega (arith, l))) ∙ sym t)
      (λ f. ap not (eq-eqb (at c k) none (p.no_side k h f)) ∙ sym f)

  pub line_same : choice_line (has_side c) net.lines (at c) ≡ choice_line (backb (tree_in net)) net.lines (at c)
  line_same =
      ap (λ (x : List ℕ). x ++ (10 ∷ []))
      (gather_same (side_digits (has_side c) (at c)) (side_digits (backb (tree_in net)) (at c)) (upto net.lines)
      (all_map _ _ (upto net.lines) (λ k h. rw (sided k (omega (arith, h)))) (from_all 0 net.lines)))

-- After some turns of the 64: the choice at hand is proper, and what was put lacks only a text of the choices from it on.
pub record Stepping (net : Network) (first old : List ℕ) (place : ℕ) (c out : List ℕ) (to turns : ℕ) : Type 0 where
  pub text : List ℕ
  pub so_far : Put old place text to out
  pub room : length text + (64 - turns) * 4097 ≤ 262208
  pub long : length c ≡ net.lines
  pub proper : Proper (tree_in net) (at c)
  pub rest : (t : List ℕ) → ChoiceLines net (64 - turns) c t → ChoiceLines net 64 first (text ++ t)

module _ (n : ℕ) (ends first : List ℕ) (page : Page) (w : Listable n ends first page.bytes) (low : page.count ≤ 11) where
  abbrev old : List ℕ
  old = page.bytes

  abbrev place : ℕ
  place = page.count

  abbrev net : Network
  net = network n ends

  few_lines : net.lines ≤ 2048
  few_lines = omega (arith, (sized n (length ends) w.showable.accepted.sized).2)

  module _ (c out : List ℕ) (to turns : ℕ) (s : Stepping net first old place c out to turns) where
    out_long : length out ≡ 262222
    out_long = ap length s.so_far.put ∙ length-sets old place s.text ∙ w.showable.roomy

    pub line_fits : turns < 64 → (length out ≡ 262222) × (to + (2 * length c + 1) ≤ 262222)
    line_fits h = (out_long, omega (arith, s.so_far.after, s.room, s.long, few_lines))

    pub answer_fits : (length out ≡ 262222) × (to + 3 ≤ 262222)
    answer_fits = (out_long, omega (arith, s.so_far.after, s.room))

    -- the end: no choice more
    pub no_more : 64 ≤ turns → {page' : Page} → Put out to (answer_line 0) page'.count page'.bytes → PutChoices n ends first page page'
    no_more h {page' = page'} q =
        let z : 64 - turns ≡ 0 = omega arith in
        let all = put_more old place s.text to out s.so_far (answer_line 0) page'.count page'.bytes q.after q.put in
        record {
          text = s.text ++ answer_line 0;
          choices = s.rest (answer_line 0) (rw z (ChoiceLines.no_more_room));
          fits = omega (arith, all.after, q.after, answer_fits.1, w.showable.roomy, out_long, answer_long 0);
          put = all;
        }

    -- a turn: the line of the choice at hand is put, and next choice is asked
    module _ (more : turns < 64) (r : ℕ) (mid : List ℕ) (q : Put out to (choice_line (has_side c) (length c) (at c)) r mid) (answer : Answer) (d : List ℕ) (x : NextChoice n ends c answer d) where
      abbrev line : List ℕ
      line = choice_line (backb (tree_in net)) net.lines (at c)

      is_line : choice_line (has_side c) (length c) (at c) ≡ line
      is_line = rw s.long (line_same net c s.proper)

      put_line : Put old place (s.text ++ line) r mid
      put_line = put_more old place s.text to out s.so_far line r mid (subst (λ (y : List ℕ). r ≡ to + length y) is_line q.after) (subst (λ (y : List ℕ). mid ≡ sets out to y) is_line q.put)

      mid_long : length mid ≡ 262222
      mid_long = ap length q.put ∙ length-sets out to (choice_line (has_side c) (length c) (at c)) ∙ out_long

      line_few : length line ≤ 4097
      line_few = omega (arith, ap length is_line, line_short c, s.long, few_lines)

      -- it steps, or it says 9
      abbrev Outcome : Type 0
      Outcome = ((answer.number ≡ 0) × (length d ≡ net.lines) × Next net.lines (Proper (tree_in net)) (at c) (at d)) ⊎ ((answer.number ≡ 9) × (length d ≡ net.lines) × (Outdone (tree_in net) (at c) → ⊥))

      outcome : Outcome
      outcome = go (next_says n ends w.showable.accepted c (omega (arith, s.long)) answer d x)
        where
          go : Check (Proper (tree_in net) (at c)) (Check (Outdone (tree_in net) (at c)) (Stepped net c answer d) (Untouched c answer d 9)) (Untouched c answer d 8) → Outcome
          go (inl (_, inl (_, y))) = inl (ap (λ (z : Answer). z.number) y.answers, y.rest.long ∙ s.long, y.next)
          go (inl (_, inr (e, y))) = inr (ap (λ (z : Answer). z.number) y.answers, ap length y.same ∙ s.long, e)
          go (inr (e, y)) = absurd (e s.proper)

      pub stepping_more : answer.number ≡ 0 → Stepping net first old place d mid r (turns + 1)
      stepping_more z = go outcome
        where
          go : Outcome → Stepping net first old place d mid r (turns + 1)
          go (inl (_, l, y)) =
              let one : suc (64 - (turns + 1)) ≡ 64 - turns = omega arith in
              record {
                text = s.text ++ line;
                so_far = put_line;
                room = omega (arith, length-append s.text line, line_few, s.room);
                long = l;
                proper = y.good;
                rest = λ t u.
                    subst (λ (v : List ℕ). ChoiceLines net 64 first v) (sym (append_assoc s.text line t))
                    (s.rest (line ++ t) (subst (λ k. ChoiceLines net k c (line ++ t)) one (ChoiceLines.more l y u)));
              }
          go (inr (e, _, _)) = absurd (omega (arith, e, z))

      pub last_fits : (length mid ≡ 262222) × (r + 3 ≤ 262222)
      last_fits = (mid_long, omega (arith, put_line.after, length-append s.text line, line_few, s.room))

      pub ended : (k : ℕ) → answer.number ≡ k → (k ≡ 0 → ⊥) → {page' : Page} → Put mid r (answer_line k) page'.count page'.bytes → PutChoices n ends first page page'
      ended k is z {page' = page'} y = go outcome
        where
          go : Outcome → PutChoices n ends first page page'
          go (inl (e, _, _)) = absurd (z (sym is ∙ e))
          go (inr (e, _, none_later)) =
              let one : suc (64 - (turns + 1)) ≡ 64 - turns = omega arith in
              let text = (s.text ++ line) ++ answer_line 9 in
              let y' : Put mid r (answer_line 9) page'.count page'.bytes = subst (λ k. Put mid r (answer_line k) page'.count page'.bytes) (sym is ∙ e) y in
              let all = put_more old place (s.text ++ line) r mid put_line (answer_line 9) page'.count page'.bytes y'.after y'.put in
              record {
                text = text;
                choices = subst (λ (v : List ℕ). ChoiceLines net 64 first v) (sym (append_assoc s.text line (answer_line 9)))
                    (s.rest (line ++ answer_line 9) (subst (λ k. ChoiceLines net k c (line ++ answer_line 9)) one (ChoiceLines.last none_later)));
                fits = omega (arith, all.after, y'.after, answer_long 9, last_fits.1, mid_long, w.showable.roomy);
                put = all;
              }
