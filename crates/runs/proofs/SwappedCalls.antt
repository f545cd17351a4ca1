-- Swapping the ends of lines changes nothing that orient, first choice and next choice answer, nor the clockwise order: each call makes the same checks
-- and goes by the same tree. (The numbers of the meshes may change: they go by the directions of lines.)
use mathlib.Core.Bool.{Bool, true}
use mathlib.Core.List.{List}
use mathlib.Core.Logic.{◌⊎◌, inl, inr}
use mathlib.Core.Path.{◌≡◌, sym, ap, ◌∙◌, subst}
use Prim.Native.Nat.{ℕ, ◌+◌, ◌*◌, ◌/◌, ◌%◌, ◌≤◌, ◌<◌}
use native.Mathlib.Omega.{arith}
use lib.Dec.{leb}
use lib.ListN.{get_or, length, take}
use borrow.Author.Tests.{eqb-true}
use Rattle.laws.specs.Checks.{Check}
use Rattle.laws.specs.Counting.{many}
use Rattle.laws.specs.Lists.{at, filled, Kept}
use Rattle.laws.specs.Dictionary.{First, Next}
use Rattle.laws.specs.Tests.{either}
use Rattle.laws.proofs.Cases.{cases, false_when, lt_or}
use Rattle.laws.proofs.Checks.{check_map}
use Rattle.laws.proofs.Tests.{either_first, either_second, either_of, any_of, any_yes}
use Rattle.network.specs.Network.{network, network_of, first, second, joins, Connected}
use Rattle.network.specs.Numbers.{done, oversize, odd, astray, looped, doubled, mispaired, Checked, Untouched, pair, triple}
use Rattle.network.specs.Inside.{Fit}
use Rattle.network.specs.Marks.{back}
use Rattle.network.specs.Numbers.{Answer}
use Rattle.network.proofs.Checks.{even}
use Rattle.network.proofs.Pairs.{loop_yes}
use Rattle.network.proofs.Lines.{joins_turn}
use Rattle.network.proofs.Sifting.{fit_when, checked_elim}
use Rattle.tree.specs.Tree.{Tree}
use Rattle.search.specs.Machine.{State, finished, tree_in}
use Rattle.search.specs.Orient.{Orient, Oriented, cramped, back_lines}
use Rattle.fork.specs.Fork.{Constraint}
use Rattle.rings.specs.Ring.{Ring}
use Rattle.choice.specs.Choice.{Drawable, Proper, Outdone}
use Rattle.choice.specs.Calls.{FirstChoice, cramped_first, Chosen, Ringed, NextChoice, cramped_next, Stepped}
use Rattle.clockwise.specs.Order.{order_at, flat}
use Rattle.drawing.specs.Draw.{Draw, clockwise_in, cramped_draw, Balanced, Drew}
use Rattle.runs.proofs.Swapped.{SameLine, Swapped, line_back, joins_same, connected_same, finished_same, tree_same}

-- Checks

-- 4, line by line: an end of line k is no vertex
abbrev Astray : ℕ → List ℕ → ℕ → Type 0
Astray n ends k = (leb n (first ends k) ≡ true) ⊎ (leb n (second ends k) ≡ true)

astray_line : (n : ℕ) (ends : List ℕ) → length ends ≡ 2 * (length ends / 2) → astray n ends ≡ true → (k : ℕ) × (k < length ends / 2) × Astray n ends k
unfolding astray
astray_line n ends e t =
    let (i, l, far) = any_of _ (length ends) t in
    cases (lt_or (i % 2) 1)
    (λ z. let is : i ≡ 2 * (i / 2) = omega arith in (i / 2, omega arith, inl (subst (λ (j : ℕ). leb n (get_or ends j 0) ≡ true) is far)))
    (λ z. let is : i ≡ 2 * (i / 2) + 1 = omega arith in (i / 2, omega arith, inr (subst (λ (j : ℕ). leb n (get_or ends j 0) ≡ true) is far)))

line_astray : (n : ℕ) (ends : List ℕ) (k : ℕ) → k < length ends / 2 → Astray n ends k → astray n ends ≡ true
unfolding astray
line_astray n ends k l (inl t) = any_yes _ (length ends) (2 * k) (omega arith) t
line_astray n ends k l (inr t) = any_yes _ (length ends) (2 * k + 1) (omega arith) t

module _ (n : ℕ) (ends ends' : List ℕ) (w : Swapped ends ends') where
  astray_same : length ends ≡ 2 * (length ends / 2) → astray n ends ≡ true → astray n ends' ≡ true
  astray_same e t =
      let (k, l, far) = astray_line n ends e t in
      line_astray n ends' k (omega (arith, w.long))
      (cases (w.each k l)
      (λ x. cases far (λ q. inl (rw x.0 at q)) (λ q. inr (rw x.1 at q)))
      (λ x. cases far (λ q. inr (rw x.0 at q)) (λ q. inl (rw x.1 at q))))

  looped_same : (k : ℕ) → k < length ends / 2 → looped ends k ≡ true → looped ends' k ≡ true
  unfolding looped
  looped_same k l t =
      let e = eqb-true (first ends k) (second ends k) t in
      loop_yes ends' k (cases (w.each k l) (λ x. sym x.0 ∙ e ∙ x.1) (λ x. sym x.1 ∙ sym e ∙ x.0))

  pair_same : (k j : ℕ) → SameLine ends ends' k → joins ends' j (first ends k) (second ends k) ≡ true → joins ends' j (first ends' k) (second ends' k) ≡ true
  pair_same k j (inl (a, b)) t = rw (← a, ← b) t
  pair_same k j (inr (a, b)) t = joins_turn ends' (second ends' k) (first ends' k) j (rw (← a, ← b) t)

  doubled_same : (k : ℕ) → k < length ends / 2 → doubled ends k ≡ true → doubled ends' k ≡ true
  unfolding doubled
  doubled_same k l t =
      let (j, b, q) = any_of _ k t in
      any_yes _ k j b (pair_same k j (w.each k l) (joins_same ends ends' j (first ends k) (second ends k) (w.each j (omega arith)) q))

  mispaired_same : mispaired ends ≡ true → mispaired ends' ≡ true
  unfolding mispaired
  mispaired_same t =
      let (k, l, q) = any_of _ (length ends / 2) t in
      any_yes _ (length ends' / 2) k (omega (arith, w.long))
      (cases (either_of q) (λ p. either_first _ _ (looped_same k l p)) (λ p. either_second _ _ (doubled_same k l p)))

  joined_same : Connected (network n ends) → Connected (network n ends')
  joined_same c = subst (λ (l : ℕ). Connected (network_of n (l / 2) ends')) w.long (connected_same n (length ends / 2) ends ends' w.each c)

pub swapped_back : (ends ends' : List ℕ) → Swapped ends ends' → Swapped ends' ends
swapped_back ends ends' w = record { long = sym w.long; each = λ k h. line_back ends ends' k (w.each k (omega (arith, w.long))) }

-- what draw writes where it says 0
drew_order : (n : ℕ) (ends choice order mesh sizes : List ℕ) (r : Answer) (o m s : List ℕ) → Draw n ends choice order mesh sizes r o m s → r.number ≡ 0
    → Fit (network n ends) × Connected (network n ends) × (o ≡ filled (2 * (length ends / 2)) (flat n (clockwise_in (network n ends) choice)) order)
drew_order n ends choice order mesh sizes r o m s d z =
    let net = network n ends in
    checked_elim n ends (cramped_draw (length ends / 2) (length choice) (length order) (length mesh) (length sizes)) (Untouched (triple order mesh sizes) r (triple o m s))
    (Check (Proper (tree_in net) (at choice)) (Check (Balanced net choice) (Drew net choice order mesh sizes r o m s) (Untouched (triple order mesh sizes) r (triple o m s) 10)) (Untouched (triple order mesh sizes) r (triple o m s) 8)) d
    (λ k some few u. absurd (refuses k u some))
    (λ fit c g. cases g (λ p. cases p.1 (λ b. (fit, c, b.1.the_order)) (λ b. absurd (refuses 10 b.1 (omega arith)))) (λ p. absurd (refuses 8 p.1 (omega arith))))
  where
    refuses : (k : ℕ) → Untouched (triple order mesh sizes) r (triple o m s) k → 0 < k → ⊥
    refuses k u h = let y : r.number ≡ k = ap (λ (a : Answer). a.number) u.answers in omega arith

module _ (n : ℕ) (ends ends' : List ℕ) (w : Swapped ends ends') where
  checked_same : (short short' : Bool) (R : ℕ → Type 0) {G G' : Type 0} → short ≡ short' → (Fit (network n ends) → Connected (network n ends) → G → G')
      → Checked n ends short R G → Checked n ends' short' R G'
  checked_same short short' R rooms grant =
      let back = swapped_back ends ends' w in
      let over = ap (λ (l : ℕ). oversize n l) w.long in
      let unpaired = ap (λ (l : ℕ). either (odd l) short) w.long ∙ ap (either (odd (length ends'))) rooms in
      check_map (λ t. sym over ∙ t) (λ t. over ∙ t) (λ t a. a)
      (λ two.
      check_map (λ t. sym unpaired ∙ t) (λ t. unpaired ∙ t) (λ t a. a)
      (λ three.
      let no_odd = false_when (odd (length ends)) (λ o. three (either_first _ _ o)) in
      let pairs = even (length ends) no_odd in
      check_map (astray_same n ends ends' w pairs) (astray_same n ends' ends back (omega (arith, w.long, pairs))) (λ t a. a)
      (λ four.
      check_map (mispaired_same n ends ends' w) (mispaired_same n ends' ends back) (λ t a. a)
      (λ five.
      check_map (joined_same n ends ends' w) (joined_same n ends' ends back)
      (λ c g. grant (fit_when n ends (false_when _ two) no_odd (false_when _ four) (false_when _ five)) c g) (λ d a. a)))))

  -- The search

  module _ (fit : Fit (network n ends)) where
    finished_swapped : finished (network n ends) ≡ finished (network n ends')
    finished_swapped = finished_same n (length ends / 2) ends ends' w.each fit ∙ ap (λ (l : ℕ). finished (network_of n (l / 2) ends')) w.long

    back_lines_swapped : back_lines (network n ends) ≡ back_lines (network n ends')
    unfolding back_lines
    back_lines_swapped =
        ap (λ (s : State). many back (take (length ends / 2) s.kind)) finished_swapped
        ∙ ap (λ (l : ℕ). many back (take (l / 2) (finished (network n ends')).kind)) w.long

    pub tree_swapped : Connected (network n ends) → tree_in (network n ends) ≡ tree_in (network n ends')
    tree_swapped c = tree_same n (length ends / 2) ends ends' w.each fit c w.long ∙ ap (λ (l : ℕ). tree_in (network_of n (l / 2) ends')) w.long

  -- The calls

  pub orient_swapped : (ks hs : List ℕ) (r : Answer) (ks' hs' : List ℕ) → Orient n ends ks hs r ks' hs' → Orient n ends' ks hs r ks' hs'
  orient_swapped ks hs r ks' hs' =
      checked_same (cramped n ends ks hs) (cramped n ends' ks hs) (Untouched (pair ks hs) r (pair ks' hs')) (unfold cramped in rw w.long) oriented
    where
      oriented : Fit (network n ends) → Connected (network n ends) → Oriented (network n ends) ks hs r ks' hs' → Oriented (network n ends') ks hs r ks' hs'
      oriented fit c g =
          let s = finished_swapped fit in
          record {
            answers = g.answers ∙ ap (λ (k : ℕ). done k 0) (back_lines_swapped fit);
            each_kind = g.each_kind ∙ ap (λ (t : State). filled (length ends / 2) t.kind ks) s ∙ ap (λ (l : ℕ). filled (l / 2) (finished (network n ends')).kind ks) w.long;
            each_height = g.each_height ∙ ap (λ (t : State). filled n t.height hs) s;
          }

  pub first_swapped : (choice lines kinds : List ℕ) (r : Answer) (c l k : List ℕ) → FirstChoice n ends choice lines kinds r c l k → FirstChoice n ends' choice lines kinds r c l k
  first_swapped choice lines kinds r c l k =
      checked_same (cramped_first ends choice lines kinds) (cramped_first ends' choice lines kinds) (Untouched (triple choice lines kinds) r (triple c l k)) (unfold cramped_first in rw w.long)
      (λ fit con.
      let T = tree_swapped fit con in
      check_map (subst (λ (S : Tree). Drawable S) T) (subst (λ (S : Tree). Drawable S) (sym T))
      (λ d (g : Chosen (network n ends) choice lines kinds r c l k). record {
        answers = g.answers ∙ ap (λ (j : ℕ). done j 0) (back_lines_swapped fit);
        first = subst (λ (S : Tree). First S.lines (Proper S) (at c)) T g.first;
        rest = subst (λ (S : Tree). Kept S.lines choice c) T g.rest;
        same_lines = g.same_lines;
        same_kinds = g.same_kinds;
      })
      (λ d (g : Ringed (network n ends) choice lines kinds r c l k). record {
        size = g.size;
        answers = g.answers;
        few = subst (λ (S : Tree). g.size ≤ S.lines) T g.few;
        ring = subst (λ (S : Tree). Ring (Constraint S) g.size (at l) (at k)) T g.ring;
        lines_rest = g.lines_rest;
        kinds_rest = g.kinds_rest;
        same_choice = g.same_choice;
      }))

  pub next_swapped : (choice : List ℕ) (r : Answer) (c : List ℕ) → NextChoice n ends choice r c → NextChoice n ends' choice r c
  next_swapped choice r c =
      checked_same (cramped_next ends choice) (cramped_next ends' choice) (Untouched choice r c) (unfold cramped_next in rw w.long)
      (λ fit con.
      let T = tree_swapped fit con in
      check_map (subst (λ (S : Tree). Proper S (at choice)) T) (subst (λ (S : Tree). Proper S (at choice)) (sym T))
      (λ p.
      check_map (subst (λ (S : Tree). Outdone S (at choice)) T) (subst (λ (S : Tree). Outdone S (at choice)) (sym T))
      (λ o (g : Stepped (network n ends) choice r c). record {
        answers = g.answers ∙ ap (λ (j : ℕ). done j 0) (back_lines_swapped fit);
        next = subst (λ (S : Tree). Next S.lines (Proper S) (at choice) (at c)) T g.next;
        rest = subst (λ (S : Tree). Kept S.lines choice c) T g.rest;
      })
      (λ o u. u))
      (λ p u. u))

  -- two drawings of one choice have one order
  pub order_swapped : (choice order mesh sizes : List ℕ) (r r' : Answer) (o o' m m' s s' : List ℕ) → Draw n ends choice order mesh sizes r o m s → r.number ≡ 0
      → Draw n ends' choice order mesh sizes r' o' m' s' → r'.number ≡ 0 → o ≡ o'
  order_swapped choice order mesh sizes r r' o o' m m' s s' d z d' z' =
      let (fit, c, is) = drew_order n ends choice order mesh sizes r o m s d z in
      let (_, _, is') = drew_order n ends' choice order mesh sizes r' o' m' s' d' z' in
      is ∙ ap (λ (S : Tree). filled (2 * S.lines) (flat S.vertices (order_at S (at choice))) order) (tree_swapped fit c) ∙ sym is'
