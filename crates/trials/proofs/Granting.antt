-- A network that no check refuses: where a claim is true of it, the calls have to say so. What the checks leave of a call's statement has one outcome
-- there, and the claim names it.
use mathlib.Core.Bool.{Bool, true, false, not}
use mathlib.Core.List.{List, [], ◌∷◌, ◌++◌, map, foldr}
use mathlib.Core.Logic.{inl, inr, ◌≢◌}
use mathlib.Core.Path.{◌≡◌, refl, sym, ap, ◌∙◌, subst}
use Prim.Native.Nat.{ℕ, ◌+◌, ◌*◌, ◌-◌, ◌/◌, ◌≤◌, ◌<◌}
use Prim.Native.String.{String}
use native.Mathlib.Omega.{arith}
use lib.Dec.{eqb, ltb}
use lib.ListN.{get_or, length, take, drop, length-map, get_or-append}
use lib.Seq.{ext_get_or, get_or-append-add, get_or-drop, get_or-take, length-take-le, take_all}
use borrow.Author.Tests.{le-ltb, lt-ltb, ltb-false, ne_eqb}
use Rattle.laws.specs.Tests.{both}
use Rattle.laws.specs.Lists.{upto, filled, at, Agree, Kept}
use Rattle.laws.specs.Sorting.{gather}
use Rattle.laws.proofs.Cases.{cases, eq_or, lt_or}
use Rattle.laws.proofs.Filling.{filled_long}
use Rattle.laws.proofs.Lengths.{length_from}
use Rattle.laws.proofs.Lists.{all_map, keep_same, from_all}
use Rattle.laws.proofs.Tests.{either_neither}
use Rattle.laws.specs.Dictionary.{First, Next, Last}
use Rattle.laws.proofs.Dictionary.{first_once, next_list}
use Rattle.network.specs.Network.{Network, network, Connected}
use Rattle.network.specs.Inside.{Fit}
use Rattle.network.specs.Numbers.{refused, done, Checked, Untouched, pair, triple}
use Rattle.network.specs.Numbers.{Answer}
use Rattle.network.proofs.Sifting.{checked_once, checked_elim}
use Rattle.network.specs.Marks.{tree, back}
use Rattle.tree.specs.Tree.{Tree}
use Rattle.tree.specs.Returns.{backb}
use Rattle.search.specs.Machine.{finished, tree_in}
use Rattle.search.specs.Orient.{back_lines, cramped, Oriented}
use Rattle.search.proofs.Deep.{finished_both}
use Rattle.search.proofs.Grows.{grown, line_kind}
use Rattle.text.proofs.Accepted.{take_filled}
use Rattle.fork.specs.Fork.{Aligned}
use Rattle.choice.specs.Choice.{Drawable}
use Rattle.choice.specs.Calls.{cramped_first, FirstChoice, cramped_next, NextChoice}
use Rattle.clockwise.specs.Order.{flat}
use Rattle.clockwise.proofs.Wholes.{drawn_whole}
use Rattle.clockwise.proofs.Flat.{flat_full}
use Rattle.meshes.specs.Meshes.{mesh_list, size_list}
use Rattle.drawing.specs.Draw.{clockwise_in, meshes_in, size_list_in, mesh_list_in, cramped_draw, Drew, Draw}
use Rattle.trials.specs.Trials.{Claim, back_lines_are, choices_are, next_is, none_after, not_aligned, must_agree, ring_is, mesh_count_is, sizes_are, meshes_are, clockwise_is, trips_are, written, directions, step_lines, step_kinds, buffer, choice, Good, FollowedBy, AllChoices, OnlyRing, Draws, DrawsSo, True}
use Rattle.trials.specs.Turning.{tripsb}
use Rattle.trials.specs.Answers.{OfDraw, FirstGives, NextGives, NextRefuses, NextLists, CallsList, FirstShows, DrawGives, Said}
use Rattle.trials.proofs.Refusing.{Firstly, Nextly, Drawn}

gather_map : (f : ℕ → List ℕ) (l : List ℕ) → gather f l ≡ foldr ◌++◌ [] (map f l)
unfolding gather
gather_map f [] = refl
gather_map f (x ∷ l) = ap (λ r. f x ++ r) (gather_map f l)

written_long : (S : Tree) (c : String) → length (written S c) ≡ S.lines
unfolding written
written_long S c = length-map (upto S.lines) _ ∙ length_from 0 S.lines

meshes_long : (net : Network) (c : List ℕ) → length (mesh_list_in net c) ≡ 2 * net.lines
unfolding mesh_list
meshes_long net c = length-map (upto (2 * net.lines)) _ ∙ length_from 0 (2 * net.lines)

sizes_long : (net : Network) (c : List ℕ) → length (size_list_in net c) ≡ meshes_in net c
unfolding size_list
sizes_long net c = length-map (upto (meshes_in net c)) _ ∙ length_from 0 (meshes_in net c)

-- a buffer that agrees with a table as far as it was changed was filled with the table
kept_filled : (n : ℕ) (table old new : List ℕ) → length table ≡ n → n ≤ length old → Kept n old new → Agree n (at new) (at table) → new ≡ filled n table old
kept_filled n table old new e h k a =
    let all : take n table ≡ table = take_all n table (omega arith) in
    ext_get_or 0 new (filled n table old) (k.long ∙ sym (filled_long n table old (omega arith) h))
    (λ i g.
    rw all
    (cases (lt_or i n)
    (λ l. a i l ∙ sym (get_or-append table (drop n old) 0 i (omega arith)))
    (λ l.
    let past : i ≡ length table + (i - n) = omega arith in
    let back : n + (i - n) ≡ i = omega arith in
    k.past i l
    ∙ sym (ap (λ (j : ℕ). get_or (table ++ drop n old) j 0) past ∙ get_or-append-add table (drop n old) (i - n) 0 ∙ get_or-drop n old (i - n) 0 ∙ ap (at old) back))))

-- of the two kinds of a line, a back line's
back_kind : (k : ℕ) → eqb k back ≡ both (ltb k 2) (not (eqb k tree))
unfolding both
back_kind k =
    cases (eq_or k 1)
    (λ e. rw e refl)
    (λ d.
    let d' : k ≢ 1 = d in
    cases (eq_or k 0)
    (λ e. rw e refl)
    (λ z. let z' : k ≢ 0 = z in rw (ne_eqb k 1 d, le-ltb k 2 (omega arith)) refl))

module _ (n : ℕ) (ends : List ℕ) where
  abbrev net : Network
  net = network n ends

  module _ (G' : Type 0) (h : Checked n ends false (λ j. ⊥) G') where
    pub granted_so : (short : Bool) (R : ℕ → Type 0) (G : Type 0) → short ≡ false → Checked n ends short R G → G
    granted_so short R G e x = checked_once n ends false {R = λ j. ⊥} {R' = R} (λ j a b. absurd a) (λ a b. b) h (subst (λ (s : Bool). Checked n ends s R G) e x)

    fit : Fit net × Connected net
    fit = checked_elim n ends false (λ j. ⊥) G' h (λ k a b z. absurd z) (λ f c g. (f, c))

    first_so : (choice lines kinds choice' lines' kinds' : List ℕ) (r : Answer) → cramped_first ends choice lines kinds ≡ false
        → FirstChoice n ends choice lines kinds r choice' lines' kinds' → Firstly n ends choice lines kinds r choice' lines' kinds'
    first_so choice lines kinds choice' lines' kinds' r room x =
        granted_so (cramped_first ends choice lines kinds) (Untouched (triple choice lines kinds) r (triple choice' lines' kinds')) (Firstly n ends choice lines kinds r choice' lines' kinds') room x

    -- (a buffer as long as there are lines is room enough)
    next_so : (c : String) (choice' : List ℕ) (r : Answer) → NextChoice n ends (buffer net c) r choice' → Nextly n ends (buffer net c) r choice'
    unfolding cramped_next
    next_so c choice' r x =
        granted_so (cramped_next ends (buffer net c)) (Untouched (buffer net c) r choice') (Nextly n ends (buffer net c) r choice')
        (le-ltb (length (buffer net c)) (length ends / 2) (omega (arith, written_long (tree_in net) c))) x

    drawn_so : (c order mesh sizes order' mesh' sizes' : List ℕ) (r : Answer) → cramped_draw (length ends / 2) (length c) (length order) (length mesh) (length sizes) ≡ false
        → Draw n ends c order mesh sizes r order' mesh' sizes' → Drawn n ends c order mesh sizes r order' mesh' sizes'
    drawn_so c order mesh sizes order' mesh' sizes' r room x =
        granted_so (cramped_draw (length ends / 2) (length c) (length order) (length mesh) (length sizes)) (Untouched (triple order mesh sizes) r (triple order' mesh' sizes'))
        (Drawn n ends c order mesh sizes r order' mesh' sizes') room x

    -- first choice

    -- (room for a line each in the choice, in the ring's lines and in its kinds)
    roomy : (choice lines kinds : List ℕ) → cramped_first ends choice lines kinds ≡ false
        → (net.lines ≤ length choice) × (net.lines ≤ length lines) × (net.lines ≤ length kinds)
    unfolding cramped_first
    roomy choice lines kinds room =
        let p = either_neither room in
        let q = either_neither p.1 in
        (ltb-false (length choice) (length ends / 2) p.0, ltb-false (length lines) (length ends / 2) q.0, ltb-false (length kinds) (length ends / 2) q.1)

    first_said : (c : String) → First net.lines (Good net) (choice net c) → FirstGives n ends c
    first_said c f old lines kinds choice' lines' kinds' r room x = go (first_so old lines kinds choice' lines' kinds' r room x)
      where
        go : Firstly n ends old lines kinds r choice' lines' kinds'
            → (r ≡ done (back_lines net) 0) × (choice' ≡ filled net.lines (buffer net c) old) × (lines' ≡ lines) × (kinds' ≡ kinds)
        go (inl (_, y)) = (
          y.answers,
          kept_filled net.lines (buffer net c) old choice' (written_long (tree_in net) c) (roomy old lines kinds room).0 y.rest
              (first_once net.lines (Good net) (at choice') (at (buffer net c)) y.first f),
          y.same_lines,
          y.same_kinds,
        )
        go (inr (never, _)) = absurd (never (at (buffer net c), f.good.aligned.legal))

    ring_said : (steps : List (ℕ × ℕ)) → (Drawable (tree_in net) → ⊥) → OnlyRing net steps → FirstShows n ends steps
    ring_said steps never only old lines kinds choice' lines' kinds' r room x = go (first_so old lines kinds choice' lines' kinds' r room x)
      where
        go : Firstly n ends old lines kinds r choice' lines' kinds'
            → (r ≡ record { number = 7; count = 0; second = length steps }) × (choice' ≡ old) × (lines' ≡ filled (length steps) (step_lines steps) lines)
            × (kinds' ≡ filled (length steps) (step_kinds steps) kinds)
        go (inl (d, _)) = absurd (never d)
        go (inr (_, y)) =
            let is = only y.size (at lines') (at kinds') y.ring in
            let size : y.size ≡ length steps = is.0 in
            let few = y.few in
            let enough = roomy old lines kinds room in (
              y.answers ∙ ap (λ (k : ℕ). record { number = 7; count = 0; second = k }) size,
              y.same_choice,
              kept_filled (length steps) (step_lines steps) lines lines' (length-map steps _) (omega (arith, enough.1))
                  (subst (λ (k : ℕ). Kept k lines lines') size y.lines_rest) (λ i g. is.1 i (omega arith)),
              kept_filled (length steps) (step_kinds steps) kinds kinds' (length-map steps _) (omega (arith, enough.2))
                  (subst (λ (k : ℕ). Kept k kinds kinds') size y.kinds_rest) (λ i g. is.2 i (omega arith)),
            )

    -- next choice

    next_said : (c d : String) → Good net (choice net c) → Next net.lines (Good net) (choice net c) (choice net d) → NextGives n ends c d
    next_said c d p f choice' r x = go (next_so c choice' r x)
      where
        go : Nextly n ends (buffer net c) r choice' → (r ≡ done (back_lines net) 0) × (choice' ≡ buffer net d)
        go (inl (_, inl (_, y))) = (
          y.answers,
          next_list net.lines (Good net) (buffer net c) choice' (buffer net d) (y.rest.long ∙ written_long (tree_in net) c) (written_long (tree_in net) d) y.next f,
        )
        go (inl (_, inr (never, _))) = absurd (never (choice net d, f.good, f.after))
        go (inr (never, _)) = absurd (never p)

    nine_said : (c : String) → Good net (choice net c) → Last net.lines (Good net) (choice net c) → NextRefuses n ends 9 c
    nine_said c p l choice' r x = go (next_so c choice' r x)
      where
        go : Nextly n ends (buffer net c) r choice' → (r ≡ refused 9) × (choice' ≡ buffer net c)
        go (inl (_, inl ((d, q, b), _))) = absurd (l d q b)
        go (inl (_, inr (_, u))) = (u.answers, u.same)
        go (inr (never, _)) = absurd (never p)

    eight_said : (c : String) → (Aligned (tree_in net) (choice net c) → ⊥) → NextRefuses n ends 8 c
    eight_said c a choice' r x = go (next_so c choice' r x)
      where
        go : Nextly n ends (buffer net c) r choice' → (r ≡ refused 8) × (choice' ≡ buffer net c)
        go (inl (p, _)) = absurd (a p.aligned)
        go (inr (_, u)) = (u.answers, u.same)

    followed_said : (c : String) (l : List String) → Good net (choice net c) → FollowedBy net c l → NextLists n ends c l
    followed_said c [] p q = nine_said c p q
    followed_said c (d ∷ l) p q = (next_said c d p q.0, followed_said d l q.0.good q.1)

    choices_said : (l : List String) → AllChoices net l → CallsList n ends l
    choices_said [] q = tt
    choices_said (c ∷ l) q = (first_said c q.0, followed_said c l q.0.good q.1)

    -- draw

    undrawn : (c : String) → (Aligned (tree_in net) (choice net c) → ⊥) → OfDraw n ends (buffer net c) (λ r order mesh sizes order' mesh' sizes'. r ≡ refused 8)
    undrawn c a order mesh sizes order' mesh' sizes' r room x = go (drawn_so (buffer net c) order mesh sizes order' mesh' sizes' r room x)
      where
        go : Drawn n ends (buffer net c) order mesh sizes r order' mesh' sizes' → r ≡ refused 8
        go (inl (p, _)) = absurd (a p.aligned)
        go (inr (_, u)) = u.answers

    drew : (c : String) (P : Type 0) → Draws net c P → (order mesh sizes order' mesh' sizes' : List ℕ) (r : Answer)
        → cramped_draw (length ends / 2) (length (buffer net c)) (length order) (length mesh) (length sizes) ≡ false
        → Draw n ends (buffer net c) order mesh sizes r order' mesh' sizes' → Drew net (buffer net c) order mesh sizes r order' mesh' sizes'
    drew c P q order mesh sizes order' mesh' sizes' r room x = go (drawn_so (buffer net c) order mesh sizes order' mesh' sizes' r room x)
      where
        go : Drawn n ends (buffer net c) order mesh sizes r order' mesh' sizes' → Drew net (buffer net c) order mesh sizes r order' mesh' sizes'
        go (inl (_, inl (_, y))) = y
        go (inl (_, inr (never, _))) = absurd (never q.balanced)
        go (inr (never, _)) = absurd (never q.proper)

    order_long : (c : List ℕ) → length (flat n (clockwise_in net c)) ≡ 2 * net.lines
    order_long c =
        flat_full net fit.0 (tree_in net).live (clockwise_in net c)
        (drawn_whole n net.lines ends (finished net).kind (finished net).height (finished net).parent (grown net fit.0 fit.1) (at c))
        (λ k g. lt-ltb (get_or (finished net).kind k 0) 2 (line_kind net fit.0 fit.1 k g))

    draw_said : (c : String) (P : List ℕ → List ℕ → Type 0) → DrawsSo net c P → DrawGives n ends c P
    draw_said c P q order mesh sizes order' mesh' sizes' r room x =
        let y = drew c _ q order mesh sizes order' mesh' sizes' r room x in
        let all = flat n (clockwise_in net (buffer net c)) in
        let each = mesh_list_in net (buffer net c) in
        let so : take (2 * net.lines) order' ≡ all = ap (take (2 * net.lines)) y.the_order ∙ take_filled (2 * net.lines) all order (order_long (buffer net c)) in
        let is : take (2 * net.lines) mesh' ≡ each = ap (take (2 * net.lines)) y.each_mesh ∙ take_filled (2 * net.lines) each mesh (meshes_long net (buffer net c)) in
        subst (λ (l : List ℕ). P l (take (2 * net.lines) mesh')) (sym so) (subst (λ (l : List ℕ). P all l) (sym is) q.so)

    -- orient

    kind_at : (kinds : List ℕ) (k : ℕ) → k < net.lines → at (filled net.lines (finished net).kind kinds) k ≡ at (finished net).kind k
    kind_at kinds k h =
        let few = fit.0.few_lines in
        let long = (finished_both net fit.0).0.kinds_long in
        get_or-append (take net.lines (finished net).kind) (drop net.lines kinds) 0 k (omega (arith, length-take-le net.lines (finished net).kind (omega arith)))
        ∙ get_or-take net.lines (finished net).kind k 0 h

    -- each claim

    pub said_of : (claim : Claim) → True net claim → Said n ends claim
    said_of (back_lines_are l) q = λ kinds heights kinds' heights' r room x.
        let y = granted_so (cramped n ends kinds heights) (Untouched (pair kinds heights) r (pair kinds' heights')) (Oriented net kinds heights r kinds' heights') room x in (
          y.answers ∙ ap (λ (k : ℕ). done k 0) q.1,
          keep_same (λ k. eqb (at kinds' k) back) (backb (tree_in net)) (upto net.lines)
              (all_map (λ k. k < 0 + net.lines) (λ k. eqb (at kinds' k) back ≡ backb (tree_in net) k) (upto net.lines)
              (λ k h. ap (λ (l : List ℕ). eqb (at l k) back) y.each_kind ∙ ap (λ (j : ℕ). eqb j back) (kind_at kinds k (omega arith)) ∙ back_kind (at (finished net).kind k))
              (from_all 0 net.lines))
              ∙ q.0,
        )
    said_of (choices_are l) q = choices_said l q.1
    said_of (next_is c d) q = next_said c d q.2 q.3
    said_of (none_after c) q = nine_said c q.1 q.2
    said_of (not_aligned c) q = (eight_said c q.1, undrawn c q.1)
    said_of (must_agree b d) q = tt
    said_of (ring_is steps) q = ring_said steps q.0 q.2
    said_of (mesh_count_is c k) q = λ order mesh sizes order' mesh' sizes' r room x.
        (drew c _ q order mesh sizes order' mesh' sizes' r room x).answers ∙ ap (λ (j : ℕ). done j 0) q.so
    said_of (sizes_are c l) q = λ order mesh sizes order' mesh' sizes' r room x.
        (drew c _ q order mesh sizes order' mesh' sizes' r room x).each_size
        ∙ ap (λ (j : ℕ). filled j (size_list_in net (buffer net c)) sizes) (sym (sizes_long net (buffer net c)))
        ∙ ap (λ (z : List ℕ). filled (length z) z sizes) q.so
    said_of (meshes_are c l) q = λ order mesh sizes order' mesh' sizes' r room x.
        let y = drew c _ q order mesh sizes order' mesh' sizes' r room x in
        ap (λ (a : Answer). directions a.count (take (2 * net.lines) mesh')) y.answers
        ∙ ap (λ (l : List ℕ). directions (meshes_in net (buffer net c)) (take (2 * net.lines) l)) y.each_mesh
        ∙ ap (directions (meshes_in net (buffer net c))) (take_filled (2 * net.lines) (mesh_list_in net (buffer net c)) mesh (meshes_long net (buffer net c)))
        ∙ q.so
    said_of (clockwise_is c l) q = λ order mesh sizes order' mesh' sizes' r room x.
        (drew c _ q order mesh sizes order' mesh' sizes' r room x).the_order
        ∙ ap (λ (z : List ℕ). filled (2 * net.lines) z order) (gather_map (clockwise_in net (buffer net c)) (upto n) ∙ ap (foldr ◌++◌ []) q.so)
    said_of (trips_are c outer l) q = draw_said c (λ order mesh. tripsb (tree_in net) ends outer l order mesh ≡ true) q
