-- What `sketch` returns once the network is not refused, one lemma for each place where it does.
use mathlib.Core.Bool.{Bool, true, false}
use mathlib.Core.List.{List}
use mathlib.Core.Logic.{inl, inr}
use mathlib.Core.Path.{◌≡◌, refl, sym, ap, ◌∙◌, subst}
use Prim.Native.Nat.{ℕ, ◌+◌, ◌/◌, ◌≤◌, ◌<◌}
use native.Mathlib.Omega.{arith}
use lib.ListN.{length, get_or}
use Rattle.std.specs.Prelude.{Result, is_err, ⊤}
use Rattle.laws.specs.Checks.{Check}
use Rattle.laws.specs.Lists.{at}
use Rattle.network.specs.Network.{Network, network}
use Rattle.network.proofs.Sifting.{checked_map}
use Rattle.tree.specs.Tree.{Tree, tree_of}
use Rattle.tree.specs.Searched.{Searched}
use Rattle.tree.specs.Words.{Above}
use Rattle.search.specs.Machine.{tree_in}
use Rattle.search.specs.Inside.{Search, search_of, Faulted}
use Rattle.search.proofs.Calls.{explored, explore_faulted}
use Rattle.fork.specs.Inside.{Known, Tabled}
use Rattle.fork.proofs.Knowing.{known_finished, known_parents}
use Rattle.fork.specs.declared.Forks.{Forks}
use Rattle.groups.specs.declared.Groups.{Groups}
use Rattle.groups.specs.Groups.{columns, fitsb}
use Rattle.links.specs.declared.Tear.{Tear}
use Rattle.choice.specs.Choice.{Proper}
use Rattle.choice.specs.Inside.{Begun}
use Rattle.choice.proofs.Faultless.{explored_known, explored_tree, faultless_searched, faultless_few}
use Rattle.choice.proofs.Answering.{torn_of, kept_of, sorted_fits, sorted_fails, torn_improper}
use Rattle.clockwise.proofs.Wholes.{drawn_whole}
use Rattle.drawing.specs.Draw.{Balanced}
use Rattle.drawing.specs.Drawing.{Sketchable, Drawn, Sketched}
use Rattle.drawing.proofs.Rooted.{root_low, rooted}

module _ (n : ℕ) (ends choice : List ℕ) where
  abbrev net : Network
  net = network n ends

  abbrev Granted : ℕ → ℕ → List ℕ → List ℕ → List ℕ → Type 0
  Granted k count order mesh sizes =
      Check (Proper (tree_in net) (at choice)) (Check (Balanced net choice) ((k ≡ 0) × Drawn (tree_in net) n ends choice order count mesh sizes) (k ≡ 10)) (k ≡ 8)

  module _ {ks hs ps : List ℕ} {forks : Forks} {g : Groups} {outcome : Result ⊤ Tear} (b : Begun n ends (search_of 0 ks hs ps) forks g outcome) where
    fault : Faulted n ends 0
    fault = explore_faulted n ends 0 ks hs ps b.explored

    X : Searched (tree_in net)
    X = faultless_searched fault

    few : length ends / 2 ≤ 2048
    few = faultless_few fault

    grant : (k count : ℕ) (order mesh sizes : List ℕ) → Granted k count order mesh sizes → Sketched n ends choice k count order mesh sizes
    grant k count order mesh sizes y =
        checked_map n ends false fault (λ j. k ≡ j) (Granted k count order mesh sizes) (λ j some (u : 0 ≡ j). absurd (omega arith)) (λ _. y)

    pub sketch_torn : true ≡ is_err outcome → {order mesh sizes : List ℕ} → Sketched n ends choice 8 0 order mesh sizes
    sketch_torn e {order} {mesh} {sizes} =
        let q = b.grouping refl in
        grant 8 0 order mesh sizes (inr (torn_improper (tree_in net) X few g q.sorted (torn_of e).1 (at choice), refl))

    module _ (e : false ≡ is_err outcome) {fit : Bool} (is : fit ≡ fitsb (length ends / 2) (columns g).leader (columns g).parity (at choice)) where
      pub sketch_unfit : fit ≡ false → {order mesh sizes : List ℕ} → Sketched n ends choice 8 0 order mesh sizes
      sketch_unfit f {order} {mesh} {sizes} =
          let q = b.grouping refl in
          grant 8 0 order mesh sizes (inr (sorted_fails (tree_in net) X few g q.sorted (kept_of e) choice (sym is ∙ f), refl))

      module _ (t : fit ≡ true) where
        proper : Proper (tree_in net) (at choice)
        proper = let q = b.grouping refl in sorted_fits (tree_in net) X few g q.sorted (kept_of e) choice (sym is ∙ t)

        known : Known n (length ends / 2) ends ks hs ps
        known = explored_known b.explored

        pub sketch_sketchable : length ends / 2 ≤ length choice → Sketchable (tree_in net) n ends ps forks choice
        sketch_sketchable bytes =
            let f = explored n ends (search_of 0 ks hs ps) b.explored refl in
            let same = explored_tree b.explored in
            subst (λ (S : Tree). Sketchable S n ends ps forks choice) same
            (record {
              orderable = record {
                same_vertices = refl;
                same_lines = refl;
                some_vertex = f.0.some_vertex;
                finished = known_finished known;
                root_low = subst (λ (y : Search). get_or y.heights 0 0 ≡ 0) (sym f.2) (root_low net f.0 f.1);
                rooted = subst (λ (y : Search). (v : ℕ) → v < n → Above (tree_of n (length ends / 2) ends y.kinds y.heights y.parents) 0 v) (sym f.2) (rooted net f.0 f.1);
                leads = known_parents known;
                tabled = subst (λ (S : Tree). Tabled S forks) (sym same) ((b.grouping refl).tabled (kept_of e));
                choice_long = bytes;
                bits = λ k l. (subst (λ (S : Tree). Proper S (at choice)) (sym same) proper).aligned.legal.bits k l;
              };
              fits = f.0;
              whole = drawn_whole n (length ends / 2) ends ks hs ps known.grown (at choice);
            })

        module _ {count : ℕ} {order mesh sizes : List ℕ} (D : Drawn (tree_in net) n ends choice order count mesh sizes) where
          pub sketch_unbalanced : (n + count ≡ length ends / 2 + 2 → ⊥) → {order' mesh' sizes' : List ℕ} → Sketched n ends choice 10 0 order' mesh' sizes'
          sketch_unbalanced d {order'} {mesh'} {sizes'} = grant 10 0 order' mesh' sizes' (inl (proper, inr (λ u. d (ap (λ (k : ℕ). n + k) D.count_is ∙ u), refl)))

          pub sketch_done : n + count ≡ length ends / 2 + 2 → Sketched n ends choice 0 count order mesh sizes
          sketch_done s = grant 0 count order mesh sizes (inl (proper, inl (ap (λ (k : ℕ). n + k) (sym D.count_is) ∙ s, (refl, D))))
