-- What the beginning leaves: the tables of a finished search, and the groups of the tree in them.
use mathlib.Core.List.{List}
use mathlib.Core.Path.{◌≡◌, refl, sym, ap, subst}
use Prim.Native.Nat.{ℕ, ◌+◌, ◌-◌, ◌/◌, ◌≤◌}
use native.Mathlib.Omega.{arith}
use lib.ListN.{length}
use Rattle.std.specs.Prelude.{Result, ⊤}
use Rattle.network.specs.Network.{network}
use Rattle.network.specs.Numbers.{done}
use Rattle.tree.specs.Tree.{Tree, tree_of}
use Rattle.tree.specs.Searched.{Searched}
use Rattle.tree.proofs.Grown.{searched}
use Rattle.search.specs.Machine.{tree_in}
use Rattle.search.specs.Orient.{back_lines}
use Rattle.search.specs.Inside.{Search, search_of, Explored, Faulted}
use Rattle.search.proofs.Deep.{finished_both}
use Rattle.search.proofs.Grows.{grown, line_kind, backs_counted}
use Rattle.search.proofs.Calls.{explored, explore_faulted, faultless}
use Rattle.fork.specs.Inside.{Known}
use Rattle.fork.specs.declared.Forks.{Forks}
use Rattle.groups.specs.declared.Groups.{Groups}
use Rattle.links.specs.declared.Tear.{Tear}
use Rattle.descents.specs.Inside.{Grouping}
use Rattle.choice.specs.Inside.{Begun, Gathered}

-- A search that is not refused

module _ {n : ℕ} {ends ks hs ps : List ℕ} (x : Explored n ends (search_of 0 ks hs ps)) where
  pub explored_known : Known n (length ends / 2) ends ks hs ps
  explored_known =
      let f = explored n ends (search_of 0 ks hs ps) x refl in
      let net = network n ends in
      let s = (finished_both net f.0).0 in
      subst (λ (q : Search). Known n (length ends / 2) ends q.kinds q.heights q.parents) (sym f.2)
      (record {
        grown = grown net f.0 f.1;
        every = line_kind net f.0 f.1;
        few_vertices = f.0.few_vertices;
        few_lines = f.0.few_lines;
        ends_long = f.0.ends_long;
        kinds_long = s.kinds_long;
        heights_long = s.heights_long;
        parents_long = s.parents_long;
      })

  pub explored_tree : tree_of n (length ends / 2) ends ks hs ps ≡ tree_in (network n ends)
  explored_tree =
      ap (λ (q : Search). tree_of n (length ends / 2) ends q.kinds q.heights q.parents) (explored n ends (search_of 0 ks hs ps) x refl).2

-- The beginning is that of the tree in the tables

pub begun_of : {n : ℕ} {ends ks hs ps : List ℕ} {forks : Forks} {g : Groups} {outcome : Result ⊤ Tear} → Explored n ends (search_of 0 ks hs ps)
    → Grouping (tree_of n (length ends / 2) ends ks hs ps) forks g outcome → Begun n ends (search_of 0 ks hs ps) forks g outcome
begun_of {forks = forks} {g = g} {outcome = outcome} x y =
    record { explored = x; grouping = λ _. subst (λ (S : Tree). Grouping S forks g outcome) (explored_tree x) y }

pub begun_gathered : {n : ℕ} {ends : List ℕ} {number : ℕ} {ks hs ps : List ℕ} {forks : Forks} {g : Groups} {outcome : Result ⊤ Tear} → Begun n ends (search_of number ks hs ps) forks g outcome
    → Gathered n ends number g outcome
begun_gathered {n} {ends} {number} {ks} {hs} {ps} b =
    record {
      fault = explore_faulted n ends number ks hs ps b.explored;
      sorted = λ z. (b.grouping z).sorted;
    }

-- A network that is not refused

module _ {n : ℕ} {ends : List ℕ} (x : Faulted n ends 0) where
  pub faultless_searched : Searched (tree_in (network n ends))
  faultless_searched = let f = faultless n ends 0 x refl in searched n (length ends / 2) ends _ _ _ (grown (network n ends) f.0 f.1)

  pub faultless_few : length ends / 2 ≤ 2048
  faultless_few = (faultless n ends 0 x refl).0.few_lines

  counted : back_lines (network n ends) + n ≡ length ends / 2 + 1
  counted = let f = faultless n ends 0 x refl in backs_counted (network n ends) f.0 f.1

  -- the number of back lines that is handed out
  pub faultless_fits : n ≤ length ends / 2 + 1
  faultless_fits = omega (arith, counted)

  pub faultless_done : done (length ends / 2 + 1 - n) 0 ≡ done (back_lines (network n ends)) 0
  faultless_done = let e : length ends / 2 + 1 - n ≡ back_lines (network n ends) = omega (arith, counted) in ap (λ (k : ℕ). done k 0) e
