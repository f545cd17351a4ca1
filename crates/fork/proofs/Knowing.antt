-- What a caller that knows the tables of a finished search shows of the tree in them, and of a blank table of forks.
use mathlib.Core.List.{List}
use mathlib.Core.Logic.{◌≢◌}
use mathlib.Core.Path.{refl, ap, ◌∙◌}
use Prim.Native.Nat.{ℕ}
use native.Mathlib.Omega.{arith}
use lib.ListN.{get_or, length, length-replicate}
use borrow.Author.Tests.{eq-eqb, ne_eqb, eqb-true, eqb-false, lt-ltb}
use Rattle.tree.specs.Tree.{Tree, tree_of}
use Rattle.tree.proofs.Grown.{searched}
use Rattle.fork.specs.Inside.{Known, Finished, Kinds, Heights, Parents, LongForks, BlankForks}
use Rattle.fork.specs.declared.Forks.{Forks}

pub blank_long : {t : Forks} → BlankForks t → LongForks t
blank_long b =
    let long = length-replicate {A = ℕ} 2048 0 in
    record { sources = ap length b.sources ∙ long; stops = ap length b.stops ∙ long; lows = ap length b.lows ∙ long; highs = ap length b.highs ∙ long; tops = ap length b.tops ∙ long }

module _ {n m : ℕ} {ends kinds heights parents : List ℕ} (k : Known n m ends kinds heights parents) where
  abbrev S : Tree
  S = tree_of n m ends kinds heights parents

  pub known_finished : Finished S
  known_finished =
      record {
        few_vertices = k.few_vertices;
        few_lines = k.few_lines;
        every = λ i h. record { below = h; yes = lt-ltb _ _ (k.every i h) };
        searched = searched n m ends kinds heights parents k.grown;
      }

  pub known_kinds : Kinds S kinds
  known_kinds =
      record {
        long = k.kinds_long;
        tree = λ i h e. (record { below = h; yes = lt-ltb _ _ (k.every i h) }, eq-eqb _ _ e);
        is_tree = λ i l. eqb-true _ _ l.1;
        back = λ i h e. (record { below = h; yes = lt-ltb _ _ (k.every i h) }, ne_eqb _ _ e);
        is_back = λ i l. let z : get_or kinds i 0 ≢ 0 = eqb-false _ _ l.1 in omega (arith, k.every i l.0.below);
      }

  pub known_heights : Heights S heights
  known_heights = record { long = k.heights_long; each = λ v h. refl }

  pub known_parents : Parents S parents
  known_parents = record { long = k.parents_long; each = λ v h. refl }
