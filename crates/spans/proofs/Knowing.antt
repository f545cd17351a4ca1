-- What a caller that knows the tables of a finished search shows of them, and of new tables that it fills with one number.
use mathlib.Core.List.{List}
use mathlib.Core.Path.{◌≡◌, ap, ◌∙◌}
use Prim.Native.Nat.{ℕ}
use native.Mathlib.Omega.{arith}
use lib.ListN.{replicate, get_or-replicate}
use Rattle.laws.specs.Lists.{at}
use Rattle.network.specs.Marks.{absent}
use Rattle.tree.specs.Tree.{Tree, tree_of}
use Rattle.fork.specs.Inside.{Known, Finished}
use Rattle.spans.specs.Inside.{Unheld, Directed}
use Rattle.spans.specs.declared.Jumps.{Jumps}

module _ {n m : ℕ} {ends kinds heights parents : List ℕ} (k : Known n m ends kinds heights parents) where
  pub known_ended : Directed (tree_of n m ends kinds heights parents) ends heights
  known_ended =
      record {
        long = k.ends_long;
        first_in = λ i h. omega (arith, k.grown.first_in i h, k.few_vertices);
        second_in = λ i h. omega (arith, k.grown.second_in i h, k.few_vertices);
        tree_source = λ i l. rw l.1;
        back_source = λ i l. rw l.1;
        back_target = λ i l. rw l.1;
      }

pub new_unheld : {S : Tree} → Finished S → (jumps : Jumps) → jumps.held ≡ replicate {A = ℕ} 512 absent → Unheld S jumps
new_unheld f jumps e = record { each = λ v h. ap (λ (t : List ℕ). at t v) e ∙ get_or-replicate {A = ℕ} 512 v absent 0 (omega (arith, f.few_vertices)) }
