-- The whole: from the tables of a finished search to groups in tables.
use mathlib.Core.Bool.{true, false}
use mathlib.Core.List.{List}
use mathlib.Core.Path.{◌≡◌, refl}
use Prim.Native.Nat.{ℕ, ◌≤◌, ◌<◌}
use native.Mathlib.Omega.{arith}
use lib.ListN.{get_or}
use borrow.Author.Tests.{not-true}
use Rattle.std.specs.Prelude.{Result, ⊤}
use Rattle.laws.proofs.Cases.{true_false}
use Rattle.laws.proofs.Tests.{both_of}
use Rattle.tree.specs.Tree.{Tree, tree_of}
use Rattle.tree.specs.Returns.{backb}
use Rattle.fork.specs.Inside.{Known, LongForks}
use Rattle.fork.specs.declared.Forks.{Forks}
use Rattle.fork.proofs.Rule.{back_yes}
use Rattle.fork.proofs.Knowing.{known_finished, known_kinds, known_heights, known_parents}
use Rattle.groups.specs.Calls.{Started, Flattened}
use Rattle.groups.specs.declared.Groups.{Groups}
use Rattle.groups.proofs.Answers.{grouped_start}
use Rattle.links.specs.declared.Tear.{Tear}
use Rattle.links.proofs.Tying.{none_together}
use Rattle.spans.specs.Inside.{Spannable, Spanned}
use Rattle.spans.proofs.Knowing.{known_ended}
use Rattle.descents.specs.Inside.{Walkable, Tied, Grouping}
use Rattle.descents.proofs.Sorting.{sorted_alike}

module _ {n m : ℕ} {ends kinds heights parents : List ℕ} (k : Known n m ends kinds heights parents) where
  abbrev S : Tree
  S = tree_of n m ends kinds heights parents

  pub group_spannable : {forks : Forks} → LongForks forks → Spannable S m ends kinds heights forks
  group_spannable l =
      record {
        same_lines = refl;
        finished = known_finished k;
        ended = known_ended k;
        each_kind = known_kinds k;
        each_height = known_heights k;
        long = l;
      }

  back_one : (b : ℕ) → b < m → backb S b ≡ true → get_or kinds b 0 ≡ 1
  back_one b h e = let q = both_of e in (known_kinds k).is_back b ((known_finished k).every b h, not-true _ q.1)

  one_back : (b : ℕ) → b < m → backb S b ≡ false → get_or kinds b 0 ≡ 1 → ⊥
  one_back b h e z = true_false (back_yes S b ((known_kinds k).back b h (λ y. omega arith))) e

  pub group_walkable : {forks : Forks} {g : Groups} → Spanned S forks → Started m kinds g → Walkable S n m heights parents forks g
  group_walkable {g = g} s t =
      record {
        same_vertices = refl;
        same_lines = refl;
        finished = known_finished k;
        each_height = known_heights k;
        each_parent = known_parents k;
        spanned = s;
        sound = record { few = k.few_lines; together = none_together S _ (grouped_start m (backb S) kinds g back_one one_back t) };
      }

  pub group_flattenable : {forks : Forks} {g : Groups} {r : Result ⊤ Tear} → Tied S forks g r → m ≤ 2048
  group_flattenable t = k.few_lines

  pub group_flattened : {forks : Forks} {g g' : Groups} {r : Result ⊤ Tear} → Tied S forks g r → Flattened m g g' → Grouping S forks g' r
  group_flattened t f = record { sorted = sorted_alike S (omega arith) f.alike t.sorted; tabled = t.tabled }
