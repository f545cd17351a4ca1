-- The walk as code: at v the lines of the fan that were taken are done, and what they led to is in its groups. Nothing is found twice.
use mathlib.Core.List.{List, [], ◌∷◌, ◌++◌, append-nil, append_assoc}
use mathlib.Core.Path.{◌≡◌, refl, sym, ◌∙◌, ap, subst}
use Prim.Native.Nat.{ℕ, ◌+◌, ◌<◌}
use native.Mathlib.Omega.{arith}
use lib.ListN.{length, get_or, length-append}
use Rattle.laws.specs.Counting.{many}
use Rattle.laws.specs.Lists.{at}
use Rattle.laws.specs.Sorting.{gather}
use Rattle.laws.proofs.Lists.{All, all_many}
use Rattle.laws.proofs.Occurring.{many_append}
use Rattle.laws.proofs.Places.{gather_append}
use Rattle.laws.proofs.Gathering.{gather_nil, gather_cons}
use Rattle.tree.specs.Tree.{Tree}
use Rattle.tree.specs.Words.{Leaves}
use Rattle.tree.specs.Searched.{Searched}
use Rattle.fans.specs.Fan.{fan}
use Rattle.std.specs.Prelude.{Option, None, Some}
use Rattle.fork.specs.declared.Forks.{Forks}
use Rattle.fans.specs.declared.chains.Chains.{Chains}
use Rattle.network.specs.Inside.{Names}
use Rattle.fans.specs.Chains.{ListsChained}
use Rattle.fans.proofs.Hanging.{chained_short, Leads, leads, Ahead, ahead, remaining, remaining_less}
use Rattle.clockwise.specs.Order.{discovered}
use Rattle.clockwise.specs.Walks.{Fanned, Over, groups_of, SettingOut, WalkedBack}
use Rattle.clockwise.proofs.Leaving.{fanned}
use Rattle.clockwise.proofs.Discovered.{by_way, discovered_here, over, once, many_self}

pub record Walking (S : Tree) (found : List ℕ) (v h : ℕ) (choice : List ℕ) (fans : Chains) (path₀ path : List ℕ) (groups : Chains) (next : Option ℕ) : Type 0 where
  pub done : List ℕ
  pub rest : List ℕ
  pub fan_is : fan S (at choice) v ≡ done ++ rest
  pub chain : Leads fans.after next rest
  pub path_long : length path ≡ 512
  pub path_kept : (j : ℕ) → j < h → get_or path j 0 ≡ get_or path₀ j 0
  pub grouped : ListsChained groups (groups_of S (at choice) (found ++ gather (by_way S (fan S (at choice)) S.vertices) done))

module _ {S : Tree} {found : List ℕ} {v h : ℕ} {forks : Forks} {uppers choice : List ℕ} {fans : Chains} {path₀ : List ℕ} {groups₀ : Chains}
    (O : SettingOut S found v h forks uppers choice fans path₀ groups₀) where
  X : Searched S
  X = O.finished.searched

  abbrev out : ℕ → List ℕ
  out = fan S (at choice)

  abbrev B : ℕ → List ℕ
  B = by_way S (fan S (at choice)) S.vertices

  F : Fanned S (fan S (at choice))
  F = fanned S (at choice)

  pub walk_vertex : v < 1024
  walk_vertex = omega (arith, O.vertex_in, O.finished.few_vertices)

  pub walk_height : h < 512
  walk_height = omega (arith, O.level, X.height_small v O.vertex_in, O.finished.few_vertices)

  pub walk_start : {o : Option ℕ} → Names (at fans.first v) o → Walking S found v h choice fans path₀ path₀ groups₀ o
  walk_start {o} names =
      record {
        done = [];
        rest = out v;
        fan_is = refl;
        chain = leads fans.after _ o (out v) names (O.fanned.chains v walk_vertex) (O.fanned.small v walk_vertex);
        path_long = O.path_long;
        path_kept = λ j k. refl;
        grouped =
            subst (λ (l : List ℕ). ListsChained groups₀ (groups_of S (at choice) l))
            (sym (ap (λ (l : List ℕ). found ++ l) (gather_nil B) ∙ append-nil found)) O.grouped;
      }

  module _ {path : List ℕ} {groups : Chains} {o : Option ℕ} (W : Walking S found v h choice fans path₀ path groups o) where
    abbrev so_far : List ℕ
    so_far = found ++ gather B W.done

    -- the fan is done
    pub walk_done : o ≡ None → WalkedBack S found v h choice path₀ path groups
    walk_done is =
        let none : W.rest ≡ [] = subst (λ (p : Option ℕ). Leads fans.after p W.rest) is W.chain in
        let q : discovered S out S.vertices v ≡ gather B W.done =
        discovered_here S X out F v O.vertex_in ∙ ap (gather B) (W.fan_is ∙ ap (λ (l : List ℕ). W.done ++ l) none ∙ append-nil W.done) in
        record {
          path_long = W.path_long;
          path_kept = W.path_kept;
          grouped = subst (λ (l : List ℕ). ListsChained groups (groups_of S (at choice) (found ++ l))) (sym q) W.grouped;
        }

    module _ {e : ℕ} (is : o ≡ Some e) where
      rest_small : All (λ y. y < 2048) W.rest
      rest_small = right W.done (subst (λ (l : List ℕ). All (λ y. y < 2048) l) W.fan_is (O.fanned.small v walk_vertex))
        where
          right : (a : List ℕ) → All (λ y. y < 2048) (a ++ W.rest) → All (λ y. y < 2048) W.rest
          right [] s = s
          right (y ∷ a) s = right a s.1

      -- the rest of the fan
      pub onward : Ahead fans.after e W.rest
      onward = ahead fans.after o e W.rest W.chain is rest_small

      pub walk_fan : fan S (at choice) v ≡ W.done ++ (e ∷ onward.later)
      walk_fan = W.fan_is ∙ ap (λ (l : List ℕ). W.done ++ l) onward.is

      pub walk_leaves : Leaves S v e
      walk_leaves =
          all_many (Leaves S v) e (out v) (F.leaves v O.vertex_in)
          (omega (arith, ap (many e) walk_fan, many_append e W.done (e ∷ onward.later), many_append e (e ∷ []) onward.later, many_self e))

      pub walk_line : e < 2048
      walk_line = onward.small

      pub walk_less : (next : Option ℕ) → Names (at fans.after e) next → remaining fans.after next < remaining fans.after o
      walk_less next names =
          remaining_less fans.after o e W.rest onward is (omega (arith, chained_short fans out O.fanned v walk_vertex, ap length W.fan_is, length-append W.done W.rest)) next names

      -- what is discovered by way of e was not discovered before
      pub walk_fresh : (b : ℕ) → 0 < many b (by_way S (fan S (at choice)) S.vertices e) → many b (found ++ gather (by_way S (fan S (at choice)) S.vertices) W.done) ≡ 0
      walk_fresh b p =
          let A = onward in
          let all : discovered S out S.vertices v ≡ gather B W.done ++ (B e ++ gather B A.later) =
          discovered_here S X out F v O.vertex_in
          ∙ ap (gather B) walk_fan
          ∙ gather_append B W.done (e ∷ A.later)
          ∙ ap (λ (l : List ℕ). gather B W.done ++ l) (gather_cons B e A.later) in
          let sum : many b (discovered S out S.vertices v) ≡ many b (gather B W.done) + (many b (B e) + many b (gather B A.later)) =
          ap (many b) all ∙ many_append b (gather B W.done) (B e ++ gather B A.later) ∙ ap (λ (x : ℕ). many b (gather B W.done) + x) (many_append b (B e) (gather B A.later)) in
          let o = all_many (Over S v) b (discovered S out S.vertices v) (over S X out F S.vertices v O.vertex_in) (omega arith) in
          omega (
            arith,
            many_append b found (gather B W.done),
            O.fresh b o,
            once S X out F S.vertices v b O.vertex_in (omega arith) o.is_back o.from,
          )

      -- e and what it led to are done
      further : found ++ gather B (W.done ++ (e ∷ [])) ≡ so_far ++ B e
      further =
          ap (λ (l : List ℕ). found ++ l)
          (gather_append B W.done (e ∷ [])
          ∙ ap (λ (l : List ℕ). gather B W.done ++ l) (gather_cons B e [] ∙ ap (λ (l : List ℕ). B e ++ l) (gather_nil B) ∙ append-nil (B e)))
          ∙ sym (append_assoc found (gather B W.done) (B e))

      pub walk_onward : {path' : List ℕ} {groups' : Chains} {next : Option ℕ} → Names (at fans.after e) next → length path' ≡ 512 → ((j : ℕ) → j < h → get_or path' j 0 ≡ get_or path₀ j 0)
          → ListsChained groups' (groups_of S (at choice) (so_far ++ B e)) → Walking S found v h choice fans path₀ path' groups' next
      walk_onward {path'} {groups'} {next} names long kept grouped =
          record {
            done = W.done ++ (e ∷ []);
            rest = onward.later;
            fan_is = walk_fan ∙ sym (append_assoc W.done (e ∷ []) onward.later);
            chain = leads fans.after _ next onward.later names onward.chain onward.smalls;
            path_long = long;
            path_kept = kept;
            grouped = subst (λ (l : List ℕ). ListsChained groups' (groups_of S (at choice) l)) (sym further) grouped;
          }
