-- The walk comes upon a back line: its stem stands on the path, where the height at which it ends says, and so it goes to its group.
use mathlib.Core.Bool.{Bool, cond}
use mathlib.Core.List.{List, [], ◌∷◌, ◌++◌}
use mathlib.Core.Path.{◌≡◌, sym, ◌∙◌, ap, subst}
use Prim.Native.Nat.{ℕ, suc, ◌+◌, ◌*◌, ◌<◌}
use native.Mathlib.Omega.{arith}
use lib.Dec.{eqb}
use lib.ListN.{get_or}
use borrow.Author.Tests.{eq-eqb, ne_eqb}
use Rattle.laws.specs.Counting.{many}
use Rattle.laws.specs.Lists.{keep, at}
use Rattle.laws.specs.Sorting.{gather}
use Rattle.laws.proofs.Cases.{cases, bool}
use Rattle.laws.proofs.Occurring.{many_reverse}
use Rattle.laws.proofs.Keeping.{not_kept, front_yes, front_no}
use Rattle.tree.specs.Tree.{Tree}
use Rattle.tree.specs.Returns.{end}
use Rattle.tree.specs.Words.{TreeLine, BackLine, Above}
use Rattle.tree.specs.Searched.{Searched}
use Rattle.fans.specs.Fan.{fan}
use Rattle.std.specs.Prelude.{Option, Some}
use Rattle.network.specs.Marks.{absent}
use Rattle.fork.specs.declared.Forks.{Forks}
use Rattle.fans.specs.declared.chains.Chains.{Chains}
use Rattle.network.specs.Inside.{Names}
use Rattle.fans.specs.Chains.{ListsChained, hung}
use Rattle.fans.proofs.Hanging.{chained_hang}
use Rattle.clockwise.specs.Order.{discovered}
use Rattle.clockwise.specs.Walks.{Stem, group_of, groups_of, Collectable, OnPath, SettingOut}
use Rattle.clockwise.proofs.Discovered.{by_way, many_self}
use Rattle.clockwise.proofs.Stems.{stem_is}
use Rattle.clockwise.proofs.Walking.{Walking, walk_height, walk_leaves, walk_line, walk_fresh, walk_onward}

module _ {S : Tree} {found : List ℕ} {v h : ℕ} {forks : Forks} {uppers choice : List ℕ} {fans : Chains} {path₀ : List ℕ} {groups₀ : Chains} (O : SettingOut S found v h forks uppers choice fans path₀ groups₀)
    {path : List ℕ} {groups : Chains} {o : Option ℕ} (W : Walking S found v h choice fans path₀ path groups o) {e : ℕ} (is : o ≡ Some e)
    (none : get_or uppers e 0 ≡ absent) where
  X : Searched S
  X = O.finished.searched

  abbrev out : ℕ → List ℕ
  out = fan S (at choice)

  abbrev B : ℕ → List ℕ
  B = by_way S (fan S (at choice)) S.vertices

  abbrev so_far : List ℕ
  so_far = found ++ gather (by_way S (fan S (at choice)) S.vertices) W.done

  is_back : BackLine S e
  is_back =
      cases (bool (S.tree e))
      (λ t.
      let l : TreeLine S e = ((walk_leaves O W is).line, t) in
      absurd (omega (arith, O.raised.trees e l, X.target_in e l.0, O.finished.few_vertices)))
      (λ t. ((walk_leaves O W is).line, t))

  way_back : B e ≡ e ∷ []
  way_back = ap (λ (b : Bool). cond b (discovered S out S.vertices (S.target e)) (e ∷ [])) is_back.1

  stop_is : at forks.stop e ≡ end S e
  stop_is = O.spans.stops e is_back

  from_v : S.source e ≡ v
  from_v = (walk_leaves O W is).from

  stop_low : end S e < h
  stop_low = let q : S.height (S.source e) ≡ S.height v = ap S.height from_v in omega (arith, X.fall e is_back, O.level)

  abbrev stem : ℕ
  stem = get_or path (at forks.stop e) 0

  on_path : OnPath S v (suc (end S e)) stem
  on_path =
      subst (λ (x : ℕ). OnPath S v (suc (end S e)) x)
      (sym (ap (λ (j : ℕ). get_or path j 0) stop_is ∙ W.path_kept (end S e) stop_low)) (O.path_known (end S e) stop_low)

  pub walk_collects : Collectable e forks choice path
  walk_collects =
      record {
        line_in = walk_line O W is;
        in_choice = omega (arith, (walk_leaves O W is).line.below, O.choice_long);
        stop_in = omega (arith, stop_is, stop_low, walk_height O);
        stem_in = omega (arith, on_path.inside, O.finished.few_vertices);
        side_in = O.bits e is_back;
      }

  pub walk_collected : {groups' : Chains} → groups' ≡ hung e (2 * get_or path (at forks.stop e) 0 + get_or choice e 0) groups
      → {next : Option ℕ} → Names (at fans.after e) next → Walking S found v h choice fans path₀ path groups' next
  walk_collected {groups'} hangs names =
      let side = at choice in
      let g = 2 * stem + get_or choice e 0 in
      let stems : Stem S e stem = record {
        inside = on_path.inside;
        over = subst (λ (y : ℕ). Above S stem y) (sym from_v) on_path.above;
        level = on_path.level;
      } in
      let own : group_of S side e ≡ g = ap (λ (y : ℕ). 2 * y + get_or choice e 0) (stem_is S X e stem stems) in
      let p : ℕ → ℕ → Bool = λ j b. eqb (group_of S side b) j in
      let gone : many e so_far ≡ 0 = walk_fresh O W is e (omega (arith, ap (many e) way_back, many_self e)) in
      let grown = chained_hang groups (groups_of S side so_far) W.grouped (groups_of S side (so_far ++ (e ∷ []))) g e
      (omega (arith, on_path.inside, O.finished.few_vertices, O.bits e is_back)) (walk_line O W is)
      (λ j k. many_reverse e (keep (p j) so_far) ∙ not_kept (p j) e so_far gone)
      (front_yes (p g) so_far e (eq-eqb (group_of S side e) g own))
      (λ j k n. front_no (p j) so_far e (ne_eqb (group_of S side e) j (λ z. n (sym z ∙ own)))) in
      walk_onward O W is names W.path_long W.path_kept
      (subst (λ (t : Chains). ListsChained t (groups_of S side (so_far ++ B e))) (sym hangs)
      (subst (λ (l : List ℕ). ListsChained (hung e g groups) (groups_of S side (so_far ++ l))) (sym way_back) grown))
