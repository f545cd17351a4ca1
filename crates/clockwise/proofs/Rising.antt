-- The walk goes up a tree line: what it needs to set out from its upper end, and what it knows when it is back.
use mathlib.Core.Bool.{Bool, cond}
use mathlib.Core.List.{List, [], ◌∷◌, ◌++◌}
use mathlib.Core.Logic.{◌≢◌}
use mathlib.Core.Path.{◌≡◌, sym, ◌∙◌, ap, subst}
use Prim.Native.Nat.{ℕ, suc, ◌+◌, ◌<◌}
use native.Mathlib.Omega.{arith}
use lib.ListN.{get_or, set, length-set}
use lib.Seq.{get_or-set_same, get_or-set_other}
use Rattle.laws.specs.Counting.{many}
use Rattle.laws.specs.Lists.{at}
use Rattle.laws.specs.Sorting.{gather}
use Rattle.laws.proofs.Cases.{cases, bool, true_false, eq_or}
use Rattle.tree.specs.Tree.{Tree}
use Rattle.tree.specs.Words.{TreeLine, Above}
use Rattle.tree.specs.Searched.{Searched}
use Rattle.fans.specs.Fan.{fan}
use Rattle.std.specs.Prelude.{Option, Some}
use Rattle.network.specs.Marks.{absent}
use Rattle.fork.specs.declared.Forks.{Forks}
use Rattle.fans.specs.declared.chains.Chains.{Chains}
use Rattle.network.specs.Inside.{Names}
use Rattle.fans.specs.Chains.{ListsChained}
use Rattle.clockwise.specs.Order.{discovered}
use Rattle.clockwise.specs.Walks.{groups_of, OnPath, SettingOut, WalkedBack}
use Rattle.clockwise.proofs.Leaving.{fanned}
use Rattle.clockwise.proofs.Discovered.{by_way, once}
use Rattle.clockwise.proofs.Walking.{Walking, walk_height, walk_leaves, walk_line, walk_fresh, walk_onward}

module _ {S : Tree} {found : List ℕ} {v h : ℕ} {forks : Forks} {uppers choice : List ℕ} {fans : Chains} {path₀ : List ℕ} {groups₀ : Chains} (O : SettingOut S found v h forks uppers choice fans path₀ groups₀)
    {path : List ℕ} {groups : Chains} {o : Option ℕ} (W : Walking S found v h choice fans path₀ path groups o) {e : ℕ} (is : o ≡ Some e)
    {w : ℕ} (upper : (w ≡ get_or uppers e 0) × (w < absent)) where
  X : Searched S
  X = O.finished.searched

  abbrev out : ℕ → List ℕ
  out = fan S (at choice)

  abbrev B : ℕ → List ℕ
  B = by_way S (fan S (at choice)) S.vertices

  abbrev so_far : List ℕ
  so_far = found ++ gather (by_way S (fan S (at choice)) S.vertices) W.done

  is_tree : TreeLine S e
  is_tree =
      cases (bool (S.tree e))
      (λ t. ((walk_leaves O W is).line, t))
      (λ t. absurd (omega (arith, upper, O.raised.others e (walk_line O W is) (λ l. true_false l.1 t))))

  to_w : S.target e ≡ w
  to_w = sym (upper.0 ∙ O.raised.trees e is_tree)

  w_in : w < S.vertices
  w_in = subst (λ (y : ℕ). y < S.vertices) to_w (X.target_in e is_tree.0)

  up : S.height w ≡ h + 1
  up =
      let q : S.height (S.source e) ≡ S.height v = ap S.height (walk_leaves O W is).from in
      let r : S.height (S.target e) ≡ S.height w = ap S.height to_w in
      omega (arith, X.rise e is_tree, O.level)

  way_up : B e ≡ discovered S out S.vertices w
  way_up = ap (λ (b : Bool). cond b (discovered S out S.vertices (S.target e)) (e ∷ [])) is_tree.1 ∙ ap (discovered S out S.vertices) to_w

  step : Above S v w
  step = subst (λ (y : ℕ). Above S v y) to_w (subst (λ (y : ℕ). Above S y (S.target e)) (walk_leaves O W is).from (X.above_line e is_tree))

  pub walk_up : SettingOut S (found ++ gather (by_way S (fan S (at choice)) S.vertices) W.done) w (h + 1) forks uppers choice fans (set path h w) groups
  walk_up =
      record {
        finished = O.finished;
        spans = O.spans;
        raised = O.raised;
        choice_long = O.choice_long;
        bits = O.bits;
        fanned = O.fanned;
        vertex_in = w_in;
        level = up;
        path_long = length-set path h w ∙ W.path_long;
        path_known = λ j k.
            cases (eq_or j h)
            (λ z.
            subst (λ (y : ℕ). OnPath S w (suc j) y) (sym (ap (λ (y : ℕ). get_or (set path h w) y 0) z ∙ get_or-set_same path h w 0 (omega (arith, W.path_long, walk_height O))))
            (record { inside = w_in; above = X.above_self w; level = omega (arith, up) }))
            (λ n.
            let n' : j ≢ h = n in
            let below : j < h = omega arith in
            let o = O.path_known j below in
            subst (λ (y : ℕ). OnPath S w (suc j) y) (sym (get_or-set_other path h j w 0 n ∙ W.path_kept j below))
            (record { inside = o.inside; above = X.above_trans (get_or path₀ j 0) v w o.above step; level = o.level }));
        fresh = λ b o. walk_fresh O W is b (omega (arith, ap (many b) way_up, once S X out (fanned S (at choice)) S.vertices w b w_in (omega arith) o.is_back o.from));
        grouped = W.grouped;
      }

  pub walk_back : {path' : List ℕ} {groups' : Chains}
      → WalkedBack S (found ++ gather (by_way S (fan S (at choice)) S.vertices) W.done) w (h + 1) choice (set path h w) path' groups'
      → {next : Option ℕ} → Names (at fans.after e) next → Walking S found v h choice fans path₀ path' groups' next
  walk_back {path'} {groups'} R names =
      walk_onward O W is names R.path_long
      (λ j k. R.path_kept j (omega arith) ∙ get_or-set_other path h j w 0 (λ z. omega arith) ∙ W.path_kept j k)
      (subst (λ (l : List ℕ). ListsChained groups' (groups_of S (at choice) (so_far ++ l))) (sym way_up) R.grouped)
