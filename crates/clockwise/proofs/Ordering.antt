-- From the groups to the order: the lists that the code lays out are those of the definition.
use mathlib.Core.Bool.{Bool, cond}
use mathlib.Core.List.{List, [], ◌∷◌, ◌++◌, reverse}
use mathlib.Core.Logic.{◌≢◌}
use mathlib.Core.Path.{◌≡◌, refl, sym, ◌∙◌, ap, subst}
use Prim.Native.Nat.{ℕ, ◌+◌, ◌*◌, ◌≤◌, ◌<◌}
use native.Mathlib.Omega.{arith}
use lib.Dec.{eqb}
use lib.ListN.{length, get_or, take, replicate, length-replicate}
use borrow.Author.Tests.{eq-eqb, ne_eqb}
use Rattle.laws.specs.Tests.{both}
use Rattle.laws.specs.Lists.{keep, upto, at}
use Rattle.laws.specs.Sorting.{gather}
use Rattle.laws.proofs.Cases.{cases, bool, true_false, lt_or, eq_or}
use Rattle.laws.proofs.Tests.{both_yes, both_no_first, both_no_second}
use Rattle.laws.proofs.Counting.{many_nil}
use Rattle.laws.proofs.Lists.{all_map, keep_nil, keep_same}
use Rattle.laws.proofs.Gathering.{keep_both, gather_same}
use Rattle.laws.proofs.Lengths.{gather_upto}
use Rattle.side.specs.Sides.{left, right}
use Rattle.network.specs.Marks.{absent}
use Rattle.tree.specs.Tree.{Tree}
use Rattle.tree.specs.Words.{BackLine, Leaves}
use Rattle.tree.specs.Searched.{Searched}
use Rattle.fans.specs.Fan.{is_left, is_right, fan}
use Rattle.fork.specs.declared.Forks.{Forks}
use Rattle.fans.specs.declared.chains.Chains.{Chains}
use Rattle.fans.specs.Chains.{list_in, ListsChained, no_lists}
use Rattle.fans.proofs.Hanging.{chained_list, chained_as}
use Rattle.clockwise.specs.Order.{discovered, incoming, beside, clockwise, order_at}
use Rattle.clockwise.specs.Walks.{Fanned, Over, Rooted, Uppers, stem_of, group_of, groups_of, SettingOut, WalkedBack}
use Rattle.clockwise.specs.Laying.{item_in, Upper, first_in, lines_at, Layable, LaidOut}
use Rattle.clockwise.specs.Ordering.{Orderable}
use Rattle.clockwise.proofs.Leaving.{fanned}
use Rattle.clockwise.proofs.Discovered.{over}
use Rattle.clockwise.proofs.Stems.{comes_from}
use Rattle.clockwise.proofs.Wholes.{order_full}
use Rattle.clockwise.proofs.Raising.{rooted_high}

module _ {S : Tree} {n m : ℕ} {parents : List ℕ} {forks : Forks} {choice : List ℕ} (P : Orderable S n m parents forks choice) where
  pub order_rooted : Rooted S n parents
  order_rooted =
      record {
        same_vertices = P.same_vertices;
        some_vertex = P.some_vertex;
        finished = P.finished;
        leads = P.leads;
        root_low = P.root_low;
        rooted = P.rooted;
      }

  X : Searched S
  X = P.finished.searched

  abbrev side : ℕ → ℕ
  side = at choice

  abbrev out : ℕ → List ℕ
  out = fan S (at choice)

  F : Fanned S (fan S (at choice))
  F = fanned S (at choice)

  root_in : 0 < S.vertices
  root_in = omega (arith, P.same_vertices, P.some_vertex)

  -- all back lines, in the order of their discovery
  abbrev all_found : List ℕ
  all_found = discovered S (fan S (at choice)) S.vertices 0

  module _ {fans : Chains} (C : ListsChained fans (fan S (at choice))) {uppers : List ℕ} (U : Uppers S uppers) where
    pub order_sets_out : {groups : Chains} → ListsChained groups no_lists → SettingOut S [] 0 0 forks uppers choice fans (replicate 512 0) groups
    order_sets_out {groups} blank =
        record {
          finished = P.finished;
          spans = P.tabled.spans;
          raised = U;
          choice_long = omega (arith, P.same_lines, P.choice_long);
          bits = P.bits;
          fanned = C;
          vertex_in = root_in;
          level = P.root_low;
          path_long = length-replicate {A = ℕ} 512 0;
          path_known = λ j h. absurd (omega arith);
          fresh = λ b o. many_nil b;
          grouped = chained_as groups no_lists blank (groups_of S side []) (λ g h. sym (ap reverse (keep_nil (λ b. eqb (group_of S side b) g))));
        }

    module _ {path₀ path : List ℕ} {groups : Chains} (W : WalkedBack S [] 0 0 choice path₀ path groups) where
      -- a group, by the side and the stem
      group_is : (s w : ℕ) (p : ℕ → Bool) → s ≤ 1 → w < S.vertices → ((b : ℕ) → BackLine S b → eqb (get_or choice b 0) s ≡ p b)
          → list_in groups (2 * w + s) ≡ reverse (keep p (keep (λ b. eqb (stem_of S b) w) (discovered S (fan S (at choice)) S.vertices 0)))
      group_is s w p small w_in same =
          let q : ℕ → Bool = λ b. eqb (stem_of S b) w in
          chained_list groups (groups_of S side all_found) W.grouped (2 * w + s) (omega (arith, P.finished.few_vertices))
          ∙ ap reverse
          (keep_same (λ b. eqb (group_of S side b) (2 * w + s)) (λ b. both (q b) (p b)) all_found
          (all_map (Over S 0) (λ b. eqb (group_of S side b) (2 * w + s) ≡ both (q b) (p b)) all_found
          (λ b o. tells (stem_of S b) (get_or choice b 0) (p b) (P.bits b o.is_back) (same b o.is_back)) (over S X out F S.vertices 0 root_in))
          ∙ sym (keep_both p q all_found))
        where
          tells : (t x : ℕ) (y : Bool) → x ≤ 1 → eqb x s ≡ y → eqb (2 * t + x) (2 * w + s) ≡ both (eqb t w) y
          tells t x y h z =
              cases (eq_or t w)
              (λ i.
              cases (eq_or x s)
              (λ j. eq-eqb (2 * t + x) (2 * w + s) (omega arith) ∙ sym (both_yes (eq-eqb t w i) (sym z ∙ eq-eqb x s j)))
              (λ j. let j' : x ≢ s = j in ne_eqb (2 * t + x) (2 * w + s) (λ k. omega arith) ∙ sym (both_no_second (eqb t w) y (sym z ∙ ne_eqb x s j))))
              (λ i. let i' : t ≢ w = i in ne_eqb (2 * t + x) (2 * w + s) (λ k. omega arith) ∙ sym (both_no_first (eqb t w) y (ne_eqb t w i)))

      right_same : (b : ℕ) → BackLine S b → eqb (get_or choice b 0) right ≡ is_right (at choice) b
      right_same b l =
          cases (eq_or (get_or choice b 0) 0)
          (λ e. rw e)
          (λ d.
          let d' : get_or choice b 0 ≢ 0 = d in
          let one : get_or choice b 0 ≡ 1 = omega (arith, P.bits b l) in
          rw one)

      -- the company of a line
      item_is : (v e : ℕ) → Leaves S v e → item_in uppers groups e ≡ beside S (fan S (at choice)) (at choice) v e
      unfolding beside incoming
      item_is v e le =
          let I = keep (λ b. eqb (S.target b) v) (discovered S out S.vertices (S.target e)) in
          let A = reverse (keep (is_left side) I) ++ (e ∷ reverse (keep (is_right side) I)) in
          cases (bool (S.tree e))
          (λ t.
          let w = S.target e in
          let w_in = X.target_in e le.line in
          let upper : get_or uppers e 0 ≡ w = U.trees e (le.line, t) in
          let same = comes_from S X out F 0 root_in (λ u h. P.rooted u (omega (arith, P.same_vertices))) v e le t in
          let lefts : list_in groups (2 * w + left) ≡ reverse (keep (is_left side) I) =
          group_is left w (is_left side) (omega arith) w_in (λ b l. refl) ∙ ap (λ (l : List ℕ). reverse (keep (is_left side) l)) same in
          let rights : list_in groups (2 * w + right) ≡ reverse (keep (is_right side) I) =
          group_is right w (is_right side) (omega arith) w_in right_same ∙ ap (λ (l : List ℕ). reverse (keep (is_right side) l)) same in
          ap (λ (b : Bool). cond b (e ∷ []) (list_in groups (2 * get_or uppers e 0 + left) ++ (e ∷ list_in groups (2 * get_or uppers e 0 + right))))
          (ne_eqb (get_or uppers e 0) absent (λ z. omega (arith, P.finished.few_vertices)))
          ∙ ap (λ (x : ℕ). list_in groups (2 * x + left) ++ (e ∷ list_in groups (2 * x + right))) upper
          ∙ ap (λ (l : List ℕ). l ++ (e ∷ list_in groups (2 * w + right))) lefts
          ∙ ap (λ (l : List ℕ). reverse (keep (is_left side) I) ++ (e ∷ l)) rights
          ∙ sym (ap (λ (b : Bool). cond b A (e ∷ [])) t))
          (λ t.
          ap (λ (b : Bool). cond b (e ∷ []) (list_in groups (2 * get_or uppers e 0 + left) ++ (e ∷ list_in groups (2 * get_or uppers e 0 + right))))
          (eq-eqb (get_or uppers e 0) absent (U.others e (omega (arith, le.line.below, P.finished.few_lines)) (λ l. true_false l.1 t)))
          ∙ sym (ap (λ (b : Bool). cond b A (e ∷ [])) t))

      first_is : (v : ℕ) → v < n → first_in parents v ≡ cond (eqb (S.height v) 0) [] (S.parent v ∷ [])
      first_is v h =
          cases (eq_or v 0)
          (λ e. rw (eq-eqb v 0 e, eq-eqb (S.height v) 0 (ap S.height e ∙ P.root_low)))
          (λ d.
          let high = rooted_high order_rooted v h d in
          rw (ne_eqb v 0 d, ne_eqb (S.height v) 0 (λ z. omega arith)) (ap (λ (x : ℕ). x ∷ []) (P.leads.each v (omega (arith, P.same_vertices)))))

      lists_are : (v : ℕ) → v < n → lines_at parents uppers fans groups v ≡ order_at S (at choice) v
      unfolding clockwise
      lists_are v h =
          let v_in : v < S.vertices = omega (arith, P.same_vertices) in
          let few : v < 1024 = omega (arith, P.finished.few_vertices) in
          ap (λ (l : List ℕ). l ++ gather (item_in uppers groups) (list_in fans v)) (first_is v h)
          ∙ ap (λ (l : List ℕ). cond (eqb (S.height v) 0) [] (S.parent v ∷ []) ++ l)
          (ap (gather (item_in uppers groups)) (chained_list fans out C v few)
          ∙ gather_same (item_in uppers groups) (beside S out side v) (out v)
          (all_map (Leaves S v) (λ e. item_in uppers groups e ≡ beside S out side v e) (out v) (λ e le. item_is v e le) (F.leaves v v_in)))

      upper_is : (e : ℕ) → e < 2048 → Upper uppers e
      upper_is e h d =
          cases (lt_or e S.lines)
          (λ l.
          cases (bool (S.tree e))
          (λ t. omega (arith, U.trees e (P.finished.every e l, t), X.target_in e (P.finished.every e l), P.finished.few_vertices))
          (λ t. absurd (d (U.others e h (λ f. true_false f.1 t)))))
          (λ l. absurd (d (U.others e h (λ f. omega (arith, f.0.below)))))

      pub order_layable : Layable n parents uppers fans groups
      order_layable =
          record {
            few = omega (arith, P.same_vertices, P.finished.few_vertices);
            upper = upper_is;
            fanned = chained_as fans out C (list_in fans) (λ v h. sym (chained_list fans out C v h));
            grouped = chained_as groups (groups_of S side all_found) W.grouped (list_in groups) (λ g h. sym (chained_list groups (groups_of S side all_found) W.grouped g h));
            room = omega (
              arith,
              ap length (gather_upto (lines_at parents uppers fans groups) (order_at S side) n n (omega arith) lists_are),
              ap (λ (x : ℕ). length (gather (order_at S side) (upto x))) P.same_vertices,
              order_full S P.finished root_in side,
              P.finished.few_lines,
            );
          }

      pub order_done : {order starts : List ℕ} → LaidOut n (lines_at parents uppers fans groups) order starts → LaidOut n (order_at S (at choice)) order starts
      order_done {order} {starts} L =
          let same : (v : ℕ) → v ≤ n → gather (lines_at parents uppers fans groups) (upto v) ≡ gather (order_at S side) (upto v) =
          λ v h. gather_upto (lines_at parents uppers fans groups) (order_at S side) n v h lists_are in
          record {
            order_long = L.order_long;
            starts_long = L.starts_long;
            written = subst (λ (l : List ℕ). take (length l) order ≡ l) (same n (omega arith)) L.written;
            starts_at = λ v h. L.starts_at v h ∙ ap length (same v h);
          }
