-- The tables that the search of a connected network leaves are those of a tree, so all the laws of a tree hold of them; every line is a tree line
-- or a back line, and the tree lines are one fewer than the vertices.
use mathlib.Core.Bool.{Bool, true, not}
use mathlib.Core.List.{List}
use mathlib.Core.Logic.{◌≢◌}
use mathlib.Core.Path.{◌≡◌, refl, sym, ◌∙◌, ap, subst}
use Prim.Native.Nat.{ℕ, zero, suc, ◌+◌, ◌*◌, ◌-◌, ◌≤◌, ◌<◌}
use native.Mathlib.Omega.{arith}
use lib.Dec.{eqb, ltb}
use lib.ListN.{get_or, take}
use borrow.Author.Tests.{eq-eqb, ne_eqb, eqb-true, eqb-false, lt-ltb, le-ltb, not-true}
use Rattle.laws.specs.Counting.{many, count}
use Rattle.laws.proofs.Cases.{cases, bool, eq_or}
use Rattle.laws.proofs.Counting.{count_same, count_eq, count_split, count_not_zero, many_count}
use Rattle.network.specs.Network.{Network, first, second, touches, other, Connected}
use Rattle.network.specs.Inside.{Fit}
use Rattle.network.specs.Marks.{back}
use Rattle.network.proofs.Lines.{touches_first, touches_of, other_first, other_second, other_in}
use Rattle.tree.specs.Tree.{higher, lower, climb}
use Rattle.tree.specs.Words.{Line}
use Rattle.tree.specs.Searched.{Searched}
use Rattle.tree.specs.Grown.{Grown}
use Rattle.tree.proofs.Grown.{searched}
use Rattle.search.specs.Machine.{State, finished, tree_in}
use Rattle.search.specs.Orient.{back_lines}
use Rattle.search.proofs.Steps.{Found}
use Rattle.search.proofs.Sound.{Sound, Rooted, line_down, below}
use Rattle.search.proofs.Deep.{Deep, home, finished_both}
use Rattle.search.proofs.Reached.{connected_found, line_used}

-- which end is the higher

first_higher : (ends height : List ℕ) (k : ℕ) → get_or height (second ends k) 0 ≤ get_or height (first ends k) 0 → (higher ends height k ≡ first ends k) × (lower ends height k ≡ second ends k)
unfolding higher lower
first_higher ends height k l = let q = le-ltb (get_or height (first ends k) 0) (get_or height (second ends k) 0) l in (rw q, rw q)

second_higher : (ends height : List ℕ) (k : ℕ) → get_or height (first ends k) 0 < get_or height (second ends k) 0 → (higher ends height k ≡ second ends k) × (lower ends height k ≡ first ends k)
unfolding higher lower
second_higher ends height k l = let q = lt-ltb (get_or height (first ends k) 0) (get_or height (second ends k) 0) l in (rw q, rw q)

upper : (ends height : List ℕ) (v k : ℕ) → touches ends v k ≡ true → get_or height (other ends v k) 0 < get_or height v 0 → (higher ends height k ≡ v) × (lower ends height k ≡ other ends v k)
upper ends height v k t l =
    cases (eq_or (first ends k) v)
    (λ e.
    let o = other_first ends v k e in
    let a : get_or height (other ends v k) 0 ≡ get_or height (second ends k) 0 = ap (λ x. get_or height x 0) o in
    let b : get_or height (first ends k) 0 ≡ get_or height v 0 = ap (λ x. get_or height x 0) e in
    let q = first_higher ends height k (omega arith) in
    (q.0 ∙ e, q.1 ∙ sym o))
    (λ d.
    let o = other_second ends v k d in
    let e : second ends k ≡ v = cases (touches_of ends v k t) (λ x. absurd (d x)) (λ x. x) in
    let a : get_or height (other ends v k) 0 ≡ get_or height (first ends k) 0 = ap (λ x. get_or height x 0) o in
    let b : get_or height (second ends k) 0 ≡ get_or height v 0 = ap (λ x. get_or height x 0) e in
    let q = second_higher ends height k (omega arith) in
    (q.0 ∙ e, q.1 ∙ sym o))

module _ (net : Network) (fit : Fit net) (connected : Connected net) where
  abbrev s : State
  s = finished net

  abbrev h : ℕ → ℕ
  h v = get_or s.height v 0

  sound : Sound net s
  sound = (finished_both net fit).0

  deep : Deep net s
  deep = (finished_both net fit).1

  found : (v : ℕ) → v < net.vertices → Found s v
  found = connected_found net fit connected

  rooted : (v : ℕ) → v < net.vertices → 0 < h v → Rooted net s v
  rooted v g p = sound.rooted v g (found v g) (λ e. let z : h v ≡ h 0 = ap h e in omega (arith, sound.root_low))

  up_at : (v : ℕ) → v < net.vertices → 0 < h v → (higher net.ends s.height (line_down s v) ≡ v) × (lower net.ends s.height (line_down s v) ≡ below net s v)
  up_at v g p = let r = rooted v g p in upper net.ends s.height v (line_down s v) r.touch (omega (arith, r.higher))

  -- the way home is the climb
  home_climb : (k v : ℕ) → v < net.vertices → k ≤ h v
      → (home net.ends s.parent v k ≡ climb net.ends s.height s.parent k v) × (h (home net.ends s.parent v k) + k ≡ h v)
  unfolding home climb
  home_climb zero v g l = (refl, omega arith)
  home_climb (suc k) v g l =
      let r = rooted v g (omega arith) in
      let q = home_climb k (below net s v) (other_in net fit v _ r.is_line) (omega (arith, r.higher)) in
      (q.0 ∙ ap (climb net.ends s.height s.parent k) (sym (up_at v g (omega arith)).1), omega (arith, q.1, r.higher))

  tree_up : (t : ℕ) → t < net.lines → get_or s.kind t 0 ≡ 0
      → (get_or s.parent (higher net.ends s.height t) 0 ≡ t) × (h (higher net.ends s.height t) ≡ suc (h (lower net.ends s.height t)))
  tree_up t g e =
      let u = deep.ups t g e in
      let w = u.top in
      let r = sound.rooted w u.top_in u.top_found u.not_root in
      let q = up_at w u.top_in (omega (arith, r.higher)) in
      let a : higher net.ends s.height t ≡ w = subst (λ k. higher net.ends s.height k ≡ w) u.top_line q.0 in
      let b : lower net.ends s.height t ≡ below net s w = subst (λ k. lower net.ends s.height k ≡ below net s w) u.top_line q.1 in
      let x : h (higher net.ends s.height t) ≡ h w = ap h a in
      let y : h (lower net.ends s.height t) ≡ h (below net s w) = ap h b in
      (ap (line_down s) a ∙ u.top_line, omega (arith, r.higher))

  back_down : (b : ℕ) → get_or s.kind b 0 ≡ 1
      → (h (lower net.ends s.height b) < h (higher net.ends s.height b))
      × (climb net.ends s.height s.parent (h (higher net.ends s.height b) - h (lower net.ends s.height b)) (higher net.ends s.height b) ≡ lower net.ends s.height b)
  unfolding home
  back_down b e =
      let B = deep.backs b e in
      let foot = B.foot in
      let far = B.under.far in
      let o = other net.ends foot b in
      let c = home_climb far foot B.foot_in B.under.within in
      let ho : h (home net.ends s.parent foot far) ≡ h o = ap h B.under.reaches in
      let some : far ≢ 0 = λ z. B.proper (sym B.under.reaches ∙ ap (home net.ends s.parent foot) z) in
      let u = upper net.ends s.height foot b B.touch (omega (arith, c.1)) in
      let x : h (higher net.ends s.height b) ≡ h foot = ap h u.0 in
      let y : h (lower net.ends s.height b) ≡ h o = ap h u.1 in
      let k : h (higher net.ends s.height b) - h (lower net.ends s.height b) ≡ far = omega (arith, c.1) in (
        omega (arith, c.1),
        ap (λ j. climb net.ends s.height s.parent j (higher net.ends s.height b)) k
            ∙ ap (climb net.ends s.height s.parent far) u.0 ∙ sym c.0 ∙ B.under.reaches ∙ sym u.1,
      )

  pub grown : Grown net.vertices net.lines net.ends s.kind s.height s.parent
  grown =
      record {
        first_in = λ l g. fit.ends_in (2 * l) (omega arith);
        second_in = λ l g. fit.ends_in (2 * l + 1) (omega arith);
        found = λ v g p. let r = rooted v g p in (r.is_line, r.is_tree, (up_at v g p).0);
        up = tree_up;
        down = λ b g e. back_down b e;
      }

  -- all the laws of a tree
  pub tree_searched : Searched (tree_in net)
  tree_searched = searched net.vertices net.lines net.ends s.kind s.height s.parent grown

  -- every line is used
  pub line_kind : (k : ℕ) → k < net.lines → get_or s.kind k 0 < 2
  line_kind k g =
      let v = first net.ends k in
      let i : v < net.vertices = fit.ends_in (2 * k) (omega arith) in
      cases (sound.kinds k) (λ l. l) (λ u. absurd (line_used net fit v k i (found v i) g (touches_first net.ends v k refl) u))

  pub every_line : (k : ℕ) → k < net.lines → Line (tree_in net) k
  every_line k g = record { below = g; yes = lt-ltb (get_or s.kind k 0) 2 (line_kind k g) }

  -- only vertex 0 has no parent line
  pub root_only : (v : ℕ) → v < net.vertices → h v ≡ 0 → v ≡ 0
  root_only v g e = cases (eq_or v 0) (λ z. z) (λ z. absurd (omega (arith, (sound.rooted v g (found v g) z).higher)))

  -- Counting: each vertex but 0 has a tree line of its own

  abbrev tree_line : ℕ → Bool
  tree_line k = eqb (get_or s.kind k 0) 0

  abbrev grown_up : ℕ → Bool
  grown_up v = not (eqb v 0)

  upper_in : (t : ℕ) → t < net.lines → higher net.ends s.height t < net.vertices
  unfolding higher
  upper_in t l =
      cases (bool (ltb (h (first net.ends t)) (h (second net.ends t))))
      (λ b. rw b (fit.ends_in (2 * t + 1) (omega arith)))
      (λ b. rw b (fit.ends_in (2 * t) (omega arith)))

  above_root : (v : ℕ) → v < net.vertices → (v ≡ 0 → ⊥) → 0 < h v
  above_root v l d = omega (arith, (sound.rooted v l (found v l) d).higher)

  as_many : count tree_line net.lines ≡ count grown_up net.vertices
  as_many =
      count_eq (λ t v. (tree_line t ≡ true) × (higher net.ends s.height t ≡ v)) (λ v t. (grown_up v ≡ true) × (line_down s v ≡ t))
      tree_line grown_up net.lines net.vertices
      (λ t l e.
      let q = tree_up t l (eqb-true _ _ e) in
      let w = higher net.ends s.height t in
      let d : w ≡ 0 → ⊥ = λ z. let y : h w ≡ h 0 = ap h z in omega (arith, q.1, sound.root_low) in
      (w, upper_in t l, ap not (ne_eqb w 0 d), (e, refl)))
      (λ t t' v l l' a b. sym (tree_up t l (eqb-true _ _ a.0)).0 ∙ ap (line_down s) (a.1 ∙ sym b.1) ∙ (tree_up t' l' (eqb-true _ _ b.0)).0)
      (λ v l e.
      let r = sound.rooted v l (found v l) (eqb-false v 0 (not-true _ e)) in
      (line_down s v, r.is_line, eq-eqb _ _ r.is_tree, (e, refl)))
      (λ v v' t l l' a b.
      sym (up_at v l (above_root v l (eqb-false v 0 (not-true _ a.0)))).0
      ∙ ap (higher net.ends s.height) (a.1 ∙ sym b.1)
      ∙ (up_at v' l' (above_root v' l' (eqb-false v' 0 (not-true _ b.0)))).0)

  -- all vertices but one
  but_root : suc (count grown_up net.vertices) ≡ net.vertices
  but_root = count_not_zero net.vertices fit.some_vertex

  -- the tree lines are one fewer than the vertices, and the rest are back lines
  pub tree_lines : suc (count tree_line net.lines) ≡ net.vertices
  tree_lines = ap suc as_many ∙ but_root

  pub backs_counted : back_lines net + net.vertices ≡ net.lines + 1
  unfolding back_lines
  backs_counted =
      let few = fit.few_lines in
      let a : many back (take net.lines s.kind) ≡ count (λ k. eqb (get_or s.kind k 0) 1) net.lines =
      many_count 1 net.lines s.kind (omega (arith, sound.kinds_long)) in
      let b : count (λ k. eqb (get_or s.kind k 0) 1) net.lines ≡ count (λ k. not (tree_line k)) net.lines =
      count_same (λ k. eqb (get_or s.kind k 0) 1) (λ k. not (tree_line k)) net.lines (λ k l. one_or_none (get_or s.kind k 0) (line_kind k l)) in
      omega (arith, tree_lines, count_split tree_line net.lines)
    where
      one_or_none : (x : ℕ) → x < 2 → eqb x 1 ≡ not (eqb x 0)
      one_or_none zero h = refl
      one_or_none (suc zero) h = refl
      one_or_none (suc (suc x)) h = absurd (omega arith)
