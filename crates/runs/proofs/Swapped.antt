-- Swapping the ends of lines changes nothing in the search. The machine asks of a line only which vertices it touches and what its other end is, and
-- both are the same either way round; and the tree goes by which end is higher, where no line is level. So the two networks leave one tree.
use mathlib.Core.Bool.{true, cond}
use mathlib.Core.List.{List}
use mathlib.Core.Logic.{◌⊎◌, inl, inr}
use mathlib.Core.Path.{◌≡◌, refl, sym, ap, ◌∙◌}
use Prim.Native.Nat.{ℕ, zero, suc, ◌+◌, ◌*◌, ◌/◌, ◌≤◌, ◌<◌}
use native.Mathlib.Omega.{arith}
use lib.Dec.{eqb, ltb}
use lib.ListN.{get_or, length, get_or-eq_default}
use borrow.Author.Tests.{lt-ltb, le-ltb}
use Rattle.laws.proofs.Cases.{cases, lt_or}
use Rattle.laws.proofs.Tests.{same_test}
use Rattle.network.specs.Network.{Network, network_of, first, second, touches, other, joins, Path, here, along, Connected}
use Rattle.network.specs.Inside.{Fit}
use Rattle.network.proofs.Pairs.{joins_as_given, joins_turned, joins_of}
use Rattle.network.proofs.Lines.{touches_first, touches_second, touches_of, joins_other, joins_is}
use Rattle.tree.specs.Tree.{tree_of, higher, lower, climb, aboveb}
use Rattle.search.specs.Machine.{State, free, step, run, start, finished, tree_in}
use Rattle.search.proofs.Steps.{Next, Step, finding, meeting, retreating, halting, resting, StuckAt, free_touches, free_unused, free_yes, steps, view}
use Rattle.search.proofs.Sound.{Sound, not_root, step_sound, start_sound}
use Rattle.search.proofs.Grows.{grown, line_kind}

-- Line k has the same ends in both lists, one way round or the other.
abbrev pub SameLine : List ℕ → List ℕ → ℕ → Type 0
SameLine ends ends' k =
    ((first ends k ≡ first ends' k) × (second ends k ≡ second ends' k)) ⊎ ((first ends k ≡ second ends' k) × (second ends k ≡ first ends' k))

-- The two lists have the same lines, some of them with their ends swapped.
pub record Swapped (ends ends' : List ℕ) : Type 0 where
  pub long : length ends ≡ length ends'
  pub each : (k : ℕ) → k < length ends / 2 → SameLine ends ends' k

pub line_back : (ends ends' : List ℕ) (k : ℕ) → SameLine ends ends' k → SameLine ends' ends k
line_back ends ends' k (inl (a, b)) = inl (sym a, sym b)
line_back ends ends' k (inr (a, b)) = inr (sym b, sym a)

-- A line, seen from a vertex

pub joins_same : (ends ends' : List ℕ) (k u v : ℕ) → SameLine ends ends' k → joins ends k u v ≡ true → joins ends' k u v ≡ true
joins_same ends ends' k u v x t =
    cases (joins_of ends k u v t)
    (λ q. cases x (λ e. joins_as_given ends' k u v (sym e.0 ∙ q.0) (sym e.1 ∙ q.1)) (λ e. joins_turned ends' k u v (sym e.1 ∙ q.1) (sym e.0 ∙ q.0)))
    (λ q. cases x (λ e. joins_turned ends' k u v (sym e.0 ∙ q.0) (sym e.1 ∙ q.1)) (λ e. joins_as_given ends' k u v (sym e.1 ∙ q.1) (sym e.0 ∙ q.0)))

touches_same : (ends ends' : List ℕ) (v k : ℕ) → SameLine ends ends' k → touches ends v k ≡ true → touches ends' v k ≡ true
touches_same ends ends' v k x t =
    cases (touches_of ends v k t)
    (λ q. cases x (λ e. touches_first ends' v k (sym e.0 ∙ q)) (λ e. touches_second ends' v k (sym e.0 ∙ q)))
    (λ q. cases x (λ e. touches_second ends' v k (sym e.1 ∙ q)) (λ e. touches_first ends' v k (sym e.1 ∙ q)))

free_same : (ends ends' kind : List ℕ) (v k : ℕ) → SameLine ends ends' k → free ends kind v k ≡ free ends' kind v k
free_same ends ends' kind v k x =
    same_test _ _
    (λ t. free_yes ends' kind v k (free_unused ends kind v k t) (touches_same ends ends' v k x (free_touches ends kind v k t)))
    (λ t. free_yes ends kind v k (free_unused ends' kind v k t) (touches_same ends' ends v k (line_back ends ends' k x) (free_touches ends' kind v k t)))

pub connected_same : (n m : ℕ) (ends ends' : List ℕ) → ((k : ℕ) → k < m → SameLine ends ends' k) → Connected (network_of n m ends) → Connected (network_of n m ends')
connected_same n m ends ends' each c u v i j = path (c u v i j)
  where
    path : {u v : ℕ} → Path (network_of n m ends) u v → Path (network_of n m ends') u v
    path here = here
    path (along {u} {v} k h j p) = along k h (joins_same ends ends' k u v (each k h) j) (path p)

-- Two searches, and two trees

module _ (n m : ℕ) (ends ends' : List ℕ) (each : (k : ℕ) → k < m → SameLine ends ends' k) (fit : Fit (network_of n m ends)) where
  abbrev net : Network
  net = network_of n m ends

  abbrev net' : Network
  net' = network_of n m ends'

  other_same : (v k : ℕ) → k < m → touches ends v k ≡ true → other ends v k ≡ other ends' v k
  other_same v k h t =
      joins_is ends' k
      (λ e. fit.apart k h (cases (each k h) (λ x. x.0 ∙ e ∙ sym x.1) (λ x. x.0 ∙ sym e ∙ sym x.1)))
      v (other ends v k) (joins_same ends ends' k v (other ends v k) (each k h) (joins_other ends v k t))

  -- The search

  next_same : (s : State) (k : ℕ) → Next net s k → Next net' s k
  next_same s k l =
      record {
        below = l.below;
        passes = sym (free_same ends ends' s.kind s.at k (each k l.below)) ∙ l.passes;
        before = λ j h. sym (free_same ends ends' s.kind s.at j (each j (let b = l.below in omega arith))) ∙ l.before j h;
      }

  stuck_same : (s : State) → StuckAt net s s.at → StuckAt net' s s.at
  stuck_same s f j h = sym (free_same ends ends' s.kind s.at j (each j h)) ∙ f j h

  step_same : (s t : State) → Sound net s → Step net s t → Step net' s t
  step_same s t d (finding k h l e) =
      let o = other_same s.at k l.below (free_touches ends s.kind s.at k l.passes) in
      rw o (finding k h (next_same s k l) (rw o at e))
  step_same s t d (meeting k h l e) =
      let o = other_same s.at k l.below (free_touches ends s.kind s.at k l.passes) in
      meeting k h (next_same s k l) (rw o at e)
  step_same s t d (retreating h f e) =
      let r = d.rooted s.at h (d.here h) (not_root net fit s d s.at e) in
      rw (other_same s.at (get_or s.parent s.at 0) r.is_line r.touch) (retreating h (stuck_same s f) e)
  step_same s t d (halting h f e) = halting h (stuck_same s f) e
  step_same s t d (resting h) = resting h

  run_same : (j : ℕ) (s : State) → Sound net s → run net j s ≡ run net' j s
  unfolding run
  run_same zero s d = refl
  run_same (suc j) s d =
      run_same j (step net s) (step_sound net fit s (step net s) (view net s) d)
      ∙ ap (run net' j) (sym (steps net' s (step net s) (step_same s (step net s) d (view net s))))

  pub finished_same : finished net ≡ finished net'
  unfolding finished
  finished_same = run_same (m + n) start (start_sound net fit)

  -- The tree

  module _ (connected : Connected net) (long : length ends ≡ length ends') where
    abbrev heights : List ℕ
    heights = (finished net).height

    abbrev h : ℕ → ℕ
    h v = get_or heights v 0

    slanted : (k : ℕ) → k < m → h (lower ends heights k) < h (higher ends heights k)
    slanted k l =
        let g = grown net fit connected in
        cases (lt_or (get_or (finished net).kind k 0) 1)
        (λ z. omega (arith, (g.up k l (omega arith)).1))
        (λ z. (g.down k l (omega (arith, line_kind net fit connected k l))).0)

    turned : (k : ℕ) → h (lower ends heights k) < h (higher ends heights k) → first ends k ≡ second ends' k → second ends k ≡ first ends' k
        → (higher ends heights k ≡ higher ends' heights k) × (lower ends heights k ≡ lower ends' heights k)
    unfolding higher lower
    turned k u a b =
        cases (lt_or (h (first ends k)) (h (second ends k)))
        (λ l.
        let p = lt-ltb (h (first ends k)) (h (second ends k)) l in
        let q = le-ltb (h (second ends k)) (h (first ends k)) (omega arith) in
        (rw (p, ← a, ← b, q), rw (p, ← a, ← b, q)))
        (λ l.
        let p = le-ltb (h (first ends k)) (h (second ends k)) l in
        let u' : h (second ends k) < h (first ends k) = rw p at u in
        let q = lt-ltb (h (second ends k)) (h (first ends k)) u' in
        (rw (p, ← a, ← b, q), rw (p, ← a, ← b, q)))

    straight : (k : ℕ) → first ends k ≡ first ends' k → second ends k ≡ second ends' k
        → (higher ends heights k ≡ higher ends' heights k) × (lower ends heights k ≡ lower ends' heights k)
    unfolding higher lower
    straight k a b = (rw (a, b), rw (a, b))

    ends_same : (k : ℕ) → (higher ends heights k ≡ higher ends' heights k) × (lower ends heights k ≡ lower ends' heights k)
    ends_same k =
        cases (lt_or k m)
        (λ l. cases (each k l) (λ x. straight k x.0 x.1) (λ x. turned k (slanted k l) x.0 x.1))
        (λ l. straight k (past (2 * k) (omega arith)) (past (2 * k + 1) (omega arith)))
      where
        past : (i : ℕ) → 2 * m ≤ i → get_or ends i 0 ≡ get_or ends' i 0
        past i l =
            let a : get_or ends i 0 ≡ 0 = get_or-eq_default ends 0 {n = i} (omega (arith, fit.ends_long)) in
            let b : get_or ends' i 0 ≡ 0 = get_or-eq_default ends' 0 {n = i} (omega (arith, fit.ends_long)) in
            a ∙ sym b

    climb_same : (parents : List ℕ) (j v : ℕ) → climb ends heights parents j v ≡ climb ends' heights parents j v
    unfolding climb
    climb_same parents zero v = refl
    climb_same parents (suc j) v =
        climb_same parents j (lower ends heights (get_or parents v 0)) ∙ ap (climb ends' heights parents j) (ends_same (get_or parents v 0)).1

    above_same : (parents : List ℕ) (u v : ℕ) → aboveb ends heights parents u v ≡ aboveb ends' heights parents u v
    unfolding aboveb
    above_same parents u v = rw (climb_same parents _ v)

    one_tree : (kinds parents : List ℕ) → tree_of n m ends kinds heights parents ≡ tree_of n m ends' kinds heights parents
    one_tree kinds parents = λ i.
        record {
          vertices = n;
          lines = m;
          live = λ k. ltb (get_or kinds k 0) 2;
          tree = λ k. eqb (get_or kinds k 0) 0;
          source = λ k. cond (eqb (get_or kinds k 0) 0) ((ends_same k).1 i) ((ends_same k).0 i);
          target = λ k. cond (eqb (get_or kinds k 0) 0) ((ends_same k).0 i) ((ends_same k).1 i);
          height = λ v. get_or heights v 0;
          parent = λ v. get_or parents v 0;
          above = λ u v. above_same parents u v i;
        }

    pub tree_same : tree_in net ≡ tree_in net'
    tree_same =
        one_tree (finished net).kind (finished net).parent
        ∙ ap (λ (s : State). tree_of n m ends' s.kind s.height s.parent) finished_same
