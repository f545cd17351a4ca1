-- The machine comes to its end within lines + vertices steps: each step uses a line, finds a vertex on the way, or goes one down.
use mathlib.Core.Bool.{cond}
use mathlib.Core.Path.{◌≡◌, refl, sym, ap, ◌∙◌, subst}
use Prim.Native.Nat.{ℕ, zero, suc, ◌+◌, ◌-◌, ◌≤◌, ◌<◌}
use native.Mathlib.Omega.{arith}
use lib.Dec.{ltb}
use lib.ListN.{get_or, set, length, take, replicate, length-replicate}
use lib.Seq.{get_or-set_same, length-take-le}
use borrow.Author.Tests.{eqb-false, lt-ltb, le-ltb}
use Rattle.laws.proofs.Cases.{cases, lt_or}
use Rattle.laws.proofs.Counting.{many_le, many_take_set}
use Rattle.network.specs.Network.{Network, other}
use Rattle.network.specs.Inside.{Fit}
use Rattle.network.specs.Marks.{unused}
use Rattle.network.proofs.Lines.{other_in}
use Rattle.search.specs.Machine.{State, finds, meets, retreats, halts, step, run, start, finished}
use Rattle.search.specs.Inside.{unfound, untaken}
use Rattle.search.proofs.Steps.{Next, Step, finding, meeting, retreating, halting, resting, view, steps, run_add, free_unused}
use Rattle.search.proofs.Sound.{Sound, not_root, step_sound, start_sound, start_unfound}

-- the way home, and outside nothing
homeward : Network → State → ℕ
homeward net s = cond (ltb s.at net.vertices) (get_or s.height s.at 0 + 1) 0

-- what is left to do
left : Network → State → ℕ
left net s = untaken net.lines s.kind + unfound net.vertices s.found + homeward net s

home_in : (net : Network) (s : State) → s.at < net.vertices → homeward net s ≡ get_or s.height s.at 0 + 1
unfolding homeward
home_in net s h = rw (lt-ltb s.at net.vertices h)

home_out : (net : Network) (s : State) → net.vertices ≤ s.at → homeward net s ≡ 0
unfolding homeward
home_out net s h = rw (le-ltb s.at net.vertices h)

module _ (net : Network) (fit : Fit net) where
  takes : (s : State) (k x : ℕ) → Next net s k → Sound net s → (x ≡ unused → ⊥) → suc (untaken net.lines (set s.kind k x)) ≡ untaken net.lines s.kind
  takes s k x n d a =
      let few = fit.few_lines in
      many_take_set unused x net.lines s.kind k (omega (arith, d.kinds_long)) n.below (free_unused net.ends s.kind s.at k n.passes) a

  falls : (s t : State) → Step net s t → Sound net s → s.at < net.vertices → left net t < left net s
  unfolding left
  falls s t (finding k h n e) d i =
      let w : ℕ = other net.ends s.at k in
      let x : ℕ = get_or s.height s.at 0 + 1 in
      let in_n = other_in net fit s.at k n.below in
      let few = fit.few_vertices in
      let fewer : suc (unfound net.vertices (set s.found w 1)) ≡ unfound net.vertices s.found =
      many_take_set 0 1 net.vertices s.found w (omega (arith, d.founds_long)) in_n e (eqb-false 1 0 refl) in
      let new : get_or (set s.height w x) w 0 ≡ x = get_or-set_same s.height w x 0 (omega (arith, d.heights_long)) in
      omega (arith, takes s k 0 n d (eqb-false 0 unused refl), home_in net s h, home_in net (finds net s k) in_n)
  falls s t (meeting k h n e) d i = omega (arith, takes s k 1 n d (eqb-false 1 unused refl), home_in net s h, home_in net (meets net s k) h)
  falls s t (retreating h n e) d i =
      let r = d.rooted s.at h (d.here h) (not_root net fit s d s.at e) in
      omega (arith, home_in net s h, home_in net (retreats net s) (other_in net fit s.at _ r.is_line), r.higher)
  falls s t (halting h n e) d i = omega (arith, home_in net s h, home_out net (halts net s) (omega arith))
  falls s t (resting h) d i = absurd (omega arith)

  rest_run : (j : ℕ) (s : State) → net.vertices ≤ s.at → run net j s ≡ s
  unfolding run
  rest_run zero s h = refl
  rest_run (suc j) s h = ap (λ (t : State). run net j t) (steps net s s (resting h)) ∙ rest_run j s h

  halts_by : (f : ℕ) (s : State) → Sound net s → left net s ≤ f → net.vertices ≤ (run net f s).at
  unfolding run left
  halts_by zero s d h =
      cases (lt_or s.at net.vertices)
      (λ i. absurd (omega (arith, home_in net s i)))
      (λ i. i)
  halts_by (suc f) s d h =
      cases (lt_or s.at net.vertices)
      (λ i. let a = falls s (step net s) (view net s) d i in halts_by f (step net s) (step_sound net fit s (step net s) (view net s) d) (omega arith))
      (λ i. subst (λ (t : State). net.vertices ≤ t.at) (sym (rest_run (suc f) s i)) i)

  start_left : left net start ≤ net.lines + net.vertices
  unfolding start left
  start_left =
      let few = fit.few_lines in
      let a = home_in net start fit.some_vertex in
      let b = start_unfound net fit net.vertices fit.some_vertex fit.few_vertices in
      let c = many_le unused (take net.lines (replicate {A = ℕ} 2048 3)) in
      let e : length (take net.lines (replicate {A = ℕ} 2048 3)) ≡ net.lines =
      length-take-le net.lines (replicate {A = ℕ} 2048 3) (omega (arith, length-replicate {A = ℕ} 2048 3)) in
      omega arith

  pub finished_halts : net.vertices ≤ (finished net).at
  unfolding finished
  finished_halts = halts_by (net.lines + net.vertices) start (start_sound net fit) start_left

  -- once halted, it is the same ever after
  run_on : (i j : ℕ) (s : State) → i ≤ j → net.vertices ≤ (run net i s).at → run net j s ≡ run net i s
  run_on i j s h o =
      let e : j ≡ i + (j - i) = omega arith in
      ap (λ (k : ℕ). run net k s) e ∙ run_add net i (j - i) s ∙ rest_run (j - i) (run net i s) o

  -- a run from the start that has halted has come to the search's end
  pub finished_is : (j : ℕ) (t : State) → run net j start ≡ t → net.vertices ≤ t.at → finished net ≡ t
  unfolding finished
  finished_is j t e h =
      cases (lt_or j (net.lines + net.vertices))
      (λ i. run_on j (net.lines + net.vertices) start (omega arith) (subst (λ (u : State). net.vertices ≤ u.at) (sym e) h) ∙ e)
      (λ i. sym (run_on (net.lines + net.vertices) j start i finished_halts) ∙ e)
