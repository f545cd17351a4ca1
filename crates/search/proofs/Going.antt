-- What the loop of `visit` keeps: steps of the machine lead from where the visit began to the same vertex again, and no line that the chain has
-- passed is free there. A turn is a step that meets a found vertex, or one that finds a vertex, that vertex's whole visit, and the step back.
use mathlib.Core.Bool.{true, false}
use mathlib.Core.List.{List}
use mathlib.Core.Logic.{◌⊎◌, inl, inr, ◌≢◌}
use mathlib.Core.Path.{◌≡◌, refl, sym, ap, ◌∙◌, subst}
use Prim.Native.Nat.{ℕ, suc, ◌+◌, ◌*◌, ◌/◌, ◌%◌, ◌-◌, ◌≤◌, ◌<◌}
use native.Mathlib.Omega.{arith}
use lib.ListN.{get_or, set, length, length-set}
use lib.Seq.{get_or-set_same}
use borrow.Author.Tests.{eqb-false, eq-eqb, ne_eqb}
use Rattle.laws.specs.Chains.{Follows, Chained}
use Rattle.laws.specs.Lists.{at}
use Rattle.laws.proofs.Cases.{cases, bool, eq_or, lt_or}
use Rattle.laws.proofs.Counting.{many_take_set}
use Rattle.network.specs.Network.{Network, network, first, second, touches, other}
use Rattle.network.specs.Inside.{Fit}
use Rattle.network.specs.Marks.{unused}
use Rattle.network.proofs.Lines.{touches_first, touches_second, touches_of, other_first, other_second, other_other, other_in}
use Rattle.search.specs.Machine.{State, state, free, finds, run}
use Rattle.search.specs.Inside.{Halved, partner, unfound, untaken, Ready, Enterable, Entered, Visited, Visitable}
use Rattle.search.proofs.Steps.{Next, finding, meeting, retreating, Later, later_found, run_later, run_one, run_then, free_touches, free_yes, used_not_free, free_set}

-- Half-lines

module _ (ends : List ℕ) (v h : ℕ) (at : get_or ends h 0 ≡ v) where
  half_is : (get_or ends (2 * (h / 2)) 0 ≡ v) ⊎ (get_or ends (2 * (h / 2) + 1) 0 ≡ v)
  half_is =
      cases (eq_or (h % 2) 0)
      (λ e. let z : h ≡ 2 * (h / 2) = omega arith in inl (subst (λ (j : ℕ). get_or ends j 0 ≡ v) z at))
      (λ d. let d' : h % 2 ≢ 0 = d in let z : h ≡ 2 * (h / 2) + 1 = omega arith in inr (subst (λ (j : ℕ). get_or ends j 0 ≡ v) z at))

  pub half_touches : touches ends v (h / 2) ≡ true
  half_touches = cases half_is (λ e. touches_first ends v (h / 2) e) (λ e. touches_second ends v (h / 2) e)

  pub half_other : (first ends (h / 2) ≡ second ends (h / 2) → ⊥) → get_or ends (partner h) 0 ≡ other ends v (h / 2)
  unfolding partner
  half_other apart =
      cases (eq_or (h % 2) 0)
      (λ e.
      let z : h ≡ 2 * (h / 2) = omega arith in
      let y : h + 1 ≡ 2 * (h / 2) + 1 = omega arith in
      let a : first ends (h / 2) ≡ v = subst (λ (j : ℕ). get_or ends j 0 ≡ v) z at in
      rw (eq-eqb (h % 2) 0 e, y) (sym (other_first ends v (h / 2) a)))
      (λ d.
      let d' : h % 2 ≢ 0 = d in
      let z : h ≡ 2 * (h / 2) + 1 = omega arith in
      let y : h - 1 ≡ 2 * (h / 2) = omega arith in
      let b : second ends (h / 2) ≡ v = subst (λ (j : ℕ). get_or ends j 0 ≡ v) z at in
      rw (ne_eqb (h % 2) 0 d, y) (sym (other_second ends v (h / 2) (λ a. apart (a ∙ sym b)))))

-- where no passed half-line at v is free, no line below is
lines_passed : (ends ks : List ℕ) (v h : ℕ) → ((j : ℕ) → j < h → get_or ends j 0 ≡ v → free ends ks v (j / 2) ≡ false)
    → (i : ℕ) → 2 * i + 1 < h → free ends ks v i ≡ false
lines_passed ends ks v h past i l =
    cases (bool (free ends ks v i))
    (λ t.
    cases (touches_of ends v i (free_touches ends ks v i t))
    (λ a. let z : 2 * i / 2 ≡ i = omega arith in subst (λ (j : ℕ). free ends ks v j ≡ false) z (past (2 * i) (omega arith) a))
    (λ b. let z : (2 * i + 1) / 2 ≡ i = omega arith in subst (λ (j : ℕ). free ends ks v j ≡ false) z (past (2 * i + 1) (omega arith) b)))
    (λ f. f)

pub record Going (net : Network) (s : State) (ks fs hs ps : List ℕ) (h : ℕ) : Type 0 where
  pub steps : ℕ
  pub runs : run net steps s ≡ state s.at ks fs hs ps
  pub upto : h ≤ 2 * net.lines
  pub at : h < 2 * net.lines → get_or net.ends h 0 ≡ s.at
  pub past : (j : ℕ) → j < h → get_or net.ends j 0 ≡ s.at → free net.ends ks s.at (j / 2) ≡ false
  pub fewer_vertices : unfound 512 fs ≤ unfound 512 s.found
  pub fewer_lines : untaken 2048 ks ≤ untaken 2048 s.kind
  pub still : Ready net (state s.at ks fs hs ps)

module _ (net : Network) (fit : Fit net) (s : State) (ready : Ready net s) where
  -- that the vertex may still be visited follows from the rest
  going : (ks fs hs ps : List ℕ) (h j : ℕ) → run net j s ≡ state s.at ks fs hs ps → Follows (length net.ends) (at net.ends) s.at 0 h ⊎ ((h ≤ 2 * net.lines) × (h < 2 * net.lines → get_or net.ends h 0 ≡ s.at))
      → ((i : ℕ) → i < h → get_or net.ends i 0 ≡ s.at → free net.ends ks s.at (i / 2) ≡ false)
      → unfound 512 fs ≤ unfound 512 s.found → untaken 2048 ks ≤ untaken 2048 s.kind → Going net s ks fs hs ps h
  going ks fs hs ps h j runs place past fewer less =
      let l : Later net s (state s.at ks fs hs ps) = subst (λ (t : State). Later net s t) runs (run_later net j s) in
      let long = fit.ends_long in
      let kept : get_or hs s.at 0 ≡ get_or s.height s.at 0 = l.height_kept s.at ready.found_here in
      record {
        steps = j;
        runs = runs;
        upto = cases place (λ o. omega (arith, o.upto)) (λ q. q.0);
        at = cases place (λ o i. o.at (omega arith)) (λ q. q.1);
        past = past;
        fewer_vertices = fewer;
        fewer_lines = less;
        still = record {
          kinds_long = l.kinds_long ∙ ready.kinds_long;
          founds_long = l.founds_long ∙ ready.founds_long;
          heights_long = l.heights_long ∙ ready.heights_long;
          parents_long = l.parents_long ∙ ready.parents_long;
          here = ready.here;
          found_here = later_found l s.at ready.found_here;
          low = omega (arith, ready.low);
        };
      }

  going_start : (h : ℕ) → Follows (length net.ends) (at net.ends) s.at 0 h → Going net s s.kind s.found s.height s.parent h
  unfolding run
  going_start h o = going s.kind s.found s.height s.parent h 0 refl (inl o) (λ i l a. absurd (o.between i (omega arith) l a)) (omega arith) (omega arith)

  module _ (ks fs hs ps : List ℕ) (h : ℕ) (g : Going net s ks fs hs ps h) where
    going_done : 2 * net.lines ≤ h → Visited net s (state s.at ks fs hs ps)
    going_done l =
        record {
          steps = g.steps;
          runs = g.runs;
          stuck = λ k i. lines_passed net.ends ks s.at h g.past k (omega arith);
          fewer_vertices = g.fewer_vertices;
          fewer_lines = g.fewer_lines;
        }

    -- One turn: on to the next half-line
    module _ (lt : h < 2 * net.lines) (next : ℕ) (on : Follows (length net.ends) (at net.ends) (get_or net.ends h 0) (h + 1) next) where
      abbrev k : ℕ
      k = h / 2

      k_in : k < net.lines
      k_in = omega arith

      here : get_or net.ends h 0 ≡ s.at
      here = g.at lt

      place : (next ≤ 2 * net.lines) × (next < 2 * net.lines → get_or net.ends next 0 ≡ s.at)
      place = let long = fit.ends_long in (omega (arith, on.upto), λ i. on.at (omega arith) ∙ here)

      -- what is passed now: what was passed before, this half-line, and some of other vertices
      passed : (ks' : List ℕ) → ((i : ℕ) → free net.ends ks s.at i ≡ false → free net.ends ks' s.at i ≡ false) → free net.ends ks' s.at k ≡ false
          → (i : ℕ) → i < next → get_or net.ends i 0 ≡ s.at → free net.ends ks' s.at (i / 2) ≡ false
      passed ks' keep this i l a =
          cases (lt_or i h)
          (λ i_low. keep (i / 2) (g.past i i_low a))
          (λ i_high.
          cases (eq_or i h)
          (λ e. subst (λ (j : ℕ). free net.ends ks' s.at (j / 2) ≡ false) (sym e) this)
          (λ d. let d' : i ≢ h = d in absurd (on.between i (omega arith) l (a ∙ sym here))))

      going_skip : free net.ends ks s.at k ≡ false → Going net s ks fs hs ps next
      going_skip f = going ks fs hs ps next g.steps g.runs (inr place) (passed ks (λ i q. q) f) g.fewer_vertices g.fewer_lines

      module _ (free_here : get_or ks k 0 ≡ unused) where
        first_free : Next net (state s.at ks fs hs ps) k
        first_free =
            record {
              below = k_in;
              passes = free_yes net.ends ks s.at k free_here (half_touches net.ends s.at h here);
              before = λ i l. lines_passed net.ends ks s.at h g.past i (omega arith);
            }

        kinds_room : k < length ks
        kinds_room = let few = fit.few_lines in let i = k_in in omega (arith, g.still.kinds_long)

        used_now : (x : ℕ) → (x ≡ unused → ⊥) → free net.ends (set ks k x) s.at k ≡ false
        used_now x d = used_not_free net.ends (set ks k x) s.at k (λ e. d (sym (get_or-set_same ks k x 0 kinds_room) ∙ e))

        one_less : (x : ℕ) → (x ≡ unused → ⊥) → suc (untaken 2048 (set ks k x)) ≡ untaken 2048 ks
        one_less x d = let few = fit.few_lines in many_take_set unused x 2048 ks k (omega (arith, g.still.kinds_long)) (omega (arith, k_in)) free_here d

        going_back : (get_or fs (other net.ends s.at k) 0 ≡ 0 → ⊥) → Going net s (set ks k 1) fs hs ps next
        going_back e =
            going (set ks k 1) fs hs ps next (g.steps + 1)
            (run_then net g.steps 1 s _ _ g.runs (run_one net _ _ (meeting k ready.here first_free e)))
            (inr place) (passed (set ks k 1) (λ i q. free_set net.ends ks k 1 (eqb-false 1 unused refl) s.at i q) (used_now 1 (eqb-false 1 unused refl)))
            g.fewer_vertices (omega (arith, one_less 1 (eqb-false 1 unused refl), g.fewer_lines))

        module _ (e : get_or fs (other net.ends s.at k) 0 ≡ 0) where
          abbrev w : ℕ
          w = other net.ends s.at k

          w_in : w < net.vertices
          w_in = other_in net fit s.at k k_in

          one_fewer : suc (unfound 512 (set fs w 1)) ≡ unfound 512 fs
          one_fewer =
              let few = fit.few_vertices in
              many_take_set 0 1 512 fs w (omega (arith, g.still.founds_long)) (omega (arith, w_in)) e (eqb-false 1 0 refl)

          -- the vertex at the far end may be visited
          going_in : Ready net (finds net (state s.at ks fs hs ps) k)
          going_in =
              let r = g.still in
              let few = fit.few_vertices in
              let in_n = w_in in
              let new : get_or (set hs w (get_or hs s.at 0 + 1)) w 0 ≡ get_or hs s.at 0 + 1 = get_or-set_same hs w (get_or hs s.at 0 + 1) 0 (omega (arith, r.heights_long)) in
              record {
                kinds_long = length-set ks k 0 ∙ r.kinds_long;
                founds_long = length-set fs w 1 ∙ r.founds_long;
                heights_long = length-set hs w (get_or hs s.at 0 + 1) ∙ r.heights_long;
                parents_long = length-set ps w k ∙ r.parents_long;
                here = w_in;
                found_here = λ i. eqb-false 1 0 refl (sym (get_or-set_same fs w 1 0 (omega (arith, r.founds_long))) ∙ i);
                low = omega (arith, r.low, one_fewer);
              }

          -- and the machine comes back from there
          module _ (ks' fs' hs' ps' : List ℕ) (done : Visited net (finds net (state s.at ks fs hs ps) k) (state w ks' fs' hs' ps')) where
            after : Later net (finds net (state s.at ks fs hs ps) k) (state w ks' fs' hs' ps')
            after = subst (λ (u : State). Later net (finds net (state s.at ks fs hs ps) k) u) done.runs (run_later net done.steps (finds net (state s.at ks fs hs ps) k))

            parent_is : get_or ps' w 0 ≡ k
            parent_is =
                let few = fit.few_vertices in
                let in_n = w_in in
                after.parent_kept w going_in.found_here ∙ get_or-set_same ps w k 0 (omega (arith, g.still.parents_long))

            height_is : get_or hs' w 0 ≡ get_or hs s.at 0 + 1
            height_is =
                let few = fit.few_vertices in
                let in_n = w_in in
                after.height_kept w going_in.found_here ∙ get_or-set_same hs w (get_or hs s.at 0 + 1) 0 (omega (arith, g.still.heights_long))

            back_home : other net.ends w (get_or ps' w 0) ≡ s.at
            back_home =
                ap (λ (j : ℕ). other net.ends w j) parent_is
                ∙ other_other net.ends k (fit.apart k k_in) s.at (half_touches net.ends s.at h here)

            going_deep : Going net s ks' fs' hs' ps' next
            going_deep =
                going ks' fs' hs' ps' next (g.steps + 1 + done.steps + 1)
                (run_then net (g.steps + 1 + done.steps) 1 s _ _
                (run_then net (g.steps + 1) done.steps s _ _
                (run_then net g.steps 1 s _ _ g.runs (run_one net _ _ (finding k ready.here first_free e)))
                done.runs)
                (run_one net _ _ (retreating w_in done.stuck (λ z. let y = height_is in omega arith)) ∙ ap (λ (v : ℕ). state v ks' fs' hs' ps') back_home))
                (inr place)
                (passed ks' (λ i q. after.used s.at i (free_set net.ends ks k 0 (eqb-false 0 unused refl) s.at i q))
                (after.used s.at k (used_now 0 (eqb-false 0 unused refl))))
                (omega (arith, done.fewer_vertices, g.fewer_vertices, one_fewer))
                (omega (arith, done.fewer_lines, g.fewer_lines, one_less 0 (eqb-false 0 unused refl)))

-- The same in the code's terms: h is where the loop stands on the chain, next the half-line after it.

module _ {ends : List ℕ} {heads nexts : List ℕ} (chain : Chained 512 4096 (length ends) (at ends) heads nexts)
    {n v : ℕ} {ks₀ fs₀ hs₀ ps₀ : List ℕ} (a : Visitable n ends (state v ks₀ fs₀ hs₀ ps₀)) where
  fit : Fit (network n ends)
  fit = a.fit

  ready : Ready (network n ends) (state v ks₀ fs₀ hs₀ ps₀)
  ready = a.ready

  even : length ends ≡ 2 * (length ends / 2)
  even = fit.ends_long

  abbrev Loop : List ℕ → List ℕ → List ℕ → List ℕ → ℕ → Type 0
  Loop ks fs hs ps h = Going (network n ends) (state v ks₀ fs₀ hs₀ ps₀) ks fs hs ps h

  pub visit_start : (h : ℕ) → h ≡ get_or heads v 0 → Loop ks₀ fs₀ hs₀ ps₀ h
  visit_start h is =
      let few = fit.few_vertices in
      let in_n = ready.here in
      going_start (network n ends) fit (state v ks₀ fs₀ hs₀ ps₀) ready h (subst (λ (i : ℕ). Follows (length ends) (at ends) v 0 i) (sym is) (chain.heads_are v (omega arith)))

  module _ {ks fs hs ps : List ℕ} {h : ℕ} (g : Loop ks fs hs ps h) where
    pub visit_done : length ends ≤ h → Visited (network n ends) (state v ks₀ fs₀ hs₀ ps₀) (state v ks fs hs ps)
    visit_done l = going_done (network n ends) fit (state v ks₀ fs₀ hs₀ ps₀) ready ks fs hs ps h g (omega (arith, even))

    module _ (inside : h < length ends) {next : ℕ} (is_next : next ≡ get_or nexts h 0) where
      lt : h < 2 * (length ends / 2)
      lt = omega (arith, even)

      on : Follows (length ends) (at ends) (get_or ends h 0) (h + 1) next
      on = let long = fit.ends_long in subst (λ (i : ℕ). Follows (length ends) (at ends) (get_or ends h 0) (h + 1) i) (sym is_next) (chain.nexts_are h (omega arith))

      pub visit_further : length ends - next < length ends - h
      visit_further = omega (arith, on.from, inside)

      pub visit_skip : (get_or ks (h / 2) 0 ≡ 3 → ⊥) → Loop ks fs hs ps next
      visit_skip d = going_skip (network n ends) fit (state v ks₀ fs₀ hs₀ ps₀) ready ks fs hs ps h g lt next on (used_not_free ends ks v (h / 2) d)

      module _ (free_here : get_or ks (h / 2) 0 ≡ 3) {w : ℕ} (is_w : w ≡ get_or ends (partner h) 0) where
        w_is : w ≡ other ends v (h / 2)
        w_is = is_w ∙ half_other ends v h (g.at lt) (fit.apart (h / 2) (omega (arith, lt)))

        visit_far : w < n
        visit_far = subst (λ (i : ℕ). i < n) (sym w_is) (other_in (network n ends) fit v (h / 2) (omega (arith, lt)))

        pub visit_room : w < 512
        visit_room = let few = fit.few_vertices in omega (arith, visit_far)

        pub visit_back : (get_or fs w 0 ≡ 0 → ⊥) → Loop (set ks (h / 2) 1) fs hs ps next
        visit_back d =
            going_back (network n ends) fit (state v ks₀ fs₀ hs₀ ps₀) ready ks fs hs ps h g lt next on free_here (λ e. d (ap (λ (j : ℕ). get_or fs j 0) w_is ∙ e))

        module _ (new : get_or fs w 0 ≡ 0) where
          pub visit_enter : Enterable v w (h / 2) ks fs hs ps
          visit_enter =
              let r = g.still in
              let few = fit.few_vertices in
              record {
                kinds_long = r.kinds_long;
                founds_long = r.founds_long;
                heights_long = r.heights_long;
                parents_long = r.parents_long;
                from_in = omega (arith, ready.here);
                to_in = visit_room;
                line_in = omega (arith, lt, fit.few_lines);
                low = omega (arith, r.low);
                line_unused = free_here;
                to_new = new;
              }

          module _ {ke fe he pe : List ℕ} (x : Entered v w (h / 2) ks fs hs ps ke fe he pe) where
            w_new : get_or fs (other ends v (h / 2)) 0 ≡ 0
            w_new = ap (λ (j : ℕ). get_or fs j 0) (sym w_is) ∙ new

            entered : state w ke fe he pe ≡ finds (network n ends) (state v ks fs hs ps) (h / 2)
            entered = let i = w_is in rw (x.kinds, x.founds, x.heights, x.parents, i)

            pub visit_in : Ready (network n ends) (state w ke fe he pe)
            visit_in =
                subst (λ (u : State). Ready (network n ends) u) (sym entered)
                (going_in (network n ends) fit (state v ks₀ fs₀ hs₀ ps₀) ready ks fs hs ps h g lt next on free_here w_new)

            pub visit_less : unfound 512 fe + untaken 2048 ke < unfound 512 fs₀ + untaken 2048 ks₀
            visit_less = omega (arith, x.fewer_vertices, x.fewer_lines, g.fewer_vertices, g.fewer_lines)

            pub visit_deep : {ks' fs' hs' ps' : List ℕ} → Visited (network n ends) (state w ke fe he pe) (state w ks' fs' hs' ps') → Loop ks' fs' hs' ps' next
            visit_deep {ks'} {fs'} {hs'} {ps'} done =
                going_deep (network n ends) fit (state v ks₀ fs₀ hs₀ ps₀) ready ks fs hs ps h g lt next on free_here w_new ks' fs' hs' ps'
                (subst (λ (u : ℕ). Visited (network n ends) (finds (network n ends) (state v ks fs hs ps) (h / 2)) (state u ks' fs' hs' ps')) w_is
                (subst (λ (u : State). Visited (network n ends) u (state w ks' fs' hs' ps')) entered done))

-- what `enter` leaves
pub enter_leaves : (v w k : ℕ) (ks fs hs ps : List ℕ) → Enterable v w k ks fs hs ps
    → Entered v w k ks fs hs ps (set ks k 0) (set fs w 1) (set hs w (get_or hs v 0 + 1)) (set ps w k)
enter_leaves v w k ks fs hs ps e =
    record {
      kinds = refl;
      founds = refl;
      heights = refl;
      parents = refl;
      fewer_vertices = many_take_set 0 1 512 fs w (omega (arith, e.founds_long)) e.to_in e.to_new (eqb-false 1 0 refl);
      fewer_lines = many_take_set unused 0 2048 ks k (omega (arith, e.kinds_long)) e.line_in e.line_unused (eqb-false 0 unused refl);
    }

-- the partner of a half-line
pub far_even : (ends : List ℕ) (h r : ℕ) → h % 2 ≡ 0 → r ≡ get_or ends (h + 1) 0 → r ≡ get_or ends (partner h) 0
unfolding partner
far_even ends h r e is = rw (eq-eqb (h % 2) 0 e) is

pub far_odd : (ends : List ℕ) (h r : ℕ) → (h % 2 ≡ 0 → ⊥) → r ≡ get_or ends (h - 1) 0 → r ≡ get_or ends (partner h) 0
unfolding partner
far_odd ends h r d is = rw (ne_eqb (h % 2) 0 d) is

pub far_in : (ends : List ℕ) (h : ℕ) → Halved h ends → h % 2 ≡ 0 → h + 1 < length ends
unfolding partner
far_in ends h l e = let q = l.other_half in rw (eq-eqb (h % 2) 0 e) at q

partner_in : (h m : ℕ) → h < 2 * m → partner h < 2 * m
unfolding partner
partner_in h m l =
    cases (eq_or (h % 2) 0)
    (λ e. rw (eq-eqb (h % 2) 0 e) (omega arith))
    (λ d. rw (ne_eqb (h % 2) 0 d) (omega arith))

pub visit_half : (n : ℕ) (ends : List ℕ) → Fit (network n ends) → (h : ℕ) → h < length ends → Halved h ends
visit_half n ends fit h l =
    let long = fit.ends_long in
    record { half = l; other_half = omega (arith, partner_in h (length ends / 2) (omega arith)) }
