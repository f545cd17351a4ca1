-- What the search has seen: each found vertex stands on the path to the root or has no unused line left; each back line joins a vertex with one on
-- its path; each tree line is the one that found its upper end; and the ends of a used line are found.
use mathlib.Core.Bool.{true}
use mathlib.Core.List.{List}
use mathlib.Core.Logic.{◌⊎◌, inl, inr}
use mathlib.Core.Path.{◌≡◌, refl, sym, ap, ◌∙◌, subst}
use Prim.Native.Nat.{ℕ, zero, suc, ◌+◌, ◌≤◌, ◌<◌}
use native.Mathlib.Omega.{arith}
use lib.ListN.{get_or, set, replicate, get_or-replicate, length-replicate, get_or-eq_default}
use lib.Seq.{get_or-set_same, get_or-set_other}
use borrow.Author.Tests.{eqb-false}
use Rattle.laws.proofs.Cases.{cases, eq_or, lt_or, true_false}
use Rattle.network.specs.Network.{Network, touches, other}
use Rattle.network.specs.Inside.{Fit}
use Rattle.network.specs.Marks.{unused}
use Rattle.network.proofs.Lines.{touches_other, touches_two, other_other, other_apart, other_in}
use Rattle.search.specs.Machine.{State, finds, meets, retreats, halts, start, finished}
use Rattle.search.proofs.Steps.{StuckAt, Next, Found, Step, finding, meeting, retreating, halting, resting, Later, later_found, step_later, run_keeps, free_touches, free_unused, free_yes}
use Rattle.search.proofs.Sound.{Sound, line_down, below, not_root, step_sound, start_sound, start_found}

-- where j parent lines lead from v
unfoldable pub home : List ℕ → List ℕ → ℕ → ℕ → ℕ
home ends ps v zero = v
home ends ps v (suc j) = home ends ps (other ends v (get_or ps v 0)) j

-- a is v, or stands on its path to the root
pub record Under (net : Network) (s : State) (a v : ℕ) : Type 0 where
  pub far : ℕ
  pub within : far ≤ get_or s.height v 0
  pub reaches : home net.ends s.parent v far ≡ a

-- line k joins the vertex foot with another one on its path
pub record Back (net : Network) (s : State) (k : ℕ) : Type 0 where
  pub foot : ℕ
  pub foot_in : foot < net.vertices
  pub foot_found : Found s foot
  pub touch : touches net.ends foot k ≡ true
  pub under : Under net s (other net.ends foot k) foot
  pub proper : other net.ends foot k ≡ foot → ⊥

-- line k found the vertex top
pub record Up (net : Network) (s : State) (k : ℕ) : Type 0 where
  pub top : ℕ
  pub top_in : top < net.vertices
  pub top_found : Found s top
  pub not_root : top ≡ 0 → ⊥
  pub top_line : line_down s top ≡ k

pub record Deep (net : Network) (s : State) : Type 0 where
  pub path : (v : ℕ) → v < net.vertices → Found s v → ((s.at < net.vertices) × Under net s v s.at) ⊎ StuckAt net s v
  pub backs : (k : ℕ) → get_or s.kind k 0 ≡ 1 → Back net s k
  pub ups : (k : ℕ) → k < net.lines → get_or s.kind k 0 ≡ 0 → Up net s k
  pub ends_found : (k v : ℕ) → k < net.lines → (get_or s.kind k 0 ≡ unused → ⊥) → touches net.ends v k ≡ true → Found s v

module _ (net : Network) (fit : Fit net) where
  -- Kept by later steps

  home_kept : (s t : State) → Sound net s → Later net s t → (j v : ℕ) → v < net.vertices → Found s v → j ≤ get_or s.height v 0 → home net.ends t.parent v j ≡ home net.ends s.parent v j
  unfolding home
  home_kept s t d l zero v i f e = refl
  home_kept s t d l (suc j) v i f e =
      let r = d.rooted v i f (not_root net fit s d v (λ z. omega arith)) in
      rw (l.parent_kept v f) (home_kept s t d l j (below net s v) (other_in net fit v _ r.is_line) r.found (omega (arith, r.higher)))

  under_kept : (s t : State) → Sound net s → Later net s t → (a v : ℕ) → v < net.vertices → Found s v → Under net s a v → Under net t a v
  under_kept s t d l a v i f x =
      record {
        far = x.far;
        within = rw (l.height_kept v f) x.within;
        reaches = home_kept s t d l x.far v i f x.within ∙ x.reaches;
      }

  back_kept : (s t : State) → Sound net s → Later net s t → (k : ℕ) → Back net s k → Back net t k
  back_kept s t d l k x =
      record {
        foot = x.foot;
        foot_in = x.foot_in;
        foot_found = later_found l _ x.foot_found;
        touch = x.touch;
        under = under_kept s t d l _ x.foot x.foot_in x.foot_found x.under;
        proper = x.proper;
      }

  up_kept : (s t : State) → Later net s t → (k : ℕ) → Up net s k → Up net t k
  up_kept s t l k u =
      record {
        top = u.top;
        top_in = u.top_in;
        top_found = later_found l _ u.top_found;
        not_root = u.not_root;
        top_line = l.parent_kept _ u.top_found ∙ u.top_line;
      }

  -- A step that uses line k, as x

  module _ (s : State) (d : Sound net s) (p : Deep net s) (k : ℕ) (h : s.at < net.vertices) (n : Next net s k) where
    abbrev w : ℕ
    w = other net.ends s.at k

    w_in : w < net.vertices
    w_in = other_in net fit s.at k n.below

    touch : touches net.ends s.at k ≡ true
    touch = free_touches net.ends s.kind s.at k n.passes

    -- the other end has a line left, so it stands on the path if it is found
    w_left : StuckAt net s w → ⊥
    w_left x = true_false (free_yes net.ends s.kind w k (free_unused net.ends s.kind s.at k n.passes) (touches_other net.ends s.at k touch)) (x k n.below)

    module _ (t : State) (x : ℕ) (l : Later net s t) (is : t.kind ≡ set s.kind k x) (far : Found t w) where
      kind_other : (j : ℕ) → (j ≡ k → ⊥) → get_or t.kind j 0 ≡ get_or s.kind j 0
      kind_other j i = ap (λ (ks : List ℕ). get_or ks j 0) is ∙ get_or-set_other s.kind k j x 0 i

      kind_same : get_or t.kind k 0 ≡ x
      kind_same =
          let few = fit.few_lines in
          let in_m = n.below in
          ap (λ (ks : List ℕ). get_or ks k 0) is ∙ get_or-set_same s.kind k x 0 (omega (arith, d.kinds_long))

      used_found : (j v : ℕ) → j < net.lines → (get_or t.kind j 0 ≡ unused → ⊥) → touches net.ends v j ≡ true → Found t v
      used_found j v o f e =
          cases (eq_or j k)
          (λ (i : j ≡ k).
          cases (touches_two net.ends s.at v k touch (rw i at e))
          (λ y. subst (λ (u : ℕ). Found t u) (sym y) (later_found l s.at (d.here h)))
          (λ y. subst (λ (u : ℕ). Found t u) (sym y) far))
          (λ (i : j ≡ k → ⊥). later_found l v (p.ends_found j v o (λ z. f (kind_other j i ∙ z)) e))

    find_deep : get_or s.found w 0 ≡ 0 → Later net s (finds net s k) → Deep net (finds net s k)
    unfolding home
    find_deep e l =
        let t : State = finds net s k in
        let x : ℕ = get_or s.height s.at 0 + 1 in
        let few = fit.few_vertices in
        let in_n = w_in in
        let new : get_or (set s.height w x) w 0 ≡ x = get_or-set_same s.height w x 0 (omega (arith, d.heights_long)) in
        let line : get_or (set s.parent w k) w 0 ≡ k = get_or-set_same s.parent w k 0 (omega (arith, d.parents_long)) in
        let back_home : other net.ends w k ≡ s.at = other_other net.ends k (fit.apart k n.below) s.at touch in
        let kept : get_or (set s.height w x) s.at 0 ≡ get_or s.height s.at 0 = l.height_kept s.at (d.here h) in
        let w_found : Found t w = λ z. eqb-false 1 0 refl (sym (get_or-set_same s.found w 1 0 (omega (arith, d.founds_long))) ∙ z) in
        let w_new : w ≡ 0 → ⊥ = λ z. d.root_found (ap (λ (j : ℕ). get_or s.found j 0) (sym z) ∙ e) in
        let longer : (v : ℕ) → Under net t v s.at → Under net t v w = λ v y.
        record { far = suc y.far; within = omega (arith, y.within); reaches = rw (line, back_home) y.reaches } in
        record {
          path = λ v i f.
              cases (eq_or v w)
              (λ (j : v ≡ w). inl (in_n, record { far = 0; within = omega arith; reaches = sym j }))
              (λ (j : v ≡ w → ⊥).
              cases (p.path v i (λ o. f (get_or-set_other s.found w v 1 0 j ∙ o)))
              (λ y. inl (in_n, longer v (under_kept s t d l v s.at h (d.here h) y.1)))
              (λ y. inr (λ m o. l.used v m (y m o))));
          backs = λ j o.
              cases (eq_or j k)
              (λ i. absurd (eqb-false 0 1 refl (sym (kind_same t 0 l refl w_found) ∙ (rw i at o))))
              (λ i. back_kept s t d l j (p.backs j (sym (kind_other t 0 l refl w_found j i) ∙ o)));
          ups = λ j o z.
              cases (eq_or j k)
              (λ i. record { top = w; top_in = in_n; top_found = w_found; not_root = w_new; top_line = line ∙ sym i })
              (λ i. up_kept s t l j (p.ups j o (sym (kind_other t 0 l refl w_found j i) ∙ z)));
          ends_found = used_found t 0 l refl w_found;
        }

    meet_deep : Found s w → Later net s (meets net s k) → Deep net (meets net s k)
    meet_deep e l =
        let t : State = meets net s k in
        let this : Back net t k =
        record {
          foot = s.at;
          foot_in = h;
          foot_found = d.here h;
          touch = touch;
          under = under_kept s t d l w s.at h (d.here h) (cases (p.path w w_in e) (λ y. y.1) (λ y. absurd (w_left y)));
          proper = other_apart net.ends k (fit.apart k n.below) s.at touch;
        } in
        record {
          path = λ v i f.
              cases (p.path v i f)
              (λ y. inl (h, under_kept s t d l v s.at h (d.here h) y.1))
              (λ y. inr (λ m o. l.used v m (y m o)));
          backs = λ j o.
              cases (eq_or j k)
              (λ i. subst (λ (q : ℕ). Back net t q) (sym i) this)
              (λ i. back_kept s t d l j (p.backs j (sym (kind_other t 1 l refl e j i) ∙ o)));
          ups = λ j o z.
              cases (eq_or j k)
              (λ i. absurd (eqb-false 1 0 refl (sym (kind_same t 1 l refl e) ∙ (rw i at z))))
              (λ i. up_kept s t l j (p.ups j o (sym (kind_other t 1 l refl e j i) ∙ z)));
          ends_found = used_found t 1 l refl e;
        }

  -- A step down

  module _ (s : State) (d : Sound net s) (p : Deep net s) (h : s.at < net.vertices) (n : StuckAt net s s.at) where
    -- what stands under the vertex stands under the one below it, or is the vertex itself and done with
    down_path : (get_or s.height s.at 0 ≡ 0 → ⊥) → (v far : ℕ) → far ≤ get_or s.height s.at 0 → home net.ends s.parent s.at far ≡ v
        → (((retreats net s).at < net.vertices) × Under net (retreats net s) v (retreats net s).at) ⊎ StuckAt net s v
    unfolding home
    down_path e v zero i r = inr (subst (λ (u : ℕ). StuckAt net s u) r n)
    down_path e v (suc f) i r =
        let q = d.rooted s.at h (d.here h) (not_root net fit s d s.at e) in
        inl (other_in net fit s.at _ q.is_line, record { far = f; within = omega (arith, q.higher); reaches = r })

    last_path : get_or s.height s.at 0 ≡ 0 → (v far : ℕ) → far ≤ get_or s.height s.at 0 → home net.ends s.parent s.at far ≡ v → StuckAt net s v
    unfolding home
    last_path e v zero i r = subst (λ (u : ℕ). StuckAt net s u) r n
    last_path e v (suc f) i r = absurd (omega arith)

  pub step_deep : (s t : State) → Step net s t → Sound net s → Deep net s → Deep net t
  step_deep s t (finding k h n e) d p = find_deep s d p k h n e (step_later net s _ (finding k h n e))
  step_deep s t (meeting k h n e) d p = meet_deep s d p k h n e (step_later net s _ (meeting k h n e))
  step_deep s t (retreating h n e) d p =
      let l = step_later net s _ (retreating h n e) in
      record {
        path = λ v i f. cases (p.path v i f) (λ y. down_path s d p h n e v y.1.far y.1.within y.1.reaches) (λ y. inr y);
        backs = λ j o. back_kept s (retreats net s) d l j (p.backs j o);
        ups = λ j o z. up_kept s (retreats net s) l j (p.ups j o z);
        ends_found = p.ends_found;
      }
  step_deep s t (halting h n e) d p =
      let l = step_later net s _ (halting h n e) in
      record {
        path = λ v i f. inr (cases (p.path v i f) (λ y. last_path s d p h n e v y.1.far y.1.within y.1.reaches) (λ y. y));
        backs = λ j o. back_kept s (halts net s) d l j (p.backs j o);
        ups = λ j o z. up_kept s (halts net s) l j (p.ups j o z);
        ends_found = p.ends_found;
      }
  step_deep s t (resting h) d p = p

  start_deep : Deep net start
  unfolding start home
  start_deep =
      let few = fit.few_vertices in
      let few_lines = fit.few_lines in
      let only : (v : ℕ) → v < net.vertices → Found start v → v ≡ 0 = λ v i f. cases (eq_or v 0) (λ z. z) (λ z. absurd (f (start_found net fit v (omega arith) z))) in
      record {
        path = λ v i f. inl (fit.some_vertex, record { far = 0; within = omega arith; reaches = sym (only v i f) });
        backs = λ j o.
            absurd
            (cases (lt_or j 2048)
            (λ (h : j < 2048). eqb-false 3 1 refl (sym (get_or-replicate {A = ℕ} 2048 j 3 0 h) ∙ o))
            (λ (h : 2048 ≤ j). eqb-false 0 1 refl (sym (get_or-eq_default (replicate {A = ℕ} 2048 3) 0 {n = j} (subst (λ (i : ℕ). i ≤ j) (sym (length-replicate {A = ℕ} 2048 3)) h)) ∙ o)));
        ups = λ j o z. absurd (eqb-false 3 0 refl (sym (get_or-replicate {A = ℕ} 2048 j 3 0 (omega arith)) ∙ z));
        ends_found = λ k v o f e. absurd (f (get_or-replicate {A = ℕ} 2048 k 3 0 (omega arith)));
      }

  -- The end of the search

  pub finished_both : Sound net (finished net) × Deep net (finished net)
  unfolding finished
  finished_both =
      run_keeps net (λ (s : State). Sound net s × Deep net s) (λ s t x q. (step_sound net fit s t x q.0, step_deep s t x q.0 q.1))
      (net.lines + net.vertices) start (start_sound net fit, start_deep)
