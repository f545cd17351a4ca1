-- What holds of the machine at each step: the tables keep their lengths, and the found vertices are a tree, each but the root with a tree line to a
-- found vertex one lower.
use mathlib.Core.Bool.{true}
use mathlib.Core.List.{List}
use mathlib.Core.Logic.{◌⊎◌, inl, inr}
use mathlib.Core.Path.{◌≡◌, refl, sym, ap, ◌∙◌, subst}
use Prim.Native.Nat.{ℕ, suc, ◌+◌, ◌≤◌, ◌<◌}
use native.Mathlib.Omega.{arith}
use lib.ListN.{get_or, set, length, take, replicate, length-set, length-replicate, get_or-replicate, get_or-eq_default}
use lib.Seq.{get_or-set_same, get_or-set_other, length-take-le, set_out}
use borrow.Author.Tests.{eqb-false}
use Rattle.laws.proofs.Cases.{cases, eq_or, lt_or}
use Rattle.laws.proofs.Counting.{many_le, many_take_set}
use Rattle.network.specs.Network.{Network, touches, other}
use Rattle.network.specs.Inside.{Fit}
use Rattle.network.specs.Marks.{unused}
use Rattle.network.proofs.Lines.{touches_other, other_other, other_in}
use Rattle.search.specs.Machine.{State, finds, meets, start}
use Rattle.search.specs.Inside.{unfound}
use Rattle.search.proofs.Steps.{Next, Found, Step, finding, meeting, retreating, halting, resting, Later, later_found, step_later, free_touches}

-- the line that found v, and the vertex that it came from
abbrev pub line_down : State → ℕ → ℕ
line_down s v = get_or s.parent v 0

abbrev pub below : Network → State → ℕ → ℕ
below net s v = other net.ends v (line_down s v)

-- v stands on the tree
pub record Rooted (net : Network) (s : State) (v : ℕ) : Type 0 where
  pub is_line : line_down s v < net.lines
  pub touch : touches net.ends v (line_down s v) ≡ true
  pub is_tree : get_or s.kind (line_down s v) 0 ≡ 0
  pub found : Found s (below net s v)
  pub higher : get_or s.height v 0 ≡ get_or s.height (below net s v) 0 + 1

-- a line is a tree line or a back line, or unused
abbrev pub Kind : ℕ → Type 0
Kind x = (x < 2) ⊎ (x ≡ unused)

pub record Sound (net : Network) (s : State) : Type 0 where
  pub kinds_long : length s.kind ≡ 2048
  pub founds_long : length s.found ≡ 512
  pub heights_long : length s.height ≡ 512
  pub parents_long : length s.parent ≡ 512
  pub kinds : (k : ℕ) → Kind (get_or s.kind k 0)
  pub root_found : Found s 0
  pub root_low : get_or s.height 0 0 ≡ 0
  pub here : s.at < net.vertices → Found s s.at
  pub low : s.at < net.vertices → get_or s.height s.at 0 + unfound net.vertices s.found < net.vertices
  pub rooted : (v : ℕ) → v < net.vertices → Found s v → (v ≡ 0 → ⊥) → Rooted net s v

rooted_kept : (net : Network) (s t : State) (v : ℕ) → Later net s t → Found s v → Rooted net s v → Rooted net t v
rooted_kept net s t v l f r =
    let same : line_down t v ≡ line_down s v = l.parent_kept v f in
    let used : get_or s.kind (line_down s v) 0 ≡ unused → ⊥ = λ e. let z = r.is_tree in omega arith in
    let kept : get_or t.height (below net s v) 0 ≡ get_or s.height (below net s v) 0 = l.height_kept _ r.found in
    record {
      is_line = rw same r.is_line;
      touch = rw same r.touch;
      is_tree = rw same (l.kind_kept (line_down s v) used ∙ r.is_tree);
      found = rw same (later_found l _ r.found);
      higher = rw same (l.height_kept v f ∙ r.higher ∙ ap (λ (j : ℕ). j + 1) (sym kept));
    }

kinds_set : (l : List ℕ) (i x : ℕ) → x < 2 → ((k : ℕ) → Kind (get_or l k 0)) → (k : ℕ) → Kind (get_or (set l i x) k 0)
kinds_set l i x h f k =
    cases (eq_or k i)
    (λ e.
    cases (lt_or i (length l))
    (λ o. inl (rw (e, get_or-set_same l i x 0 o) h))
    (λ o. rw (set_out l i x o) (f k)))
    (λ d. rw (get_or-set_other l i k x 0 d) (f k))

module _ (net : Network) (fit : Fit net) where
  -- only the place has changed, to a vertex that is not higher
  moved : (s t : State) (v : ℕ) → Step net s t → t ≡ record { at = v; kind = s.kind; found = s.found; height = s.height; parent = s.parent }
      → Sound net s → (v < net.vertices → Found s v × (get_or s.height v 0 + unfound net.vertices s.found < net.vertices))
      → Sound net (record { at = v; kind = s.kind; found = s.found; height = s.height; parent = s.parent })
  moved s t v x e d f =
      record {
        kinds_long = d.kinds_long;
        founds_long = d.founds_long;
        heights_long = d.heights_long;
        parents_long = d.parents_long;
        kinds = d.kinds;
        root_found = d.root_found;
        root_low = d.root_low;
        here = λ h. (f h).0;
        low = λ h. (f h).1;
        rooted = λ u h g z. rooted_kept net s _ u (subst (λ (y : State). Later net s y) e (step_later net s t x)) g (d.rooted u h g z);
      }

  find_sound : (s : State) (k : ℕ) → s.at < net.vertices → Next net s k → get_or s.found (other net.ends s.at k) 0 ≡ 0
      → Later net s (finds net s k) → Sound net s → Sound net (finds net s k)
  find_sound s k h n e l d =
      let w : ℕ = other net.ends s.at k in
      let x : ℕ = get_or s.height s.at 0 + 1 in
      let few = fit.few_vertices in
      let lower = d.low h in
      let in_n : w < net.vertices = other_in net fit s.at k n.below in
      let new : get_or (set s.height w x) w 0 ≡ x = get_or-set_same s.height w x 0 (omega (arith, d.heights_long)) in
      let now_found : get_or (set s.found w 1) w 0 ≡ 1 = get_or-set_same s.found w 1 0 (omega (arith, d.founds_long)) in
      let line : get_or (set s.parent w k) w 0 ≡ k = get_or-set_same s.parent w k 0 (omega (arith, d.parents_long)) in
      let fewer : suc (unfound net.vertices (set s.found w 1)) ≡ unfound net.vertices s.found =
      many_take_set 0 1 net.vertices s.found w (omega (arith, d.founds_long)) in_n e (eqb-false 1 0 refl) in
      let touch : touches net.ends s.at k ≡ true = free_touches net.ends s.kind s.at k n.passes in
      let home : other net.ends w k ≡ s.at = other_other net.ends k (fit.apart k n.below) s.at touch in
      let kept : get_or (set s.height w x) s.at 0 ≡ get_or s.height s.at 0 = l.height_kept s.at (d.here h) in
      let old : (v : ℕ) → (v ≡ w → ⊥) → Found (finds net s k) v → Found s v = λ v a f i. f (get_or-set_other s.found w v 1 0 a ∙ i) in
      let few_lines = fit.few_lines in
      let in_m = n.below in
      record {
        kinds_long = length-set s.kind k 0 ∙ d.kinds_long;
        founds_long = length-set s.found w 1 ∙ d.founds_long;
        heights_long = length-set s.height w x ∙ d.heights_long;
        parents_long = length-set s.parent w k ∙ d.parents_long;
        kinds = kinds_set s.kind k 0 (omega arith) d.kinds;
        root_found = later_found l 0 d.root_found;
        root_low = l.height_kept 0 d.root_found ∙ d.root_low;
        here = λ i f. eqb-false 1 0 refl (sym now_found ∙ f);
        low = λ i. omega arith;
        rooted = λ v a f z.
            cases (eq_or v w)
            (λ (i : v ≡ w).
            subst (λ (y : ℕ). Rooted net (finds net s k) y) (sym i)
            (record {
              is_line = rw line n.below;
              touch = rw line (touches_other net.ends s.at k touch);
              is_tree = rw line (get_or-set_same s.kind k 0 0 (omega (arith, d.kinds_long)));
              found = rw (line, home) (later_found l s.at (d.here h));
              higher = rw (line, home) (new ∙ ap (λ (j : ℕ). j + 1) (sym kept));
            }))
            (λ (i : v ≡ w → ⊥). rooted_kept net s (finds net s k) v l (old v i f) (d.rooted v a (old v i f) z));
      }

  -- a vertex with a height is not the root
  pub not_root : (s : State) → Sound net s → (v : ℕ) → (get_or s.height v 0 ≡ 0 → ⊥) → v ≡ 0 → ⊥
  not_root s d v h e = h (ap (λ (j : ℕ). get_or s.height j 0) e ∙ d.root_low)

  pub step_sound : (s t : State) → Step net s t → Sound net s → Sound net t
  step_sound s t (finding k h n e) d = find_sound s k h n e (step_later net s _ (finding k h n e)) d
  step_sound s t (meeting k h n e) d =
      record {
        kinds_long = length-set s.kind k 1 ∙ d.kinds_long;
        founds_long = d.founds_long;
        heights_long = d.heights_long;
        parents_long = d.parents_long;
        kinds = kinds_set s.kind k 1 (omega arith) d.kinds;
        root_found = d.root_found;
        root_low = d.root_low;
        here = d.here;
        low = d.low;
        rooted = λ v a f z. rooted_kept net s (meets net s k) v (step_later net s _ (meeting k h n e)) f (d.rooted v a f z);
      }
  step_sound s t (retreating h n e) d =
      let r = d.rooted s.at h (d.here h) (not_root s d s.at e) in
      moved s _ _ (retreating h n e) refl d (λ i. (r.found, let a = d.low h in let b = r.higher in omega arith))
  step_sound s t (halting h n e) d = moved s _ _ (halting h n e) refl d (λ i. absurd (omega arith))
  step_sound s t (resting h) d = d

  -- The start

  pub start_found : (v : ℕ) → v < 512 → (v ≡ 0 → ⊥) → get_or (set (replicate {A = ℕ} 512 0) 0 1) v 0 ≡ 0
  start_found v h d = get_or-set_other (replicate {A = ℕ} 512 0) 0 v 1 0 d ∙ get_or-replicate {A = ℕ} 512 v 0 0 h

  -- of the first n places of the table none but vertex 0 is found
  pub start_unfound : (n : ℕ) → 0 < n → n ≤ 512 → unfound n (set (replicate {A = ℕ} 512 0) 0 1) < n
  start_unfound n some few =
      let a : suc (unfound n (set (replicate {A = ℕ} 512 0) 0 1)) ≡ unfound n (replicate {A = ℕ} 512 0) =
      many_take_set 0 1 n (replicate {A = ℕ} 512 0) 0 few some refl (eqb-false 1 0 refl) in
      let b = many_le 0 (take n (replicate {A = ℕ} 512 0)) in
      let c : length (take n (replicate {A = ℕ} 512 0)) ≡ n = length-take-le n (replicate {A = ℕ} 512 0) few in
      omega arith

  pub start_sound : Sound net start
  unfolding start
  start_sound =
      let few = fit.few_vertices in
      record {
        kinds_long = length-replicate {A = ℕ} 2048 3;
        founds_long = refl;
        heights_long = refl;
        parents_long = refl;
        kinds = λ k.
            cases (lt_or k 2048)
            (λ h. inr (get_or-replicate {A = ℕ} 2048 k 3 0 h))
            (λ h. inl (rw (get_or-eq_default (replicate {A = ℕ} 2048 3) 0 {n = k} (subst (λ (j : ℕ). j ≤ k) (sym (length-replicate {A = ℕ} 2048 3)) h)) (omega arith)));
        root_found = eqb-false 1 0 refl;
        root_low = refl;
        here = λ h. eqb-false 1 0 refl;
        low = λ h. omega (arith, start_unfound net.vertices fit.some_vertex few);
        rooted = λ v h f z. absurd (f (start_found v (omega arith) z));
      }
