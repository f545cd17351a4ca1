-- The machine's step by cases, one for each thing it can do; and what no step undoes: a used line stays used, a found vertex keeps its height and
-- its parent line.
use mathlib.Core.Bool.{true, false, cond}
use mathlib.Core.List.{List}
use mathlib.Core.Path.{◌≡◌, refl, sym, ap, ◌∙◌, subst}
use Prim.Native.Nat.{ℕ, zero, suc, ◌+◌, ◌*◌, ◌≤◌, ◌<◌}
use native.Mathlib.Nat.{suc-add, zero-add}
use native.Mathlib.Omega.{arith}
use lib.ListN.{get_or, set, length, drop, length-set}
use lib.Seq.{get_or-set_same, get_or-set_other, get_or-drop, set_out}
use borrow.Author.Tests.{eq-eqb, ne_eqb, eqb-true, eqb-false, lt-ltb, le-ltb}
use Rattle.laws.specs.Tests.{least}
use Rattle.laws.proofs.Cases.{cases, eq_or, lt_or}
use Rattle.laws.proofs.Tests.{both_yes, both_of, both_no_first, First, least_is, least_none, least_same, least_cases}
use Rattle.network.specs.Network.{Network, touches, other}
use Rattle.network.specs.Marks.{unused}
use Rattle.search.specs.Machine.{State, state, free, lowest_free, next, finds, meets, retreats, halts, take_line, leave, go, step, run}

-- Free lines

pub free_touches : (ends kind : List ℕ) (v k : ℕ) → free ends kind v k ≡ true → touches ends v k ≡ true
unfolding free
free_touches ends kind v k t = (both_of t).1

pub free_unused : (ends kind : List ℕ) (v k : ℕ) → free ends kind v k ≡ true → get_or kind k 0 ≡ unused
unfolding free
free_unused ends kind v k t = eqb-true _ _ (both_of t).0

pub free_yes : (ends kind : List ℕ) (v k : ℕ) → get_or kind k 0 ≡ unused → touches ends v k ≡ true → free ends kind v k ≡ true
unfolding free
free_yes ends kind v k u t = both_yes (eq-eqb _ _ u) t

pub used_not_free : (ends kind : List ℕ) (v k : ℕ) → (get_or kind k 0 ≡ unused → ⊥) → free ends kind v k ≡ false
unfolding free
used_not_free ends kind v k d = both_no_first _ _ (ne_eqb (get_or kind k 0) unused d)

-- using a line frees none
pub free_set : (ends kind : List ℕ) (i x : ℕ) → (x ≡ unused → ⊥) → (v k : ℕ) → free ends kind v k ≡ false → free ends (set kind i x) v k ≡ false
free_set ends kind i x d v k f =
    cases (eq_or (get_or (set kind i x) k 0) unused)
    (λ b.
    cases (eq_or k i)
    (λ a.
    cases (lt_or i (length kind))
    (λ h. absurd (d (sym (get_or-set_same kind i x 0 h) ∙ ap (λ (j : ℕ). get_or (set kind i x) j 0) (sym a) ∙ b)))
    (λ h. rw (set_out kind i x h) f))
    (λ a. unfold free in rw (get_or-set_other kind i k x 0 a) (unfold free in f)))
    (λ b. used_not_free ends (set kind i x) v k b)

-- the walk down the two lists finds the least free line
free_drop : (ends kind : List ℕ) (v k : ℕ) → free (drop 2 ends) (drop 1 kind) v k ≡ free ends kind v (suc k)
unfolding free touches
free_drop ends kind v k =
    let a : 2 + 2 * k ≡ 2 * suc k = omega arith in
    let b : 2 + (2 * k + 1) ≡ 2 * suc k + 1 = omega arith in
    let c : 1 + k ≡ suc k = omega arith in
    rw (get_or-drop 2 ends (2 * k) 0, get_or-drop 2 ends (2 * k + 1) 0, get_or-drop 1 kind k 0, a, b, c)

pub lowest_is_least : (v m : ℕ) (ends kind : List ℕ) → lowest_free v m ends kind ≡ least (free ends kind v) m
unfolding lowest_free least
lowest_is_least v zero ends kind = refl
lowest_is_least v (suc m) ends kind =
    ap (λ (r : ℕ). cond (free ends kind v 0) 0 (suc r))
    (lowest_is_least v m (drop 2 ends) (drop 1 kind)
    ∙ least_same (free (drop 2 ends) (drop 1 kind) v) (λ (k : ℕ). free ends kind v (suc k)) m (free_drop ends kind v))

-- Steps

-- no line is free at v
abbrev pub StuckAt : Network → State → ℕ → Type 0
StuckAt net s v = (j : ℕ) → j < net.lines → free net.ends s.kind v j ≡ false

-- line k is the first free line at the state's vertex
abbrev pub Next : Network → State → ℕ → Type 0
Next net s k = First (free net.ends s.kind s.at) net.lines k

abbrev pub Found : State → ℕ → Type 0
Found s v = get_or s.found v 0 ≡ 0 → ⊥

-- a step, by what it does
pub data Step (net : Network) (s : State) : State → Type 0 where
  finding : (k : ℕ) → s.at < net.vertices → Next net s k → get_or s.found (other net.ends s.at k) 0 ≡ 0 → Step net s (finds net s k)
  meeting : (k : ℕ) → s.at < net.vertices → Next net s k → Found s (other net.ends s.at k) → Step net s (meets net s k)
  retreating : s.at < net.vertices → StuckAt net s s.at → (get_or s.height s.at 0 ≡ 0 → ⊥) → Step net s (retreats net s)
  halting : s.at < net.vertices → StuckAt net s s.at → get_or s.height s.at 0 ≡ 0 → Step net s (halts net s)
  resting : net.vertices ≤ s.at → Step net s s

module _ (net : Network) (s : State) where
  next_is : (k : ℕ) → Next net s k → next net s ≡ k
  next_is k l = lowest_is_least s.at net.lines net.ends s.kind ∙ least_is _ net.lines k l

  next_none : StuckAt net s s.at → next net s ≡ net.lines
  next_none f = lowest_is_least s.at net.lines net.ends s.kind ∙ least_none _ net.lines f

  -- the machine makes the step
  pub steps : (t : State) → Step net s t → step net s ≡ t
  unfolding step go take_line leave
  steps t (finding k h l e) = rw (lt-ltb s.at net.vertices h, next_is k l, lt-ltb k net.lines l.below, eq-eqb _ _ e)
  steps t (meeting k h l e) = rw (lt-ltb s.at net.vertices h, next_is k l, lt-ltb k net.lines l.below, ne_eqb _ _ e)
  steps t (retreating h f e) = rw (lt-ltb s.at net.vertices h, next_none f, le-ltb net.lines net.lines (omega arith), ne_eqb _ _ e)
  steps t (halting h f e) = rw (lt-ltb s.at net.vertices h, next_none f, le-ltb net.lines net.lines (omega arith), eq-eqb _ _ e)
  steps t (resting h) = rw (le-ltb s.at net.vertices h)

  made : (t : State) → Step net s t → Step net s (step net s)
  made t x = subst (λ (u : State). Step net s u) (sym (steps t x)) x

  -- the step that the machine makes
  pub view : Step net s (step net s)
  view =
      cases (lt_or s.at net.vertices)
      (λ h.
      cases (least_cases (free net.ends s.kind s.at) net.lines)
      (λ l.
      cases (eq_or (get_or s.found (other net.ends s.at _) 0) 0)
      (λ e. made _ (finding _ h l e))
      (λ e. made _ (meeting _ h l e)))
      (λ f.
      cases (eq_or (get_or s.height s.at 0) 0)
      (λ e. made _ (halting h f.1 e))
      (λ e. made _ (retreating h f.1 e))))
      (λ h. made s (resting h))

-- Runs

pub run_one : (net : Network) (s t : State) → Step net s t → run net 1 s ≡ t
unfolding run
run_one net s t x = steps net s t x

pub run_add : (net : Network) (i j : ℕ) (s : State) → run net (i + j) s ≡ run net j (run net i s)
unfolding run
run_add net zero j s = rw zero-add
run_add net (suc i) j s = rw suc-add (run_add net i j (step net s))

pub run_then : (net : Network) (i j : ℕ) (s t u : State) → run net i s ≡ t → run net j t ≡ u → run net (i + j) s ≡ u
run_then net i j s t u e f = run_add net i j s ∙ ap (λ (x : State). run net j x) e ∙ f

-- what each step keeps, a run keeps
pub run_keeps : (net : Network) (P : State → Type 0) → ((s t : State) → Step net s t → P s → P t) → (j : ℕ) (s : State) → P s → P (run net j s)
unfolding run
run_keeps net P keep zero s p = p
run_keeps net P keep (suc j) s p = run_keeps net P keep j (step net s) (keep s (step net s) (view net s) p)

-- What no step undoes

pub record Later (net : Network) (s t : State) : Type 0 where
  pub kinds_long : length t.kind ≡ length s.kind
  pub founds_long : length t.found ≡ length s.found
  pub heights_long : length t.height ≡ length s.height
  pub parents_long : length t.parent ≡ length s.parent
  pub used : (v k : ℕ) → free net.ends s.kind v k ≡ false → free net.ends t.kind v k ≡ false
  pub found_kept : (v : ℕ) → Found s v → get_or t.found v 0 ≡ get_or s.found v 0
  pub height_kept : (v : ℕ) → Found s v → get_or t.height v 0 ≡ get_or s.height v 0
  pub parent_kept : (v : ℕ) → Found s v → get_or t.parent v 0 ≡ get_or s.parent v 0
  pub kind_kept : (k : ℕ) → (get_or s.kind k 0 ≡ unused → ⊥) → get_or t.kind k 0 ≡ get_or s.kind k 0

pub later_found : {net : Network} {s t : State} → Later net s t → (v : ℕ) → Found s v → Found t v
later_found l v f e = f (sym (l.found_kept v f) ∙ e)

-- only the place has changed
later_moved : (net : Network) (s : State) (v : ℕ) → Later net s (state v s.kind s.found s.height s.parent)
later_moved net s v =
    record {
      kinds_long = refl;
      founds_long = refl;
      heights_long = refl;
      parents_long = refl;
      used = λ v k f. f;
      found_kept = λ v f. refl;
      height_kept = λ v f. refl;
      parent_kept = λ v f. refl;
      kind_kept = λ k f. refl;
    }

pub later_trans : (net : Network) (s t u : State) → Later net s t → Later net t u → Later net s u
later_trans net s t u a b =
    record {
      kinds_long = b.kinds_long ∙ a.kinds_long;
      founds_long = b.founds_long ∙ a.founds_long;
      heights_long = b.heights_long ∙ a.heights_long;
      parents_long = b.parents_long ∙ a.parents_long;
      used = λ v k f. b.used v k (a.used v k f);
      found_kept = λ v f. b.found_kept v (later_found a v f) ∙ a.found_kept v f;
      height_kept = λ v f. b.height_kept v (later_found a v f) ∙ a.height_kept v f;
      parent_kept = λ v f. b.parent_kept v (later_found a v f) ∙ a.parent_kept v f;
      kind_kept = λ k f. b.kind_kept k (λ e. f (sym (a.kind_kept k f) ∙ e)) ∙ a.kind_kept k f;
    }

-- a used line is not the next one
free_apart : (net : Network) (s : State) (k j : ℕ) → Next net s k → (get_or s.kind j 0 ≡ unused → ⊥) → j ≡ k → ⊥
free_apart net s k j l f i = f (ap (λ (x : ℕ). get_or s.kind x 0) i ∙ free_unused net.ends s.kind s.at k l.passes)

pub step_later : (net : Network) (s t : State) → Step net s t → Later net s t
step_later net s t (finding k h l e) =
    let apart : (v : ℕ) → Found s v → v ≡ other net.ends s.at k → ⊥ = λ v f i. f (ap (λ (j : ℕ). get_or s.found j 0) i ∙ e) in
    record {
      kinds_long = simp length-set;
      founds_long = simp length-set;
      heights_long = simp length-set;
      parents_long = simp length-set;
      used = free_set net.ends s.kind k 0 (eqb-false 0 unused refl);
      found_kept = λ v f. get_or-set_other s.found _ v _ 0 (apart v f);
      height_kept = λ v f. get_or-set_other s.height _ v _ 0 (apart v f);
      parent_kept = λ v f. get_or-set_other s.parent _ v _ 0 (apart v f);
      kind_kept = λ j f. get_or-set_other s.kind k j 0 0 (free_apart net s k j l f);
    }
step_later net s t (meeting k h l e) =
    record {
      kinds_long = simp length-set;
      founds_long = refl;
      heights_long = refl;
      parents_long = refl;
      used = free_set net.ends s.kind k 1 (eqb-false 1 unused refl);
      found_kept = λ v f. refl;
      height_kept = λ v f. refl;
      parent_kept = λ v f. refl;
      kind_kept = λ j f. get_or-set_other s.kind k j 1 0 (free_apart net s k j l f);
    }
step_later net s t (retreating h f e) = later_moved net s _
step_later net s t (halting h f e) = later_moved net s _
step_later net s t (resting h) = later_moved net s _

pub run_later : (net : Network) (j : ℕ) (s : State) → Later net s (run net j s)
run_later net j s =
    run_keeps net (λ (t : State). Later net s t) (λ t u x l. later_trans net s t u l (step_later net t u x)) j s (later_moved net s s.at)
