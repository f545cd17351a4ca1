-- The search finds just the vertices that a path reaches: the found ones are closed under lines, and each stands on a path to vertex 0. So every
-- vertex is found exactly where the network is connected.
use mathlib.Core.Bool.{true, false, not}
use mathlib.Core.List.{List}
use mathlib.Core.Logic.{◌≢◌}
use mathlib.Core.Path.{◌≡◌, refl, sym, ap, ◌∙◌, subst}
use Prim.Native.Nat.{ℕ, zero, suc, ◌+◌, ◌≤◌, ◌<◌}
use native.Mathlib.Omega.{arith}
use lib.ListN.{get_or}
use borrow.Author.Tests.{ne_eqb, eqb-false, not-true}
use Rattle.laws.proofs.Cases.{cases, eq_or, true_false, false_when}
use Rattle.laws.proofs.Tests.{all_yes, all_of}
use Rattle.network.specs.Network.{Network, touches, other, joins, Path, here, along, Connected}
use Rattle.network.specs.Inside.{Fit}
use Rattle.network.specs.Marks.{unused}
use Rattle.network.proofs.Lines.{touches_other, joins_other, joins_is, joins_touches, other_in, path_join, path_turn}
use Rattle.search.specs.Machine.{State, finished}
use Rattle.search.specs.Inside.{everyone}
use Rattle.search.proofs.Steps.{Found, free_yes}
use Rattle.search.proofs.Sound.{below}
use Rattle.search.proofs.Halts.{finished_halts}
use Rattle.search.proofs.Deep.{finished_both}

-- The test, as a loop over the vertices

pub record Reaching (n : ℕ) (fs : List ℕ) (v : ℕ) : Type 0 where
  pub upto : v ≤ n
  pub found : (u : ℕ) → u < v → get_or fs u 0 ≡ 0 → ⊥

module _ (n : ℕ) (fs : List ℕ) where
  pub reaching_start : Reaching n fs 0
  reaching_start = record { upto = omega arith; found = λ u h. absurd (omega arith) }

  pub reaching_more : (v : ℕ) → Reaching n fs v → v < n → (get_or fs v 0 ≡ 0 → ⊥) → Reaching n fs (v + 1)
  reaching_more v r h f =
      record { upto = omega arith; found = λ u l. cases (eq_or u v) (λ e. rw e f) (λ d. let d' : u ≢ v = d in r.found u (omega arith)) }

  pub everyone_of : everyone n fs ≡ true → (v : ℕ) → v < n → get_or fs v 0 ≡ 0 → ⊥
  unfolding everyone
  everyone_of e v h = eqb-false _ _ (not-true _ (all_of _ n e v h))

  pub everyone_yes : ((v : ℕ) → v < n → get_or fs v 0 ≡ 0 → ⊥) → everyone n fs ≡ true
  unfolding everyone
  everyone_yes f = all_yes _ n (λ v h. ap not (ne_eqb (get_or fs v 0) 0 (f v h)))

  pub everyone_not : (v : ℕ) → v < n → get_or fs v 0 ≡ 0 → everyone n fs ≡ false
  everyone_not v h z = false_when (everyone n fs) (λ e. everyone_of e v h z)

  pub reaching_done : (v : ℕ) → Reaching n fs v → n ≤ v → true ≡ everyone n fs
  reaching_done v r h = sym (everyone_yes (λ u l. r.found u (omega arith)))

  pub reaching_not : (v : ℕ) → v < n → get_or fs v 0 ≡ 0 → false ≡ everyone n fs
  reaching_not v h z = sym (everyone_not v h z)

module _ (net : Network) (fit : Fit net) where
  abbrev s : State
  s = finished net

  -- every line at a found vertex is used, and leads to a found vertex
  pub line_used : (v k : ℕ) → v < net.vertices → Found s v → k < net.lines → touches net.ends v k ≡ true → get_or s.kind k 0 ≡ unused → ⊥
  line_used v k i f o t u =
      cases ((finished_both net fit).1.path v i f)
      (λ y. omega (arith, y.0, finished_halts net fit))
      (λ y. true_false (free_yes net.ends s.kind v k u t) (y k o))

  found_along : (u v k : ℕ) → u < net.vertices → Found s u → k < net.lines → joins net.ends k u v ≡ true → (v < net.vertices) × Found s v
  found_along u v k i f o j =
      let t = joins_touches net.ends u v k j in
      let e = joins_is net.ends k (fit.apart k o) u v j in
      let w_in = other_in net fit u k o in
      let w_found = (finished_both net fit).1.ends_found k (other net.ends u k) o (line_used u k i f o t) (touches_other net.ends u k t) in
      (subst (λ (x : ℕ). x < net.vertices) (sym e) w_in, subst (λ (x : ℕ). Found s x) (sym e) w_found)

  found_path : {u v : ℕ} → u < net.vertices → Found s u → Path net u v → Found s v
  found_path i f here = f
  found_path i f (along {u} {v} k o j p) = let q = found_along u v k i f o j in found_path q.0 q.1 p

  -- down the parent lines to vertex 0
  path_home : (h v : ℕ) → v < net.vertices → Found s v → get_or s.height v 0 ≡ h → Path net v 0
  path_home zero v i f e =
      cases (eq_or v 0)
      (λ z. subst (λ (x : ℕ). Path net x 0) (sym z) here)
      (λ z. absurd (omega (arith, ((finished_both net fit).0.rooted v i f z).higher)))
  path_home (suc h) v i f e =
      let d = (finished_both net fit).0 in
      let z : v ≡ 0 → ⊥ = λ q. let a : get_or s.height v 0 ≡ 0 = ap (λ (x : ℕ). get_or s.height x 0) q ∙ d.root_low in omega arith in
      let r = d.rooted v i f z in
      along (get_or s.parent v 0) r.is_line (joins_other net.ends v _ r.touch) (path_home h (below net s v) (other_in net fit v _ r.is_line) r.found (omega (arith, r.higher)))

  pub connected_found : Connected net → (v : ℕ) → v < net.vertices → Found s v
  connected_found c v h = found_path fit.some_vertex (finished_both net fit).0.root_found (c 0 v fit.some_vertex h)

  pub found_connected : ((v : ℕ) → v < net.vertices → Found s v) → Connected net
  found_connected f u v i j = path_join (path_home _ u i (f u i) refl) (path_turn (path_home _ v j (f v j) refl))

  pub connected_yes : Connected net → everyone net.vertices s.found ≡ true
  connected_yes c = everyone_yes net.vertices s.found (connected_found c)

  pub connected_of : everyone net.vertices s.found ≡ true → Connected net
  connected_of e = found_connected (everyone_of net.vertices s.found e)

  pub connected_no : everyone net.vertices s.found ≡ false → Connected net → ⊥
  connected_no e c = true_false (connected_yes c) e
