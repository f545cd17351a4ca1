-- A claim is true where a test says so. The test is given what the search leaves, so that a row makes its search once.
use mathlib.Core.Bool.{Bool, true, false, not}
use mathlib.Core.List.{List, [], ◌∷◌, map}
use mathlib.Core.Path.{◌≡◌}
use Prim.Native.Nat.{ℕ, ◌+◌}
use Prim.Native.String.{String, len}
use lib.Dec.{eqb, ltb}
use lib.ListN.{length, take}
use borrow.Author.Tests.{eqb-true, ltb-true, not-true}
use Rattle.laws.specs.Tests.{both}
use Rattle.laws.specs.Counting.{many}
use Rattle.laws.specs.Lists.{keep, upto, at}
use Rattle.laws.proofs.Cases.{true_false}
use Rattle.laws.proofs.Tests.{both_of}
use Rattle.network.specs.Network.{Network}
use Rattle.network.specs.Marks.{back}
use Rattle.tree.specs.Tree.{Tree, tree_of}
use Rattle.tree.specs.Returns.{backb}
use Rattle.search.specs.Machine.{State, finished, tree_in}
use Rattle.search.specs.Orient.{back_lines}
use Rattle.fork.specs.Fork.{levelb, alignedb}
use Rattle.fork.proofs.Rule.{level_of, aligned_level, aligned_yes}
use Rattle.clockwise.specs.Order.{order_at, flat}
use Rattle.meshes.specs.Meshes.{mesh_count, mesh_list, size_list}
use Rattle.trials.specs.Trials.{Claim, back_lines_are, choices_are, next_is, none_after, not_aligned, must_agree, ring_is, mesh_count_is, sizes_are, meshes_are, clockwise_is, trips_are, written, directions, step_lines, step_kinds, Every, choice, Fitting, FollowedBy, AllChoices, Draws, True}
use Rattle.trials.specs.Turning.{tripsb}
use Rattle.trials.specs.Tests.{everyb, firstb, nextb, lastb, roundb}
use Rattle.trials.proofs.Lists.{numbers, numbers_of, rows, rows_of}
use Rattle.runs.proofs.Granted.{properb, proper_of}
use Rattle.trials.proofs.Choosing.{first_of, next_of, last_of, none_of}
use Rattle.trials.proofs.Ringing.{round_of, none_legal}
use Rattle.trials.proofs.Rounds.{these, roundsb, only_ring}

-- Of each member of a list

unfoldable pub each : {A : Type 0} → (A → Bool) → List A → Bool
each p [] = true
each p (x ∷ l) = both (p x) (each p l)

pub each_of : {A : Type 0} (p : A → Bool) (P : A → Type 0) → ((x : A) → p x ≡ true → P x) → (l : List A) → each p l ≡ true → Every P l
unfolding each
each_of p P f [] t = tt
each_of p P f (x ∷ l) t = let q = both_of t in (f x q.0, each_of p P f l q.1)

-- The tests

module _ (net : Network) (s : State) where
  abbrev pub grown : Tree
  grown = tree_of net.vertices net.lines net.ends s.kind s.height s.parent

  abbrev pub side : String → ℕ → ℕ
  side c = at (written grown c)

  unfoldable pub fittingb : String → Bool
  fittingb c = eqb (len c) (many back (take net.lines s.kind))

  unfoldable pub followedb : String → List String → Bool
  followedb c [] = lastb grown (side c)
  followedb c (d ∷ l) = both (nextb grown (side c) (side d)) (followedb d l)

  unfoldable pub choicesb : List String → Bool
  choicesb [] = everyb grown (λ c. false)
  choicesb (c ∷ l) = both (firstb grown (side c)) (followedb c l)

  abbrev pub order : String → ℕ → List ℕ
  order c = order_at grown (side c)

  abbrev pub meshes : String → ℕ
  meshes c = mesh_count grown.live net.lines net.ends (order c)

  unfoldable pub drawsb : String → Bool → Bool
  drawsb c p = both (fittingb c) (both (properb grown (side c)) (both (eqb (net.vertices + meshes c) (net.lines + 2)) p))

  unfoldable pub test : Claim → Bool
  test (back_lines_are l) = both (numbers (keep (backb grown) (upto net.lines)) l) (eqb (many back (take net.lines s.kind)) (length l))
  test (choices_are l) = both (each fittingb l) (choicesb l)
  test (next_is c d) = both (both (fittingb c) (fittingb d)) (both (properb grown (side c)) (nextb grown (side c) (side d)))
  test (none_after c) = both (fittingb c) (both (properb grown (side c)) (lastb grown (side c)))
  test (not_aligned c) = both (fittingb c) (not (alignedb grown (side c)))
  test (must_agree b d) = both (both (ltb b net.lines) (ltb d net.lines)) (levelb grown b d)
  test (ring_is steps) = both (roundb grown (length steps) (at (step_lines steps)) (at (step_kinds steps))) (roundsb grown (these steps))
  test (mesh_count_is c n) = drawsb c (eqb (meshes c) n)
  test (sizes_are c l) = drawsb c (numbers (size_list grown.live net.lines net.ends (order c)) l)
  test (meshes_are c l) = drawsb c (rows (directions (meshes c) (mesh_list grown.live net.lines net.ends (order c))) l)
  test (clockwise_is c l) = drawsb c (rows (map (order c) (upto net.vertices)) l)
  test (trips_are c outer l) = drawsb c (tripsb grown net.ends outer l (flat net.vertices (order c)) (mesh_list grown.live net.lines net.ends (order c)))

-- What they say

module _ (net : Network) where
  fitting_of : (c : String) → fittingb net (finished net) c ≡ true → Fitting net c
  unfolding fittingb back_lines
  fitting_of c t = eqb-true (len c) _ t

  followed_of : (c : String) (l : List String) → followedb net (finished net) c l ≡ true → FollowedBy net c l
  unfolding followedb
  followed_of c [] t = last_of (tree_in net) (choice net c) t
  followed_of c (d ∷ l) t = let q = both_of t in (next_of (tree_in net) (choice net c) (choice net d) q.0, followed_of d l q.1)

  choices_of : (l : List String) → choicesb net (finished net) l ≡ true → AllChoices net l
  unfolding choicesb
  choices_of [] t = none_of (tree_in net) t
  choices_of (c ∷ l) t = let q = both_of t in (first_of (tree_in net) (choice net c) q.0, followed_of c l q.1)

  draws_of : (c : String) (p : Bool) (P : Type 0) → (p ≡ true → P) → drawsb net (finished net) c p ≡ true → Draws net c P
  unfolding drawsb
  draws_of c p P f t =
      let q = both_of t in
      let r = both_of q.1 in
      let u = both_of r.1 in
      record { fitting = fitting_of c q.0; proper = proper_of (tree_in net) (choice net c) r.0; balanced = eqb-true _ (net.lines + 2) u.0; so = f u.1 }

  pub true_of : (claim : Claim) → test net (finished net) claim ≡ true → True net claim
  unfolding test back_lines
  true_of (back_lines_are l) t = let q = both_of t in (numbers_of _ l q.0, eqb-true _ (length l) q.1)
  true_of (choices_are l) t = let q = both_of t in (each_of (fittingb net (finished net)) (Fitting net) fitting_of l q.0, choices_of l q.1)
  true_of (next_is c d) t =
      let q = both_of t in
      let r = both_of q.0 in
      let u = both_of q.1 in
      (fitting_of c r.0, fitting_of d r.1, proper_of (tree_in net) (choice net c) u.0, next_of (tree_in net) (choice net c) (choice net d) u.1)
  true_of (none_after c) t =
      let q = both_of t in
      let r = both_of q.1 in
      (fitting_of c q.0, proper_of (tree_in net) (choice net c) r.0, last_of (tree_in net) (choice net c) r.1)
  true_of (not_aligned c) t =
      let q = both_of t in
      (fitting_of c q.0, λ a. true_false (aligned_yes (tree_in net) (choice net c) a) (not-true _ q.1))
  true_of (must_agree b d) t =
      let q = both_of t in
      let r = both_of q.0 in
      λ side a. aligned_level (tree_in net) side a b d (level_of (tree_in net) b d (ltb-true b net.lines r.0) (ltb-true d net.lines r.1) q.1)
  true_of (ring_is steps) t =
      let q = both_of t in
      let r = round_of (tree_in net) (length steps) _ _ q.0 in
      (none_legal (tree_in net) (length steps) _ _ r, r, only_ring (tree_in net) steps q.1)
  true_of (mesh_count_is c n) t = draws_of c _ _ (λ p. eqb-true _ n p) t
  true_of (sizes_are c l) t = draws_of c _ _ (λ p. numbers_of _ l p) t
  true_of (meshes_are c l) t = draws_of c _ _ (λ p. rows_of _ l p) t
  true_of (clockwise_is c l) t = draws_of c _ _ (λ p. rows_of _ l p) t
  true_of (trips_are c outer l) t = draws_of c _ _ (λ p. p) t
