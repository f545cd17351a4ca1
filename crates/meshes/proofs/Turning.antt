-- Arriving by a line and leaving by the next is one-to-one on the directions in service, for any order that has each line once at each of its ends: what
-- follows stands one place further on in the same list, and nothing stands twice.
use mathlib.Core.Bool.{Bool, true}
use mathlib.Core.List.{List}
use mathlib.Core.Logic.{◌≢◌}
use mathlib.Core.Path.{◌≡◌, sym, ◌∙◌, ap, subst}
use Prim.Native.Nat.{ℕ, ◌*◌, ◌/◌, ◌≤◌, ◌<◌}
use native.Mathlib.Omega.{arith}
use lib.ListN.{length, get_or}
use Rattle.laws.specs.Counting.{many}
use Rattle.laws.proofs.Cases.{cases, eq_or}
use Rattle.laws.proofs.Orbits.{In, Turn}
use Rattle.laws.proofs.Places.{place, place_in, at_place, place_at, many_at}
use Rattle.network.specs.Network.{Network, touches}
use Rattle.network.specs.Inside.{Fit}
use Rattle.meshes.specs.Meshes.{other_way, leave_by, turned, next_direction, either_way}
use Rattle.meshes.specs.Inside.{Whole, place_after}
use Rattle.meshes.proofs.Directions.{other_way_half, other_way_twice, other_way_below, leave_half, leave_below, leave_one, leave_from, from_end, from_leaves, after_in, after_one, follow_at}

-- nothing stands twice: two places with one member are one place
pub same_place : (r : List ℕ) → ((z : ℕ) → many z r ≤ 1) → (i j : ℕ) → i < length r → j < length r → get_or r i 0 ≡ get_or r j 0 → i ≡ j
same_place r o i j h g z = sym (place_at 0 r i h (o (get_or r i 0))) ∙ ap (λ (x : ℕ). place x r) z ∙ place_at 0 r j g (o (get_or r j 0))

module _ (net : Network) (fit : Fit net) (live : ℕ → Bool) (order : ℕ → List ℕ) (whole : Whole net live order) where
  abbrev n : ℕ
  n = net.vertices

  abbrev m : ℕ
  m = net.lines

  abbrev ends : List ℕ
  ends = net.ends

  abbrev at : ℕ → ℕ
  at d = get_or ends d 0

  -- d is a direction of a line in service
  abbrev pub Way : ℕ → Type 0
  Way d = In (2 * m) (either_way live) d

  -- the order at a vertex has nothing twice
  pub once : (v k : ℕ) → v < n → many k (order v) ≤ 1
  once v k h =
      cases (eq_or (many k (order v)) 0)
      (λ e. omega arith)
      (λ d.
      let d' : many k (order v) ≢ 0 = d in
      let q = whole.only v k h (omega arith) in
      omega (arith, whole.holds v k h q.0 q.1 q.2))

  -- what stands at a place of the order
  pub member : (v i : ℕ) → v < n → i < length (order v) → (get_or (order v) i 0 < m) × (live (get_or (order v) i 0) ≡ true) × (touches ends v (get_or (order v) i 0) ≡ true)
  member v i h g = whole.only v (get_or (order v) i 0) h (many_at 0 (order v) i g)

  -- its direction that leaves the vertex
  pub member_way : (v i : ℕ) → v < n → i < length (order v) → Way (leave_by ends v (get_or (order v) i 0)) × (at (leave_by ends v (get_or (order v) i 0)) ≡ v)
  member_way v i h g =
      let k = get_or (order v) i 0 in
      let q = member v i h g in (
        record { below = leave_below ends v k m q.0; yes = ap live (leave_half ends v k) ∙ q.1 },
        leave_from ends v k q.2,
      )

  -- after the line at one place comes the line at the next place, and after the last the first
  pub turned_at : (v i : ℕ) → v < n → i < length (order v) → turned ends order (leave_by ends v (get_or (order v) i 0)) ≡ leave_by ends v (get_or (order v) (place_after (length (order v)) i) 0)
  unfolding turned
  turned_at v i h g =
      let k = get_or (order v) i 0 in
      rw ((member_way v i h g).1, leave_half ends v k) (ap (leave_by ends v) (follow_at (order v) (λ z. once v z h) i g))

  -- where a direction stands in the order of the vertex that it leaves
  pub record Standing (d i : ℕ) : Type 0 where
    pub vertex_in : at d < n
    pub place_below : i < length (order (at d))
    pub line_there : get_or (order (at d)) i 0 ≡ d / 2
    pub itself : leave_by ends (at d) (get_or (order (at d)) i 0) ≡ d
    pub turns : turned ends order d ≡ leave_by ends (at d) (get_or (order (at d)) (place_after (length (order (at d))) i) 0)

  pub stands : (d : ℕ) → Way d → Standing d (place (d / 2) (order (at d)))
  stands d w =
      let k = d / 2 in
      let v = at d in
      let vertex_in : v < n = fit.ends_in d w.below in
      let there : many k (order v) ≡ 1 = whole.holds v k vertex_in (let b = w.below in omega arith) w.yes (from_end net fit d) in
      let i = place k (order v) in
      let place_below : i < length (order v) = place_in k (order v) (omega arith) in
      let line_there : get_or (order v) i 0 ≡ k = at_place 0 k (order v) (omega arith) in
      let itself : leave_by ends v (get_or (order v) i 0) ≡ d = ap (leave_by ends v) line_there ∙ from_leaves net fit d w.below in
      record {
        vertex_in = vertex_in;
        place_below = place_below;
        line_there = line_there;
        itself = itself;
        turns = ap (turned ends order) (sym itself) ∙ turned_at v i vertex_in place_below;
      }

  pub other_way_way : (d : ℕ) → Way d → Way (other_way d)
  other_way_way d w = record { below = other_way_below d m w.below; yes = ap live (other_way_half d) ∙ w.yes }

  -- turning keeps to the vertex
  turned_way : (d : ℕ) → Way d → Way (turned ends order d) × (at (turned ends order d) ≡ at d)
  turned_way d w =
      let s = stands d w in
      let r = length (order (at d)) in
      let q = member_way (at d) (place_after r (place (d / 2) (order (at d)))) s.vertex_in (after_in r _ s.place_below) in
      (subst Way (sym s.turns) q.0, ap at s.turns ∙ q.1)

  turned_one : (d e : ℕ) → Way d → Way e → turned ends order d ≡ turned ends order e → d ≡ e
  turned_one d e w u q =
      let v : at d ≡ at e = sym (turned_way d w).1 ∙ ap at q ∙ (turned_way e u).1 in
      let s = stands d w in
      let t : StandingAt (at d) e = standing_at e u (at d) (sym v) in
      let r = order (at d) in
      let i = place (d / 2) r in
      let j = place (e / 2) r in
      let a : get_or r (place_after (length r) i) 0 ≡ get_or r (place_after (length r) j) 0 = leave_one ends (at d) _ _ (sym s.turns ∙ q ∙ t.2) in
      let b = same_place r (λ z. once (at d) z s.vertex_in) (place_after (length r) i) (place_after (length r) j) (after_in (length r) i s.place_below) (after_in (length r) j t.0) a in
      let c : i ≡ j = after_one (length r) i j s.place_below t.0 b in
      sym s.itself ∙ ap (λ (x : ℕ). leave_by ends (at d) (get_or r x 0)) c ∙ t.1
    where
      StandingAt : ℕ → ℕ → Type 0
      StandingAt v e =
          (place (e / 2) (order v) < length (order v))
          × (leave_by ends v (get_or (order v) (place (e / 2) (order v)) 0) ≡ e)
          × (turned ends order e ≡ leave_by ends v (get_or (order v) (place_after (length (order v)) (place (e / 2) (order v))) 0))

      standing_at : (e : ℕ) → Way e → (v : ℕ) → at e ≡ v → StandingAt v e
      standing_at e u v z = let s = stands e u in subst (λ (x : ℕ). StandingAt x e) z (s.place_below, s.itself, s.turns)

  -- The mesh map is one-to-one, so each direction in service is on exactly one mesh.
  pub turn : Turn (2 * m) (either_way live) (next_direction ends order)
  unfolding next_direction
  turn =
      record {
        stays = λ d w. (turned_way (other_way d) (other_way_way d w)).0;
        apart = λ d e w u q. sym (other_way_twice d) ∙ ap other_way (turned_one (other_way d) (other_way e) (other_way_way d w) (other_way_way e u) q) ∙ other_way_twice e;
      }
