-- A whole order, vertex by vertex, has two places for each line in service: each direction stands at one place of it.
use mathlib.Core.Bool.{Bool, true}
use mathlib.Core.List.{List, ◌++◌, map}
use mathlib.Core.Path.{◌≡◌, refl, sym, ◌∙◌, ap}
use Prim.Native.Nat.{ℕ, zero, suc, ◌*◌, ◌/◌, ◌≤◌, ◌<◌}
use native.Mathlib.Omega.{arith}
use lib.ListN.{length, get_or, length-append, length-map}
use Rattle.laws.specs.Counting.{many, count}
use Rattle.laws.specs.Lists.{upto}
use Rattle.laws.specs.Sorting.{gather}
use Rattle.laws.proofs.Cases.{cases, bool, true_false, lt_or}
use Rattle.laws.proofs.Counting.{count_all, count_eq, count_same}
use Rattle.laws.proofs.Orbits.{In}
use Rattle.laws.proofs.Places.{place, place_in, at_place, place_at, many_at, many_map, many_map_out, all_members, gather_next, gather_none, gather_one}
use Rattle.laws.proofs.Lengths.{gather_long}
use Rattle.network.specs.Network.{Network}
use Rattle.network.specs.Inside.{Fit}
use Rattle.meshes.specs.Meshes.{leave_by, either_way}
use Rattle.meshes.specs.Inside.{Whole, every}
use Rattle.meshes.proofs.Directions.{leave_half, leave_one, leave_from, from_end, from_leaves}
use Rattle.clockwise.specs.Order.{flat}

-- a longer flat order begins with the shorter
pub flat_next : (order : ℕ → List ℕ) (v : ℕ) → flat (suc v) order ≡ flat v order ++ order v
flat_next order v = gather_next order v

pub flat_rises : (order : ℕ → List ℕ) (v n : ℕ) → v ≤ n → length (flat v order) ≤ length (flat n order)
flat_rises order v zero h = let e : v ≡ 0 = omega arith in rw e (omega arith)
flat_rises order v (suc n) h =
    cases (lt_or v (suc n))
    (λ g. omega (arith, flat_rises order v n (omega arith), ap length (flat_next order n), length-append (flat n order) (order n)))
    (λ g. let e : v ≡ suc n = omega arith in rw e (omega arith))

module _ (net : Network) (fit : Fit net) (live : ℕ → Bool) (order : ℕ → List ℕ) (whole : Whole net live order) where
  abbrev ends : List ℕ
  ends = net.ends

  abbrev n : ℕ
  n = net.vertices

  abbrev m : ℕ
  m = net.lines

  -- the directions that leave v, clockwise; and all of them
  abbrev ways : ℕ → List ℕ
  ways v = map (leave_by ends v) (order v)

  abbrev all_ways : List ℕ
  all_ways = gather ways (upto n)

  -- a direction does not leave another vertex
  elsewhere : (d v : ℕ) → v < n → (v ≡ get_or ends d 0 → ⊥) → many d (ways v) ≡ 0
  elsewhere d v h apart =
      many_map_out (leave_by ends v) d (order v)
      (all_members (λ k. leave_by ends v k ≡ d → ⊥) (order v)
      (λ k g e. apart (sym (leave_from ends v k (whole.only v k h g).2) ∙ ap (λ (x : ℕ). get_or ends x 0) e)))

  way_once : (d : ℕ) → In (2 * m) (either_way live) d → many d all_ways ≡ 1
  way_once d w =
      let v = get_or ends d 0 in
      let h = fit.ends_in d w.below in
      gather_one d ways n v h (λ u g apart. elsewhere d u g apart)
      ∙ ap (λ (x : ℕ). many x (ways v)) (sym (from_leaves net fit d w.below))
      ∙ many_map (leave_by ends v) (leave_one ends v) (d / 2) (order v)
      ∙ whole.holds v (d / 2) h (let b = w.below in omega arith) w.yes (from_end net fit d)

  way_only : (d : ℕ) → (In (2 * m) (either_way live) d → ⊥) → many d all_ways ≡ 0
  way_only d no_way =
      gather_none d ways n
      (λ v h.
      many_map_out (leave_by ends v) d (order v)
      (all_members (λ k. leave_by ends v k ≡ d → ⊥) (order v)
      (λ k g e.
      let q = whole.only v k h g in
      let half : k ≡ d / 2 = sym (leave_half ends v k) ∙ ap (λ (x : ℕ). x / 2) e in
      no_way (record { below = omega (arith, q.0); yes = ap live (sym half) ∙ q.1 }))))

  member : (d : ℕ) → 0 < many d all_ways → In (2 * m) (either_way live) d
  member d h =
      cases (lt_or d (2 * m))
      (λ a. cases (bool (live (d / 2)))
      (λ b. record { below = a; yes = b })
      (λ b. absurd (omega (arith, way_only d (λ z. true_false z.yes b)))))
      (λ a. absurd (omega (arith, way_only d (λ z. omega (arith, z.below)))))

  at : (i : ℕ) → i < length all_ways → place (get_or all_ways i 0) all_ways ≡ i
  at i h = place_at 0 all_ways i h (omega (arith, way_once _ (member (get_or all_ways i 0) (many_at 0 all_ways i h))))

  pub flat_long : length (flat n order) ≡ count (either_way live) (2 * m)
  flat_long =
      gather_long order ways (upto n) (λ v. sym (length-map (order v) (leave_by ends v)))
      ∙ sym (count_all (length all_ways))
      ∙ count_eq (λ i d. get_or all_ways i 0 ≡ d) (λ d i. get_or all_ways i 0 ≡ d) (λ i. true) (either_way live) (length all_ways) (2 * m)
      (λ i h t. let q = member (get_or all_ways i 0) (many_at 0 all_ways i h) in (get_or all_ways i 0, q.below, q.yes, refl))
      (λ i j d h g e f. sym (at i h) ∙ ap (λ (x : ℕ). place x all_ways) (e ∙ sym f) ∙ at j g)
      (λ d h t.
      let w : In (2 * m) (either_way live) d = record { below = h; yes = t } in
      (place d all_ways, place_in d all_ways (omega (arith, way_once d w)), refl, at_place 0 d all_ways (omega (arith, way_once d w))))
      (λ d e i h g p q. sym p ∙ q)

  -- with every line in service, twice as many places as lines
  pub flat_full : ((k : ℕ) → k < m → live k ≡ true) → length (flat n order) ≡ 2 * m
  flat_full all_live = flat_long ∙ count_same (either_way live) every (2 * m) (λ d h. all_live (d / 2) (omega arith)) ∙ count_all (2 * m)
