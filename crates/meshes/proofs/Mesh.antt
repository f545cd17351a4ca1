-- What holds of the meshes of any whole order. Each direction is on exactly one mesh, the walk of the mesh map from it; and of all meshes one counts a line
-- along its direction, and one, the same or another, counts it against its direction.
use mathlib.Core.Bool.{Bool, true}
use mathlib.Core.List.{List}
use mathlib.Core.Logic.{◌≢◌}
use mathlib.Core.Path.{◌≡◌, ◌∙◌, ap}
use Prim.Native.Nat.{ℕ, zero, suc, ◌+◌, ◌*◌, ◌/◌, ◌≤◌, ◌<◌}
use native.Mathlib.Omega.{arith}
use lib.Dec.{eqb}
use borrow.Author.Tests.{eq-eqb, ne_eqb}
use Rattle.laws.specs.Counting.{count}
use Rattle.laws.specs.Orbits.{walk, lowest_on, leads, walks}
use Rattle.laws.proofs.Cases.{cases, eq_or, lt_or}
use Rattle.laws.proofs.Counting.{count_zero, count_yes, count_no}
use Rattle.laws.proofs.Orbits.{In, Turn, count_below, lowest_step, leads_lowest, number_below, reach}
use Rattle.network.specs.Network.{Network}
use Rattle.network.specs.Inside.{Fit}
use Rattle.meshes.specs.Meshes.{next_direction, either_way, mesh_of, mesh_count}
use Rattle.meshes.specs.Inside.{Whole}
use Rattle.meshes.proofs.Turning.{turn}

-- of the numbers below n, one is c
pub count_one : (c n : ℕ) → c < n → count (λ j. eqb c j) n ≡ 1
count_one c zero h = absurd (omega arith)
count_one c (suc n) h =
    cases (eq_or c n)
    (λ e. omega (arith, count_yes (λ j. eqb c j) n (eq-eqb c n e), count_over c n (omega arith)))
    (λ d. let d' : c ≢ n = d in omega (arith, count_no (λ j. eqb c j) n (ne_eqb c n d), count_one c n (omega arith)))
  where
    count_over : (c n : ℕ) → n ≤ c → count (λ j. eqb c j) n ≡ 0
    count_over c zero h = count_zero (λ j. eqb c j)
    count_over c (suc n) h = omega (arith, count_no (λ j. eqb c j) n (ne_eqb c n (λ e. omega arith)), count_over c n (omega arith))

count_some : (p : ℕ → Bool) (n x : ℕ) → x < n → p x ≡ true → 0 < count p n
count_some p n x h t = omega (arith, count_below p x n h t)

module _ (net : Network) (fit : Fit net) (live : ℕ → Bool) (order : ℕ → List ℕ) (whole : Whole net live order) where
  abbrev m : ℕ
  m = net.lines

  abbrev f : ℕ → ℕ
  f = next_direction net.ends order

  abbrev mesh : ℕ → ℕ
  mesh = mesh_of live m net.ends order

  abbrev meshes : ℕ
  meshes = mesh_count live m net.ends order

  abbrev Way : ℕ → Type 0
  Way d = In (2 * m) (either_way live) d

  T : Turn (2 * m) (either_way live) f
  T = turn net fit live order whole

  -- where there is a line in service, the meshes are the walks
  pub meshes_are : (d : ℕ) → Way d → meshes ≡ walks (either_way live) f (2 * m)
  unfolding mesh_count
  meshes_are d w =
      let some : 0 < count live m = count_some live m (d / 2) (let b = w.below in omega arith) w.yes in
      rw (ne_eqb (count live m) 0 (λ e. omega arith))

  -- a direction's mesh is one of the meshes, and the direction after it is on the same
  pub mesh_below : (d : ℕ) → Way d → mesh d < meshes
  unfolding mesh_of
  mesh_below d w = omega (arith, number_below (2 * m) (either_way live) f T d w, meshes_are d w)

  pub mesh_step : (d : ℕ) → Way d → mesh (f d) ≡ mesh d
  unfolding mesh_of
  mesh_step d w = ap (count (leads (either_way live) f (2 * m))) (lowest_step (2 * m) (either_way live) f T d w)

  -- two directions on one mesh: the walk from one meets the other
  pub mesh_meets : (d e : ℕ) → Way d → Way e → mesh d ≡ mesh e → (i : ℕ) × (walk f i d ≡ e)
  unfolding mesh_of
  mesh_meets d e w u q =
      let l = leads (either_way live) f (2 * m) in
      let x = lowest_on f (2 * m) d in
      let y = lowest_on f (2 * m) e in
      reach (2 * m) (either_way live) f T d e w u
      (cases (lt_or x y)
      (λ h. absurd (omega (arith, count_below l x y h (leads_lowest (2 * m) (either_way live) f T d w))))
      (λ h.
      cases (lt_or y x)
      (λ g. absurd (omega (arith, count_below l y x g (leads_lowest (2 * m) (either_way live) f T e u))))
      (λ g. omega arith)))

  -- a line in service is counted once along its direction, by one mesh, and once against it, by one mesh
  pub record Signed (k : ℕ) : Type 0 where
    pub along : count (λ j. eqb (mesh (2 * k)) j) meshes ≡ 1
    pub against : count (λ j. eqb (mesh (2 * k + 1)) j) meshes ≡ 1

  pub signed : (k : ℕ) → k < m → live k ≡ true → Signed k
  signed k h t =
      let forth : Way (2 * k) = record { below = omega arith; yes = (let e : 2 * k / 2 ≡ k = omega arith in ap live e ∙ t) } in
      let back : Way (2 * k + 1) = record { below = omega arith; yes = (let e : (2 * k + 1) / 2 ≡ k = omega arith in ap live e ∙ t) } in
      record {
        along = count_one (mesh (2 * k)) meshes (mesh_below (2 * k) forth);
        against = count_one (mesh (2 * k + 1)) meshes (mesh_below (2 * k + 1) back);
      }
