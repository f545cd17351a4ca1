-- The table of the mesh map, vertex by vertex and place by place: what arrives by the line at one place leaves by the line at the next.
use mathlib.Core.List.{List}
use mathlib.Core.Logic.{◌≢◌}
use mathlib.Core.Path.{◌≡◌, refl, sym, ◌∙◌, ap, subst}
use Prim.Native.Nat.{ℕ, ◌+◌, ◌-◌, ◌*◌, ◌/◌, ◌≤◌, ◌<◌}
use native.Mathlib.Omega.{arith}
use lib.ListN.{length, get_or, set, length-set}
use lib.Seq.{get_or-set_same, get_or-set_other, get_or-drop, get_or-take, length-slice}
use Rattle.laws.proofs.Cases.{cases, eq_or, lt_or}
use Rattle.laws.proofs.Orbits.{In}
use Rattle.laws.proofs.Places.{place}
use Rattle.network.specs.Network.{Network}
use Rattle.network.specs.Inside.{Fit}
use Rattle.meshes.specs.Meshes.{other_way, leave_by, turned, next_direction, either_way}
use Rattle.meshes.specs.Inside.{every, place_after, order_in, Laid, Linked}
use Rattle.meshes.proofs.Directions.{other_way_twice, other_way_below, leave_one, after_in}
use Rattle.meshes.proofs.Turning.{same_place, once, member, member_way, stands}

-- how many places the part of v has
abbrev pub many_at : List ℕ → ℕ → ℕ
many_at starts v = get_or starts (v + 1) 0 - get_or starts v 0

-- the first i places of v are done
pub record Linking (net : Network) (order starts : List ℕ) (v i : ℕ) (nexts : List ℕ) : Type 0 where
  pub before : Linked net order starts v nexts
  pub here : (j : ℕ) → j < i
      → get_or nexts (other_way (leave_by net.ends v (get_or (order_in order starts v) j 0))) 0
      ≡ leave_by net.ends v (get_or (order_in order starts v) (place_after (length (order_in order starts v)) j) 0)

module _ {net : Network} (fit : Fit net) {order starts : List ℕ} (laid : Laid net order starts) where
  abbrev ends : List ℕ
  ends = net.ends

  abbrev rot : ℕ → List ℕ
  rot = order_in order starts

  abbrev from : ℕ → ℕ
  from v = get_or starts v 0

  part_long : (v : ℕ) → v < net.vertices → length (rot v) ≡ many_at starts v
  part_long v h = length-slice (from v) (from (v + 1)) order (omega (arith, laid.inside v h, laid.order_long))

  part_at : (v i : ℕ) → v < net.vertices → i < many_at starts v → get_or (rot v) i 0 ≡ get_or order (from v + i) 0
  part_at v i h g = get_or-drop (from v) _ i 0 ∙ get_or-take (from (v + 1)) order (from v + i) 0 (omega arith)

  -- the line at the place i of v, as the code finds it, has a first end
  pub laid_line : {v i : ℕ} → v < net.vertices → i < many_at starts v
      → let k = get_or order (from v + i) 0 in (k < 2048) × (2 * k < length net.ends)
  laid_line {v} {i} h g =
      let k = get_or order (from v + i) 0 in
      let in_lines : k < net.lines =
      subst (λ (x : ℕ). x < net.lines) (part_at v i h g)
      (member net fit every rot laid.whole v i h (subst (λ (x : ℕ). i < x) (sym (part_long v h)) g)).0 in
      (omega (arith, fit.few_lines), omega (arith, fit.ends_long))

  module _ {v i : ℕ} {nexts : List ℕ} (h : v < net.vertices) (L : Linking net order starts v i nexts) (g : i < many_at starts v) where
    in_part : i < length (rot v)
    in_part = subst (λ (x : ℕ). i < x) (sym (part_long v h)) g

    -- the direction at a place, the other way round, and that it is the place's own
    back : ℕ → ℕ
    back j = other_way (leave_by ends v (get_or (rot v) j 0))

    back_in : (j : ℕ) → j < length (rot v) → back j < 2 * net.lines
    unfolding back
    back_in j k = other_way_below _ net.lines (member_way net fit every rot laid.whole v j h k).0.below

    -- two places have two directions
    back_one : (j : ℕ) → j < length (rot v) → back j ≡ back i → j ≡ i
    unfolding back
    back_one j k q =
        same_place (rot v) (λ z. once net fit every rot laid.whole v z h) j i k in_part
        (leave_one ends v _ _ (sym (other_way_twice _) ∙ ap other_way q ∙ other_way_twice _))

    pub linking_more : {d e : ℕ} → d ≡ other_way (leave_by ends v (get_or order (from v + i) 0)) → e ≡ leave_by ends v (get_or order (from v + place_after (many_at starts v) i) 0)
        → Linking net order starts v (i + 1) (set nexts d e)
    unfolding back
    linking_more {d} {e} is_d is_e =
        let n = length (rot v) in
        let d_is : d ≡ back i = is_d ∙ ap (λ (x : ℕ). other_way (leave_by ends v x)) (sym (part_at v i h g)) in
        let e_is : e ≡ leave_by ends v (get_or (rot v) (place_after n i) 0) =
        is_e ∙ ap (leave_by ends v) (ap (λ (x : ℕ). get_or order (from v + place_after x i) 0) (sym (part_long v h))
        ∙ sym (part_at v (place_after n i) h (subst (λ (x : ℕ). place_after n i < x) (part_long v h) (after_in n i in_part)))) in
        let d_in : d < 2 * net.lines = subst (λ (x : ℕ). x < 2 * net.lines) (sym d_is) (back_in i in_part) in
        let long = L.before.nexts_long in
        record {
          before =
              record {
                nexts_long = length-set nexts d e ∙ long;
                so_far = λ x x_in x_at.
                    get_or-set_other nexts d x e 0
                    (λ z.
                    let q : get_or ends (other_way x) 0 ≡ v =
                    ap (λ (y : ℕ). get_or ends (other_way y) 0) (z ∙ d_is)
                    ∙ ap (λ (y : ℕ). get_or ends y 0) (other_way_twice (leave_by ends v (get_or (rot v) i 0)))
                    ∙ (member_way net fit every rot laid.whole v i h in_part).1 in
                    omega arith)
                    ∙ L.before.so_far x x_in x_at;
              };
          here = λ j l.
              cases (eq_or j i)
              (λ q.
              ap (λ (y : ℕ). get_or (set nexts d e) y 0) (ap back q ∙ sym d_is)
              ∙ get_or-set_same nexts d e 0 (omega (arith, long, fit.few_lines))
              ∙ e_is
              ∙ ap (λ (y : ℕ). leave_by ends v (get_or (rot v) (place_after n y) 0)) (sym q))
              (λ q.
              let q' : j ≢ i = q in
              get_or-set_other nexts d (back j) e 0 (λ z. q (back_one j (omega (arith, in_part)) (z ∙ d_is))) ∙ L.here j (omega arith));
        }

  pub linking_done : {v i : ℕ} {nexts : List ℕ} → v < net.vertices → Linking net order starts v i nexts → many_at starts v ≤ i → Linked net order starts (v + 1) nexts
  unfolding next_direction
  linking_done {v} {i} {nexts} h L g =
      record {
        nexts_long = L.before.nexts_long;
        so_far = λ d d_in d_at.
            cases (lt_or (get_or ends (other_way d) 0) v)
            (λ l. L.before.so_far d d_in l)
            (λ l.
            let x = other_way d in
            let q : get_or ends x 0 ≡ v = omega arith in
            let w : In (2 * net.lines) (either_way every) x = record { below = other_way_below d net.lines d_in; yes = refl } in
            let j = place (x / 2) (rot v) in
            let s : (j < length (rot v)) × (leave_by ends v (get_or (rot v) j 0) ≡ x) × (turned ends rot x ≡ leave_by ends v (get_or (rot v) (place_after (length (rot v)) j) 0)) =
            subst
            (λ (u : ℕ).
            (place (x / 2) (rot u) < length (rot u))
            × (leave_by ends u (get_or (rot u) (place (x / 2) (rot u)) 0) ≡ x)
            × (turned ends rot x ≡ leave_by ends u (get_or (rot u) (place_after (length (rot u)) (place (x / 2) (rot u))) 0)))
            q
            (let t = stands net fit every rot laid.whole x w in (t.place_below, t.itself, t.turns)) in
            ap (λ (y : ℕ). get_or nexts y 0) (sym (other_way_twice d) ∙ ap other_way (sym s.1))
            ∙ L.here j (omega (arith, s.0, part_long v h))
            ∙ sym s.2);
      }
