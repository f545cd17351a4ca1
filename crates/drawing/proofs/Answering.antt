-- What draw returns, one lemma for each place where it does, and what it hands on.
use mathlib.Core.Bool.{Bool, true, false}
use mathlib.Core.List.{List, [], ◌++◌}
use mathlib.Core.Logic.{inl, inr}
use mathlib.Core.Path.{◌≡◌, refl, sym, ap, ◌∙◌}
use Prim.Native.Nat.{ℕ, ◌+◌, ◌*◌, ◌/◌, ◌≤◌}
use native.Mathlib.Omega.{arith}
use lib.ListN.{length, take, drop}
use lib.Seq.{take-take}
use borrow.Author.Tests.{ltb-false}
use Rattle.laws.specs.Tests.{either}
use Rattle.laws.specs.Checks.{Check}
use Rattle.laws.specs.Lists.{filled, at}
use Rattle.laws.proofs.Tests.{either_first, either_second, either_no, either_neither}
use Rattle.network.specs.Network.{Network, network}
use Rattle.network.specs.Numbers.{Answer, refused, done, refusal_number, refusing, oversize, odd, Untouched, triple}
use Rattle.network.specs.declared.Refusal.{Refusal}
use Rattle.network.proofs.Checks.{sized}
use Rattle.network.proofs.Refusing.{refusal_some, refusing_other}
use Rattle.network.proofs.Sifting.{refuse_3, refuse_rest, checked_elim, untouched}
use Rattle.search.specs.Machine.{tree_in}
use Rattle.choice.specs.Choice.{Proper}
use Rattle.drawing.specs.Draw.{meshes_in, size_list_in, cramped_draw, Balanced, Drew, Draw}
use Rattle.drawing.specs.Drawing.{Drawn, Sketched}
use Rattle.drawing.specs.Settling.{Settling, Wrote}

-- There is room.
pub record Roomy (lines choice order mesh sizes : ℕ) : Type 0 where
  pub for_choice : lines ≤ choice
  pub for_order : 2 * lines ≤ order
  pub for_mesh : 2 * lines ≤ mesh
  pub for_sizes : 2 * lines + 1 ≤ sizes

pub roomy : (lines choice order mesh sizes : ℕ) → cramped_draw lines choice order mesh sizes ≡ false → Roomy lines choice order mesh sizes
unfolding cramped_draw
roomy lines choice order mesh sizes e =
    let p = either_neither e in
    let q = either_neither p.1 in
    let r = either_neither q.1 in
    record {
      for_choice = ltb-false choice lines p.0;
      for_order = ltb-false order (2 * lines) q.0;
      for_mesh = ltb-false mesh (2 * lines) r.0;
      for_sizes = ltb-false sizes (2 * lines + 1) r.1;
    }

-- a table whose beginning is a list lays the list
laid_as : (k : ℕ) (table list old : List ℕ) → take k table ≡ list → filled k table old ≡ filled k list old
laid_as k table list old e = ap (λ (l : List ℕ). l ++ drop k old) (sym (ap (take k) (sym e) ∙ take-take k k table (omega arith)))

-- The call

pub draw_lines : (n count : ℕ) → false ≡ oversize n count → count / 2 ≤ 2048
draw_lines n count in_limits = omega (arith, (sized n count (sym in_limits)).2)

module _ (n : ℕ) (ends choice order mesh sizes : List ℕ) where
  abbrev m : ℕ
  m = length ends / 2

  abbrev net : Network
  net = network n ends

  abbrev short : Bool
  short = cramped_draw (length ends / 2) (length choice) (length order) (length mesh) (length sizes)

  abbrev Nothing : Answer → List ℕ → List ℕ → List ℕ → ℕ → Type 0
  Nothing r o d s = Untouched (triple order mesh sizes) r (triple o d s)

  abbrev Granted : Answer → List ℕ → List ℕ → List ℕ → Type 0
  Granted r o d s =
      Check (Proper (tree_in net) (at choice))
      (Check (Balanced net choice) (Drew net choice order mesh sizes r o d s) (Untouched (triple order mesh sizes) r (triple o d s) 10))
      (Untouched (triple order mesh sizes) r (triple o d s) 8)

  module _ (in_limits : false ≡ oversize n (length ends)) where
    draw_3 : either (odd (length ends)) short ≡ true → Draw n ends choice order mesh sizes (refused 3) order mesh sizes
    draw_3 t = refuse_3 n ends short (Nothing (refused 3) order mesh sizes) (Granted (refused 3) order mesh sizes) (sym in_limits) t (untouched refl)

    pub draw_odd : true ≡ odd (length ends) → Draw n ends choice order mesh sizes (refused 3) order mesh sizes
    draw_odd t = draw_3 (either_first (odd (length ends)) short (sym t))

    pub draw_cramped : true ≡ cramped_draw (length ends / 2) (length choice) (length order) (length mesh) (length sizes)
        → Draw n ends choice order mesh sizes (refused 3) order mesh sizes
    draw_cramped t = draw_3 (either_second (odd (length ends)) short (sym t))

  -- what stands behind the checks of the network
  abbrev Inside : ℕ → ℕ → List ℕ → List ℕ → List ℕ → Type 0
  Inside number count all meshes each =
      Check (Proper (tree_in net) (at choice)) (Check (Balanced net choice) ((number ≡ 0) × Drawn (tree_in net) n ends choice all count meshes each) (number ≡ 10)) (number ≡ 8)

  module _ {count : ℕ} {all meshes each : List ℕ} (x : Sketched n ends choice 0 count all meshes each) where
    found : (length ends / 2 ≤ 2048) × Proper (tree_in net) (at choice) × Balanced net choice × Drawn (tree_in net) n ends choice all count meshes each
    found =
        checked_elim n ends false (λ k. 0 ≡ k) (Inside 0 count all meshes each) x (λ k some few u. absurd (omega arith)) (λ f c y. go f.few_lines y)
      where
        go : length ends / 2 ≤ 2048 → Inside 0 count all meshes each
            → (length ends / 2 ≤ 2048) × Proper (tree_in net) (at choice) × Balanced net choice × Drawn (tree_in net) n ends choice all count meshes each
        go few (inl (p, inl (b, q))) = (few, p, b, q.1)
        go few (inl (p, inr (b, u))) = absurd (omega arith)
        go few (inr (p, u)) = absurd (omega arith)

  -- the buffers are long enough
  module _ (room : false ≡ cramped_draw (length ends / 2) (length choice) (length order) (length mesh) (length sizes))
      {count : ℕ} {all meshes each : List ℕ} (x : Sketched n ends choice 0 count all meshes each) where
    pub draw_settling : Settling (length ends / 2) count all meshes each order mesh sizes
    draw_settling =
        let rooms = roomy m (length choice) (length order) (length mesh) (length sizes) (sym room) in
        let (few, _, _, D) = found x in
        record {
          few_lines = few;
          few_meshes = D.count_few;
          all_long = D.order_long;
          meshes_long = D.mesh_long;
          each_long = D.sizes_long;
          order_room = rooms.for_order;
          mesh_room = rooms.for_mesh;
          sizes_room = rooms.for_sizes;
        }

  -- .. and nothing is odd
  module _ (even : false ≡ odd (length ends)) (room : false ≡ cramped_draw (length ends / 2) (length choice) (length order) (length mesh) (length sizes)) where
    enough : either (odd (length ends)) short ≡ false
    enough = either_no (sym even) (sym room)

    pub draw_refused : (e : Refusal) → Sketched n ends choice (refusal_number e) 0 [] [] [] → Draw n ends choice order mesh sizes (refusing e) order mesh sizes
    draw_refused e x =
        refuse_rest n ends short (Nothing (refusing e) order mesh sizes) (Granted (refusing e) order mesh sizes) enough x
        (λ k some (u : refusal_number e ≡ k). untouched (plain k u)) go
      where
        other : refusal_number e ≡ 7 → ⊥
        other z =
            checked_elim n ends false (λ k. refusal_number e ≡ k) (Inside (refusal_number e) 0 [] [] []) x (λ k some few u. omega arith)
            (λ f c y. none y)
          where
            none : Inside (refusal_number e) 0 [] [] [] → ⊥
            none (inl (p, inl (b, q))) = refusal_some e q.0
            none (inl (p, inr (b, u))) = omega arith
            none (inr (p, u)) = omega arith

        plain : (k : ℕ) → refusal_number e ≡ k → refusing e ≡ refused k
        plain k u = refusing_other e other ∙ ap refused u

        go : Inside (refusal_number e) 0 [] [] [] → Granted (refusing e) order mesh sizes
        go (inl (p, inl (b, q))) = absurd (refusal_some e q.0)
        go (inl (p, inr (b, u))) = inl (p, inr (b, untouched (plain 10 u)))
        go (inr (p, u)) = inr (p, untouched (plain 8 u))

    module _ {count : ℕ} {all meshes each : List ℕ} (x : Sketched n ends choice 0 count all meshes each) where
      pub draw_done : {order' mesh' sizes' : List ℕ} → Wrote (length ends / 2) count all meshes each order mesh sizes order' mesh' sizes'
          → Draw n ends choice order mesh sizes (done count 0) order' mesh' sizes'
      draw_done {order'} {mesh'} {sizes'} w =
          let (_, proper, balanced, D) = found x in
          let as_many : count ≡ meshes_in net choice = D.count_is in
          refuse_rest n ends short (Nothing (done count 0) order' mesh' sizes') (Granted (done count 0) order' mesh' sizes') enough x
          (λ k some (u : 0 ≡ k). absurd (omega arith))
          (λ _. inl (
            proper,
            inl (
              balanced,
              record {
                answers = ap (λ (k : ℕ). done k 0) as_many;
                the_order = w.order_laid ∙ laid_as (2 * m) all _ order D.order_is;
                each_mesh = w.mesh_laid ∙ laid_as (2 * m) meshes _ mesh D.mesh_is;
                each_size = w.sizes_laid ∙ laid_as count each _ sizes D.sizes_are ∙ ap (λ (k : ℕ). filled k (size_list_in net choice) sizes) as_many;
              },
            ),
          ))
