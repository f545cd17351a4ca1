-- The meshes that draw leaves are closed walks: the order of a choice is whole, so the step from a direction to the next is one-to-one, and the buffer of
-- meshes has for each direction the number of its walk.
use mathlib.Core.List.{List, map}
use mathlib.Core.Logic.{inl, inr}
use mathlib.Core.Path.{◌≡◌, sym, ap, ◌∙◌}
use Prim.Native.Nat.{ℕ, zero, suc, ◌+◌, ◌*◌, ◌/◌, ◌<◌}
use native.Mathlib.Omega.{arith}
use lib.ListN.{get_or, length, take, drop, length-map, get_or-append}
use lib.Seq.{get_or-take, length-take-le}
use borrow.Author.Tests.{lt-ltb}
use Rattle.laws.specs.Checks.{Check}
use Rattle.laws.specs.Lists.{from, upto, filled, at}
use Rattle.laws.proofs.Lengths.{length_from}
use Rattle.laws.proofs.Orbits.{In}
use Rattle.network.specs.Network.{Network, network, Connected}
use Rattle.network.specs.Inside.{Fit}
use Rattle.network.specs.Numbers.{Answer}
use Rattle.network.specs.Numbers.{Untouched, triple}
use Rattle.network.proofs.Sifting.{checked_elim}
use Rattle.search.specs.Machine.{finished, tree_in}
use Rattle.search.proofs.Grows.{grown, line_kind}
use Rattle.choice.specs.Choice.{Proper}
use Rattle.meshes.specs.Meshes.{either_way, mesh_of, mesh_list}
use Rattle.meshes.specs.Inside.{Whole}
use Rattle.meshes.proofs.Turning.{turn}
use Rattle.meshes.proofs.Mesh.{count_one, mesh_below, mesh_step, mesh_meets}
use Rattle.clockwise.proofs.Wholes.{drawn_whole}
use Rattle.drawing.specs.Draw.{clockwise_in, meshes_in, mesh_list_in, cramped_draw, Balanced, Drew, Draw}
use Rattle.drawing.specs.Walked.{after, Walked}

pub at_map : (f : ℕ → ℕ) (a n b : ℕ) → b < n → at (map f (from a n)) b ≡ f (a + b)
unfolding from
at_map f a zero b h = absurd (omega arith)
at_map f a (suc n) zero h = ap f (omega arith)
at_map f a (suc n) (suc b) h = at_map f (suc a) n b (omega arith) ∙ ap f (omega arith)

-- a buffer that was filled with the values of a map
at_filled : (f : ℕ → ℕ) (n : ℕ) (old : List ℕ) (d : ℕ) → d < n → at (filled n (map f (upto n)) old) d ≡ f d
at_filled f n old d h =
    let long : length (map f (upto n)) ≡ n = length-map (upto n) f ∙ length_from 0 n in
    get_or-append (take n (map f (upto n))) (drop n old) 0 d (omega (arith, length-take-le n (map f (upto n)) (omega arith)))
    ∙ get_or-take n (map f (upto n)) d 0 h
    ∙ at_map f 0 n d h
    ∙ ap f (omega arith)

module _ (net : Network) (fit : Fit net) (connected : Connected net) (choice : List ℕ) where
  whole : Whole net (tree_in net).live (clockwise_in net choice)
  whole = drawn_whole net.vertices net.lines net.ends (finished net).kind (finished net).height (finished net).parent (grown net fit connected) (at choice)

  way : (d : ℕ) → d < 2 * net.lines → In (2 * net.lines) (either_way (tree_in net).live) d
  way d h = record { below = h; yes = lt-ltb (get_or (finished net).kind (d / 2) 0) 2 (line_kind net fit connected (d / 2) (omega arith)) }

  abbrev number : ℕ → ℕ
  number = mesh_of (tree_in net).live net.lines net.ends (clockwise_in net choice)

  pub walked : (old mesh : List ℕ) → mesh ≡ filled (2 * net.lines) (mesh_list_in net choice) old → Walked net choice mesh (meshes_in net choice)
  unfolding mesh_list
  walked old mesh e =
      record {
        on_one = λ d h. below d h;
        goes_on = λ d h. (next_in d h, is (after net choice d) (next_in d h) ∙ mesh_step net fit (tree_in net).live (clockwise_in net choice) whole d (way d h) ∙ sym (is d h));
        apart = λ c d g h q. (turn net fit (tree_in net).live (clockwise_in net choice) whole).apart c d (way c g) (way d h) q;
        one_walk = λ c d g h q. mesh_meets net fit (tree_in net).live (clockwise_in net choice) whole c d (way c g) (way d h) (sym (is c g) ∙ q ∙ is d h);
        along = λ k h. count_one (at mesh (2 * k)) (meshes_in net choice) (below (2 * k) (omega arith));
        against = λ k h. count_one (at mesh (2 * k + 1)) (meshes_in net choice) (below (2 * k + 1) (omega arith));
      }
    where
      is : (d : ℕ) → d < 2 * net.lines → at mesh d ≡ number d
      is d h = ap (λ (l : List ℕ). at l d) e ∙ at_filled number (2 * net.lines) old d h

      below : (d : ℕ) → d < 2 * net.lines → at mesh d < meshes_in net choice
      below d h = omega (arith, is d h, mesh_below net fit (tree_in net).live (clockwise_in net choice) whole d (way d h))

      next_in : (d : ℕ) → d < 2 * net.lines → after net choice d < 2 * net.lines
      next_in d h = ((turn net fit (tree_in net).live (clockwise_in net choice) whole).stays d (way d h)).below

pub draw_walked : (n : ℕ) (ends choice order mesh sizes : List ℕ) (r : Answer) (order' mesh' sizes' : List ℕ) → Draw n ends choice order mesh sizes r order' mesh' sizes'
    → r.number ≡ 0 → Walked (network n ends) choice mesh' r.count
draw_walked n ends choice order mesh sizes r order' mesh' sizes' d z =
    checked_elim n ends (cramped_draw (length ends / 2) (length choice) (length order) (length mesh) (length sizes)) (Untouched (triple order mesh sizes) r (triple order' mesh' sizes')) Granted d
    (λ k some few u. absurd (not_done k some u)) (λ f c g. go f c g)
  where
    Granted : Type 0
    Granted =
        Check (Proper (tree_in (network n ends)) (at choice))
        (Check (Balanced (network n ends) choice) (Drew (network n ends) choice order mesh sizes r order' mesh' sizes') (Untouched (triple order mesh sizes) r (triple order' mesh' sizes') 10))
        (Untouched (triple order mesh sizes) r (triple order' mesh' sizes') 8)

    not_done : (k : ℕ) → 0 < k → Untouched (triple order mesh sizes) r (triple order' mesh' sizes') k → ⊥
    not_done k h u = let e = ap (λ (x : Answer). x.number) u.answers in omega (arith, e)

    go : Fit (network n ends) → Connected (network n ends) → Granted → Walked (network n ends) choice mesh' r.count
    go f c (inl (_, inl (_, y))) =
        let e = ap (λ (x : Answer). x.count) y.answers in
        rw e (walked (network n ends) f c choice mesh mesh' y.each_mesh)
    go f c (inl (_, inr (_, u))) = absurd (not_done 10 (omega arith) u)
    go f c (inr (_, u)) = absurd (not_done 8 (omega arith) u)
