-- A finished search of a connected network has one root, vertex 0, and every vertex stands above it: as many tree lines down as a vertex is high lead to a
-- vertex at height 0.
use mathlib.Core.Path.{◌≡◌, sym, ◌∙◌, ap}
use Prim.Native.Nat.{ℕ, ◌-◌, ◌<◌}
use native.Mathlib.Omega.{arith}
use lib.ListN.{get_or}
use Rattle.network.specs.Network.{Network, Connected}
use Rattle.network.specs.Inside.{Fit}
use Rattle.tree.specs.Tree.{climb}
use Rattle.tree.specs.Words.{Above}
use Rattle.tree.proofs.Grown.{down_in, above_by}
use Rattle.search.specs.Machine.{finished, tree_in}
use Rattle.search.proofs.Grows.{grown, root_only}

module _ (net : Network) (fit : Fit net) (connected : Connected net) where
  abbrev h : ℕ → ℕ
  h v = get_or (finished net).height v 0

  abbrev down : ℕ → ℕ → ℕ
  down k v = climb net.ends (finished net).height (finished net).parent k v

  leads_down : (v : ℕ) → v < net.vertices → (down (h v) v ≡ 0) × (h (down (h v) v) ≡ 0)
  leads_down v g =
      let r = down_in net.vertices net.lines net.ends (finished net).kind (finished net).height (finished net).parent (grown net fit connected) (h v) v g (omega arith) in
      let low : h (down (h v) v) ≡ 0 = omega (arith, r.1) in
      (root_only net fit connected (down (h v) v) r.0 low, low)

  pub root_low : get_or (finished net).height 0 0 ≡ 0
  root_low = let r = leads_down 0 fit.some_vertex in ap h (sym r.0) ∙ r.1

  pub rooted : (v : ℕ) → v < net.vertices → Above (tree_in net) 0 v
  rooted v g =
      let e : h v - h 0 ≡ h v = omega (arith, root_low) in
      above_by net.vertices net.lines net.ends (finished net).kind (finished net).height (finished net).parent (grown net fit connected) 0 v (omega (arith, root_low))
      (ap (λ (k : ℕ). down k v) e ∙ (leads_down v g).0)
