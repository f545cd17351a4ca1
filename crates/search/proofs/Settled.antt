-- From the recursive walk to the machine's end: what `settle` returns.
use mathlib.Core.Bool.{Bool, true, false}
use mathlib.Core.List.{List}
use mathlib.Core.Logic.{inl, inr}
use mathlib.Core.Path.{◌≡◌, refl, sym, ap, ◌∙◌, subst}
use Prim.Native.Nat.{ℕ, ◌+◌}
use native.Mathlib.Omega.{arith}
use lib.ListN.{get_or, set, length, replicate, length-replicate}
use borrow.Author.Tests.{eqb-false}
use Rattle.laws.specs.Chains.{Chainable}
use Rattle.laws.specs.Lists.{at}
use Rattle.network.specs.Network.{Network, network}
use Rattle.network.specs.Inside.{Fit}
use Rattle.search.specs.Machine.{State, state, halts, run, start, finished}
use Rattle.search.specs.Inside.{search_of, Visited, SomeCount, EachCount, Visitable, Cleared, everyone, Ended}
use Rattle.search.specs.declared.Finds.{Finds}
use Rattle.search.proofs.Steps.{Later, halting, run_later, run_one, run_then}
use Rattle.search.proofs.Sound.{start_unfound}
use Rattle.search.proofs.Halts.{finished_is}
use Rattle.search.proofs.Reached.{connected_of, connected_no}

module _ (n : ℕ) (ends : List ℕ) (fit : Fit (network n ends)) where
  abbrev net : Network
  net = network n ends

  pub settle_halves : Chainable 512 4096 (length ends) (at ends)
  settle_halves =
      let few = fit.few_lines in
      let long = fit.ends_long in
      let few_vertices = fit.few_vertices in
      record { few = omega arith; small = λ i h. omega (arith, fit.ends_in i (omega arith)) }

  module _ (f : Finds) (clear : Cleared f) where
    abbrev begun : State
    begun = state 0 f.kinds (set f.found 0 1) f.heights f.parents

    settle_visitable : Visitable n ends begun
    settle_visitable =
        record {
          fit = fit;
          ready =
              rw (clear.kinds, clear.founds, clear.heights, clear.parents)
              (record {
                kinds_long = length-replicate {A = ℕ} 2048 3;
                founds_long = refl;
                heights_long = refl;
                parents_long = refl;
                here = fit.some_vertex;
                found_here = eqb-false 1 0 refl;
                low = omega (arith, start_unfound net fit 512 (omega arith) (omega arith));
              });
        }

    pub settle_some : SomeCount (λ k. Visitable k ends begun)
    settle_some = record { count = n; asked = settle_visitable }

    module _ (ks fs hs ps : List ℕ) (each : EachCount (λ k. Visitable k ends begun) (λ k. Visited (network k ends) begun (state 0 ks fs hs ps))) where
      v : Visited net (state 0 (replicate {A = ℕ} 2048 3) (set (replicate {A = ℕ} 512 0) 0 1) (replicate {A = ℕ} 512 0) (replicate {A = ℕ} 512 0)) (state 0 ks fs hs ps)
      v = rw (clear.kinds, clear.founds, clear.heights, clear.parents) at (each n settle_visitable)

      runs : run net v.steps start ≡ state 0 ks fs hs ps
      unfolding start
      runs = v.runs

      -- vertex 0 has kept its height, so the next step is the last
      at_root : get_or hs 0 0 ≡ 0
      unfolding start
      at_root =
          let l : Later net start (state 0 ks fs hs ps) = subst (λ (t : State). Later net start t) runs (run_later net v.steps start) in
          l.height_kept 0 (eqb-false 1 0 refl) ∙ refl

      ended : finished net ≡ halts net (state 0 ks fs hs ps)
      ended =
          finished_is net fit (v.steps + 1) (halts net (state 0 ks fs hs ps))
          (run_then net v.steps 1 start _ _ runs (run_one net _ _ (halting fit.some_vertex v.stuck at_root))) (omega arith)

      pub settle_found : (b : Bool) → b ≡ everyone n fs → b ≡ true → Ended net (search_of 0 ks hs ps)
      settle_found b is t =
          inl (
            connected_of net fit (ap (λ (u : State). everyone n u.found) ended ∙ sym is ∙ t),
            let e = ended in rw e refl,
          )

      -- with 6 nothing is said of the tables, and so it holds of any
      pub settle_apart : (b : Bool) → b ≡ everyone n fs → b ≡ false → {ks' hs' ps' : List ℕ} → Ended net (search_of 6 ks' hs' ps')
      settle_apart b is f = inr (connected_no net fit (ap (λ (u : State). everyone n u.found) ended ∙ sym is ∙ f), refl)
