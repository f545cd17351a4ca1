-- Lines that are apart, as lines are met: those that were stay so when more is tied, and a line that met them makes one more.
use mathlib.Core.Path.{◌≡◌, sym, ◌∙◌, ap, subst}
use Prim.Native.Nat.{ℕ}
use Rattle.laws.proofs.Cases.{cases}
use Rattle.side.specs.Sides.{different}
use Rattle.tree.specs.Tree.{Tree}
use Rattle.fork.specs.Ends.{top}
use Rattle.fork.specs.Link.{Overlap}
use Rattle.fork.proofs.Links.{overlap_turned}
use Rattle.groups.specs.Groups.{pointed}
use Rattle.groups.specs.declared.Groups.{Groups}
use Rattle.links.specs.Inside.{Closed, StillClosed}
use Rattle.links.proofs.Closing.{closed_turned}
use Rattle.fork.specs.declared.Forks.{Forks}
use Rattle.meeting.specs.Inside.{Met, Topped, ApartAt, Arriving, MetApart}
use Rattle.meeting.proofs.Keeping.{Newly}

module _ {S : Tree} {x : ℕ} {forks : Forks} (topped : (f : ℕ) → Met S forks f → Topped S x forks f) where
  pub apart_onward : {u : ℕ} (g g' : Groups) → StillClosed S g g' → ApartAt S forks g u → ApartAt S forks g' u
  apart_onward g g' o a f h mf mh uf uh d v =
      o (top S f) (top S h) different (topped f mf).return.is_back.0.below (topped h mh).return.is_back.0.below (a f h mf mh uf uh d v)

  module _ {forks' : Forks} {b l u e : ℕ} (N : Newly S forks forks' b l u e) where
    -- where the line was met
    pub apart_more : (g g' : Groups) → StillClosed S g g' → Arriving S b x l u e → MetApart S b x l u forks g' → ApartAt S forks g u → ApartAt S forks' g' u
    apart_more g g' o a new old f h mf mh uf uh d v =
        cases (N.only f mf)
        (λ fe.
        cases (N.only h mh)
        (λ he. absurd (d (fe ∙ sym he)))
        (λ nh.
        subst (λ t. Closed (pointed g') t (top S h) different) (sym a.its_top ∙ ap (top S) (sym fe))
        (closed_turned (new e a h nh uh (overlap_turned S e h (subst (λ k. Overlap S k h) fe v))))))
        (λ nf.
        cases (N.only h mh)
        (λ he.
        subst (λ t. Closed (pointed g') (top S f) t different) (sym a.its_top ∙ ap (top S) (sym he))
        (new e a f nf uf (subst (λ k. Overlap S f k) he v)))
        (λ nh. apart_onward g g' o old f h nf nh uf uh d v))

    -- and elsewhere
    pub apart_elsewhere : {v : ℕ} (g g' : Groups) → StillClosed S g g' → (v ≡ u → ⊥) → ApartAt S forks g v → ApartAt S forks' g' v
    apart_elsewhere {v} g g' o n old f h mf mh uf uh d k =
        let was : (j : ℕ) → Met S forks' j → S.source j ≡ v → Met S forks j =
        λ j m w. cases (N.only j m) (λ z. absurd (n (sym w ∙ ap S.source z ∙ N.leaves))) (λ q. q) in
        apart_onward g g' o old f h (was f mf uf) (was h mh uh) uf uh d k
