-- `show` asks for the first choice, and puts its page or the ring's.
use mathlib.Core.Path.{◌≡◌, refl}
use Prim.Native.Nat.{ℕ}
use native.Mathlib.Omega.{arith}
use borrow.Author.Rules.{rules}
use Rattle.network.specs.declared.Refusal.TheVariants.{Ringed}
use Rattle.network.proofs.Refusing.{refusal_some}
use Rattle.listing.proofs.Putting.{from_start}
use Rattle.listing.proofs.Showing.{blank, ringable, ring_shown, sheetable, list_shown, only_ringed}
use Rattle.listing.proofs.page.show.Goals as goal

pub put_ring-requires : goal.put_ring-requires
put_ring-requires c = ringable _ _ _ _ c.requires.showable _ _ (blank 2048) (blank 2048) _ _ _ _ (rw c.in-Err-Ringed.field-0-is at c.in-Err-Ringed.ensures) (refusal_some (Ringed c.in-Err-Ringed.size)) c.requires.showable.roomy c.requires.none

pub put_refusal-requires : goal.put_refusal-requires
put_refusal-requires c = record { long = c.requires.showable.roomy; room = omega (arith, c.requires.none) }

pub returns-in-Err-Ringed : goal.returns-in-Err-Ringed
returns-in-Err-Ringed c = ring_shown _ _ _ _ c.requires.showable _ _ (blank 2048) (blank 2048) _ _ _ _ (rw c.in-Err-Ringed.field-0-is at c.in-Err-Ringed.ensures) (refusal_some (Ringed c.in-Err-Ringed.size)) (from_start c.requires.none c.put_ring.ensures)

pub list-requires-clause-sheetable : goal.list-requires-clause-sheetable
list-requires-clause-sheetable c = sheetable _ _ _ _ c.requires.showable _ _ (blank 2048) (blank 2048) _ _ _ _ c.in-Ok.ensures refl

pub returns-in-Ok : goal.returns-in-Ok
returns-in-Ok c = list_shown _ _ _ _ c.requires.showable _ _ (blank 2048) (blank 2048) _ _ _ _ c.in-Ok.ensures refl c.list.ensures

pub returns-in-Err : goal.returns-in-Err
returns-in-Err c =
    let other : (s : ℕ) → c.in-Err.refusal ≡ Ringed s → ⊥ = search rules in
    absurd (only_ringed _ _ _ _ c.requires.showable _ _ (blank 2048) (blank 2048) _ _ _ _ c.in-Err.ensures _ refl other)
