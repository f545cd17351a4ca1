-- `list` draws the first choice, and puts the counts and the choices.
use mathlib.Core.Path.{refl}
use native.Mathlib.Omega.{arith}
use Rattle.network.proofs.Refusing.{refusal_some}
use Rattle.listing.proofs.Refusing.{refusing_number}
use Rattle.listing.proofs.Putting.{from_start}
use Rattle.listing.proofs.Showing.{blank, refused_page, few_meshes, few_backs, place_low, listable_on, listed_page}
use Rattle.listing.proofs.page.list.Goals as goal

pub put_counts-requires-clause-meshes_bound : goal.put_counts-requires-clause-meshes_bound
put_counts-requires-clause-meshes_bound c = few_meshes _ _ _ _ _ c.requires.sheetable _ _ _ (blank 4096) (blank 4096) (blank 4097) _ _ _ _ c.in-Ok.ensures refl

pub put_counts-requires-clause-back_bound : goal.put_counts-requires-clause-back_bound
put_counts-requires-clause-back_bound c = few_backs _ _ _ _ _ c.requires.sheetable _ _ _ (blank 4096) (blank 4096) (blank 4097) _ _ _ _ c.in-Ok.ensures

pub put_counts-requires-clause-roomy : goal.put_counts-requires-clause-roomy
put_counts-requires-clause-roomy c = record { long = c.requires.sheetable.listable.showable.roomy; room = omega (arith, c.requires.none) }

pub put_refusal-requires : goal.put_refusal-requires
put_refusal-requires c = record { long = c.requires.sheetable.listable.showable.roomy; room = omega (arith, c.requires.none) }

pub put_choices-requires-clause-listable : goal.put_choices-requires-clause-listable
put_choices-requires-clause-listable c = listable_on c.requires.sheetable.listable c.put_counts.ensures

pub put_choices-requires-clause-place_bound : goal.put_choices-requires-clause-place_bound
put_choices-requires-clause-place_bound c = place_low _ _ _ _ _ c.requires.sheetable _ _ _ (blank 4096) (blank 4096) (blank 4097) _ _ _ _ c.in-Ok.ensures refl _ (from_start c.requires.none c.put_counts.ensures)

pub returns-in-Ok : goal.returns-in-Ok
returns-in-Ok c = listed_page _ _ _ _ _ c.requires.sheetable _ _ _ (blank 4096) (blank 4096) (blank 4097) _ _ _ _ c.in-Ok.ensures refl _ (from_start c.requires.none c.put_counts.ensures) c.put_choices.ensures

pub returns-in-Err : goal.returns-in-Err
returns-in-Err c = refused_page _ _ _ _ _ c.requires.sheetable _ _ _ (blank 4096) (blank 4096) (blank 4097) _ _ _ _ c.in-Err.ensures _ (refusing_number _) (refusal_some _) (from_start c.requires.none c.put_refusal.ensures)
