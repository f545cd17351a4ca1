-- `print` reads the network, and puts its page.
use mathlib.Core.Path.{refl}
use Rattle.network.proofs.Refusing.{refusal_some}
use Rattle.listing.proofs.Refusing.{refusing_number}
use Rattle.listing.proofs.Putting.{from_start}
use Rattle.listing.proofs.Showing.{blank}
use Rattle.listing.proofs.Printing.{long_page, refused_input, showable, shown_page}
use Rattle.listing.proofs.page.print.Goals as goal

pub returns-then-input-gt18450 : goal.returns-then-input-gt18450
returns-then-input-gt18450 c = long_page _ _ c.requires.long c.if-input-gt18450.true (from_start c.requires.none c.put_refusal.ensures)

pub show-requires-clause-showable : goal.show-requires-clause-showable
show-requires-clause-showable c = let h = c.in-Ok.ensures in showable _ _ (blank 4096) c.if-input-gt18450.false _ _ c.in-Ok.ensures refl _ c.requires.long

pub returns-in-Ok : goal.returns-in-Ok
returns-in-Ok c = shown_page _ _ (blank 4096) c.if-input-gt18450.false _ _ c.in-Ok.ensures refl c.show.ensures

pub returns-in-Err : goal.returns-in-Err
returns-in-Err c = refused_input _ _ (blank 4096) c.if-input-gt18450.false _ _ c.in-Err.ensures _ (refusing_number _) (refusal_some _) _ c.requires.long (from_start c.requires.none c.put_refusal-in-Err.ensures)
