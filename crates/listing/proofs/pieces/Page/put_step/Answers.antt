-- `put_step` stores its two numbers and the line feed.
use Rattle.listing.proofs.Putting.{stepped}
use Rattle.listing.proofs.pieces.Page.put_step.Goals as goal

pub returns : goal.returns
returns c = search stepped
