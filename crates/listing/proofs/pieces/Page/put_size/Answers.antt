-- `put_size` stores its two numbers and the line feed.
use Rattle.listing.proofs.Putting.{sized}
use Rattle.listing.proofs.pieces.Page.put_size.Goals as goal

pub returns : goal.returns
returns c = search sized
