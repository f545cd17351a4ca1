-- `put_side` stores two digits, or nothing.
use Rattle.listing.proofs.Putting.{side_put}
use Rattle.listing.proofs.pieces.Page.put_side.Goals as goal

pub returns : goal.returns
returns c = search side_put
