-- `put_answer` stores the two digits and the line feed.
use Rattle.listing.proofs.Putting.{answered}
use Rattle.listing.proofs.pieces.Page.put_answer.Goals as goal

pub returns : goal.returns
returns c = search answered
