-- `put_counts` stores its three numbers and the line feed.
use Rattle.listing.proofs.Putting.{counted}
use Rattle.listing.proofs.pieces.Page.put_counts.Goals as goal

pub returns : goal.returns
returns c = search counted
