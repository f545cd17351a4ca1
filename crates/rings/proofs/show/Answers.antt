-- `show` finds the chain and writes it as a ring.
use Rattle.rings.proofs.Finding.{ring_written}
use Rattle.rings.proofs.show.Goals as goal

pub returns : goal.returns
returns c = search ring_written
