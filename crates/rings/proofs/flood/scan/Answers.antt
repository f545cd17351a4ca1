-- `scan` looks along one half-step of x after the other.
use Rattle.rings.proofs.Flooding.{along_looking}
use Rattle.rings.proofs.flood.scan.Goals as goal

pub look-k-requires : goal.look-k-requires
look-k-requires c = search along_looking
