-- `around` computes its definition.
use Rattle.rings.proofs.Reading.{around_low, around_high}
use Rattle.rings.proofs.circle.around.Goals as goal

pub returns-then-i-n : goal.returns-then-i-n
returns-then-i-n c = search around_low

pub returns : goal.returns
returns c = search around_high
