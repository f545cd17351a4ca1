-- `spot` computes its definition, and stays within the circle.
use Rattle.rings.proofs.Reading.{spot_up, spot_down}
use Rattle.rings.proofs.circle.spot.Goals as goal

pub returns-then-up : goal.returns-then-up
returns-then-up c = search spot_up

pub returns : goal.returns
returns c = search spot_down
