-- `link` computes its definition, and stays within the circle.
use Rattle.rings.proofs.Reading.{link_up, link_down}
use Rattle.rings.proofs.circle.link.Goals as goal

pub returns-then-up : goal.returns-then-up
returns-then-up c = search link_up

pub returns : goal.returns
returns c = search link_down
