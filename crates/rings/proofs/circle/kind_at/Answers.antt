-- `kind_at` computes its definition.
use Rattle.rings.proofs.Reading.{kind_home, kind_on}
use Rattle.rings.proofs.circle.kind_at.Goals as goal

pub returns-then-i-n : goal.returns-then-i-n
returns-then-i-n c = search kind_home

pub returns : goal.returns
returns c = search kind_on
