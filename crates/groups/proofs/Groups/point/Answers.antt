-- `point` writes the four places of `high`.
use Rattle.groups.proofs.Setting.{high_given}
use Rattle.groups.proofs.Groups.point.Goals as goal

pub returns : goal.returns
returns c = search high_given
