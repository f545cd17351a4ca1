-- `start` writes the four places of each line, from the front.
use Rattle.groups.proofs.Setting.{started}
use Rattle.groups.proofs.Groups.start.Goals as goal

pub returns : goal.returns
returns c = search started
