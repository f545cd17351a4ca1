-- `turn` writes the new byte of each line, from the front.
use Rattle.groups.proofs.Filling.{turns_more, turns_all}
use Rattle.groups.proofs.Groups.turn.Goals as goal

pub loop-b-preserved : goal.loop-b-preserved
loop-b-preserved c = search turns_more

pub returns : goal.returns
returns c = search turns_all
