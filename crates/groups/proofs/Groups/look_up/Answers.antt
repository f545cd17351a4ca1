-- `look_up` goes from pointer to pointer; each step is to a lower line.
use Rattle.groups.proofs.Passing.{climb_more, climbed}
use Rattle.groups.proofs.Groups.look_up.Goals as goal

pub loop-y-preserved : goal.loop-y-preserved
loop-y-preserved c = search climb_more

pub returns : goal.returns
returns c = search climbed
