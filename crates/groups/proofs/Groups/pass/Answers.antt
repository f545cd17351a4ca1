-- `pass` changes the pointer and the turn of x.
use Rattle.groups.proofs.Passing.{passed_by}
use Rattle.groups.proofs.Groups.pass.Goals as goal

pub returns : goal.returns
returns c = search passed_by
