-- `put_number` goes down from the last digit.
use Rattle.digits.proofs.Words.{writing_more, writing_all}
use Rattle.digits.proofs.put_number.Goals as goal

pub loop-k-preserved : goal.loop-k-preserved
loop-k-preserved c = search writing_more

pub returns : goal.returns
returns c = search writing_all
