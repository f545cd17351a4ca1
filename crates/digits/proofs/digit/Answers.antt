-- `digit` computes its definition.
use Rattle.digits.proofs.Words.{digit_below, digit_above}
use Rattle.digits.proofs.digit.Goals as goal

pub returns-then-d-lt10 : goal.returns-then-d-lt10
returns-then-d-lt10 c = search digit_below

pub returns : goal.returns
returns c = search digit_above
