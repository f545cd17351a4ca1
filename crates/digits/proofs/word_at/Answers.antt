-- `word_at` goes over the four digits: each counts sixteen times what stands before it, and itself.
use Rattle.digits.proofs.Words.{reading_none, word_digit, shifted_fits, more_fits, reading_more, word_is}
use Rattle.digits.proofs.word_at.Goals as goal

pub loop-k-init : goal.loop-k-init
loop-k-init c = search reading_none

pub overflow_mul-number : goal.overflow_mul-number
overflow_mul-number c = search shifted_fits

pub value-requires : goal.value-requires
value-requires c = search word_digit

pub overflow_add-number : goal.overflow_add-number
overflow_add-number c = search more_fits

pub loop-k-preserved : goal.loop-k-preserved
loop-k-preserved c = search reading_more

pub returns : goal.returns
returns c = search word_is
