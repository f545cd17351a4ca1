-- `take_ends` takes the two numbers of each frame after the first.
use Rattle.text.proofs.Filling.{taken_start, first_word, second_word, taken_more}
use Rattle.text.proofs.frames.take_ends.Goals as goal

pub loop-k-init : goal.loop-k-init
loop-k-init c = search taken_start

pub word_at-requires : goal.word_at-requires
word_at-requires c = search first_word

pub word_at-requires-in-loop-k : goal.word_at-requires-in-loop-k
word_at-requires-in-loop-k c = search second_word

pub loop-k-preserved : goal.loop-k-preserved
loop-k-preserved c = search taken_more
