-- `has_form` computes its definition: the first frame, the length that it asks, and the other frames.
use Rattle.text.proofs.Places.{form_short, form_no_first, lines_word, form_no_room, form_last}
use Rattle.text.proofs.form.has_form.Goals as goal

pub returns-then-text-lt9 : goal.returns-then-text-lt9
returns-then-text-lt9 c = search form_short

pub returns-then-not-is_frame : goal.returns-then-not-is_frame
returns-then-not-is_frame c = search form_no_first

pub number_at-lines-requires : goal.number_at-lines-requires
number_at-lines-requires c = search lines_word

pub returns-then-text-lines : goal.returns-then-text-lines
returns-then-text-lines c = search form_no_room

pub returns : goal.returns
returns c = search form_last
