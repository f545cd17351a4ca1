-- `are_frames` computes its definition: the places of the frames passed so far are right.
use Rattle.text.proofs.Places.{rights_start, rights_more, rights_no, rights_last, rights_all}
use Rattle.text.proofs.form.are_frames.Goals as goal

pub loop-k-init : goal.loop-k-init
loop-k-init c = search rights_start

pub returns-then-not-is_frame : goal.returns-then-not-is_frame
returns-then-not-is_frame c = search rights_no

pub loop-k-preserved : goal.loop-k-preserved
loop-k-preserved c = search rights_more

pub returns : goal.returns
returns c = search rights_all

pub returns-else-not-is_frame : goal.returns-else-not-is_frame
returns-else-not-is_frame c = search rights_last
