-- `put_lines` puts the frames of the lines one after the other.
use Rattle.text.proofs.Filling.{put_start, put_more}
use Rattle.text.proofs.frames.put_lines.Goals as goal

pub loop-k-init : goal.loop-k-init
loop-k-init c = search put_start

pub loop-k-preserved : goal.loop-k-preserved
loop-k-preserved c = search put_more
