-- `put_frame` stores two words and a line feed.
use Rattle.text.proofs.Filling.{frame_put}
use Rattle.text.proofs.frames.put_frame.Goals as goal

pub returns : goal.returns
returns c = search frame_put
