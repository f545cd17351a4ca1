-- `put_text` puts the first frame and then the lines.
use Rattle.text.proofs.Filling.{text_put}
use Rattle.text.proofs.frames.put_text.Goals as goal

pub returns : goal.returns
returns c = search text_put
