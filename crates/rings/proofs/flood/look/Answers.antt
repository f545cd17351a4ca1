-- `look` finds a line that is reached, or puts a new one behind the queue.
use Rattle.rings.proofs.Flooding.{y_small, n_small, look_new}
use Rattle.rings.proofs.flood.look.Goals as goal

pub bounds-via-y : goal.bounds-via-y
bounds-via-y c = search y_small

pub bounds-queue-n : goal.bounds-queue-n
bounds-queue-n c = search n_small

pub returns : goal.returns
returns c = search look_new
