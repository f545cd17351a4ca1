-- The vertices passed so far are found.
use Rattle.search.proofs.Reached.{reaching_start, reaching_more, reaching_done, reaching_not}
use Rattle.search.proofs.all_found.Goals as goal

pub loop-v-init : goal.loop-v-init
loop-v-init c = search reaching_start

pub returns-then-found-v-eq0 : goal.returns-then-found-v-eq0
returns-then-found-v-eq0 c = search reaching_not

pub loop-v-preserved : goal.loop-v-preserved
loop-v-preserved c = search reaching_more

pub returns : goal.returns
returns c = search reaching_done
