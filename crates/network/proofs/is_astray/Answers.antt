-- `is_astray` computes its definition: the ends passed so far are vertices.
use Rattle.network.proofs.Checks.{inside_start, inside_more, inside_all, goes_astray}
use Rattle.network.proofs.is_astray.Goals as goal

pub loop-end-init : goal.loop-end-init
loop-end-init c = search inside_start

pub returns-then-vertices-end : goal.returns-then-vertices-end
returns-then-vertices-end c = search goes_astray

pub loop-end-preserved : goal.loop-end-preserved
loop-end-preserved c = search inside_more

pub returns : goal.returns
returns c = search inside_all
