-- `is_mispaired` computes its definition: the table holds the pairs of the lines passed so far.
use Rattle.network.proofs.Pairs.{place_in, turned_in, seen_start, seen_loop, seen_twice, seen_more, seen_all}
use Rattle.network.proofs.is_mispaired.Goals as goal

pub loop-k-init : goal.loop-k-init
loop-k-init c = search seen_start

pub returns-then-a-b : goal.returns-then-a-b
returns-then-a-b c = search seen_loop

pub bounds-seen-a : goal.bounds-seen-a
bounds-seen-a c = search place_in

pub returns-then-seen-a-eq1 : goal.returns-then-seen-a-eq1
returns-then-seen-a-eq1 c = search seen_twice

pub bounds-seen-a-in-loop-k : goal.bounds-seen-a-in-loop-k
bounds-seen-a-in-loop-k c = search place_in

pub bounds-seen-b : goal.bounds-seen-b
bounds-seen-b c = search turned_in

pub loop-k-preserved : goal.loop-k-preserved
loop-k-preserved c = search seen_more

pub returns : goal.returns
returns c = search seen_all
