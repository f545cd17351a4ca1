-- `sift` makes the checks in the order of their numbers.
use Rattle.network.proofs.Checks.{sift_2, sift_3, sift_4, sift_5, sift_0, paired}
use Rattle.network.proofs.sift.Goals as goal

pub returns-then-is_oversize : goal.returns-then-is_oversize
returns-then-is_oversize c = search sift_2

pub returns-then-is_odd : goal.returns-then-is_odd
returns-then-is_odd c = search sift_3

pub returns-then-is_astray : goal.returns-then-is_astray
returns-then-is_astray c = search sift_4

pub is_mispaired-requires : goal.is_mispaired-requires
is_mispaired-requires c = search paired

pub returns-then-is_mispaired : goal.returns-then-is_mispaired
returns-then-is_mispaired c = search sift_5

pub returns : goal.returns
returns c = search sift_0
