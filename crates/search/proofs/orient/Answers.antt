-- `orient` writes what the search found, once nothing speaks against it.
use mathlib.Core.Path.{refl}
use native.Mathlib.Omega.{arith}
use Rattle.laws.proofs.Passing.{passed_on}
use Rattle.network.proofs.Refusing.{refusal_some, refusing_plain}
use Rattle.search.proofs.Calls.{orient_2, explore_faulted, faulted_few, orient_lines, orient_vertices, orient_odd, orient_few_kinds, orient_few_heights, orient_refused, orient_fits, orient_done}
use Rattle.search.proofs.orient.Goals as goal

pub returns-then-is_oversize : goal.returns-then-is_oversize
returns-then-is_oversize c = search orient_2

pub returns-then-is_odd : goal.returns-then-is_odd
returns-then-is_odd c = search orient_odd

pub returns-then-kinds-lines : goal.returns-then-kinds-lines
returns-then-kinds-lines c = search orient_few_kinds

pub returns-then-heights-vertices : goal.returns-then-heights-vertices
returns-then-heights-vertices c = search orient_few_heights

pub returns-in_err-explore : goal.returns-in_err-explore
returns-in_err-explore c =
    let few = faulted_few _ _ _ (explore_faulted _ _ _ _ _ _ c.in_err-explore.ensures) in
    rw (passed_on c.from_residual.result c.from_residual.ensures.1)
    (orient_refused _ _ _ _ _ c.is_oversize.ensures c.if-is_oversize.false _ c.is_odd.ensures c.if-is_odd.false c.if-kinds-lines.false c.if-heights-vertices.false _ _ _ _ c.in_err-explore.ensures (refusal_some _) _ (refusing_plain _ few))

pub lay-requires : goal.lay-requires
lay-requires c = (orient_lines _ _ _ _ _ _ c.in_ok-explore.ensures refl, omega arith)

pub lay-requires-2 : goal.lay-requires-2
lay-requires-2 c = (orient_vertices _ _ _ _ _ _ c.in_ok-explore.ensures refl, omega arith)

pub overflow_sub-result : goal.overflow_sub-result
overflow_sub-result c = orient_fits _ _ _ _ _ _ c.in_ok-explore.ensures refl

pub returns : goal.returns
returns c = orient_done _ _ _ _ _ c.is_oversize.ensures c.if-is_oversize.false _ c.is_odd.ensures c.if-is_odd.false c.if-kinds-lines.false c.if-heights-vertices.false _ _ _ _ c.in_ok-explore.ensures refl _ _ _ refl c.lay.ensures c.lay-2.ensures
