-- `read` makes the checks in the order of their numbers, on ends that it keeps to itself until nothing speaks against them.
use mathlib.Core.Path.{refl}
use native.Mathlib.Omega.{arith}
use Rattle.laws.proofs.Passing.{passed_on}
use Rattle.network.proofs.Refusing.{refusal_some, refusing_plain}
use Rattle.search.proofs.Calls.{faulted_few}
use Rattle.text.proofs.Reading.{vertices_word, lines_word, parsable, prefix_in, prefix_long, read_refused, read_through}
use Rattle.text.proofs.read.Goals as goal

pub number_at-vertices-requires : goal.number_at-vertices-requires
number_at-vertices-requires c = search vertices_word

pub number_at-lines-requires : goal.number_at-lines-requires
number_at-lines-requires c = search lines_word

pub take_ends-requires : goal.take_ends-requires
take_ends-requires c = search parsable

pub slice_bounds-taken-end : goal.slice_bounds-taken-end
slice_bounds-taken-end c = search prefix_in

pub slice_bounds-fault-end : goal.slice_bounds-fault-end
slice_bounds-fault-end c = search prefix_long

pub lay-requires : goal.lay-requires
lay-requires c = (search prefix_in, omega arith)

pub returns-in_err-fault : goal.returns-in_err-fault
returns-in_err-fault c =
    let few = faulted_few _ _ _ c.in_err-fault.ensures in
    rw (passed_on c.from_residual.result c.from_residual.ensures.1)
    (read_refused _ _ c.has_form.ensures c.if-not-has_form.false _ _ c.number_at-vertices.ensures c.number_at-lines.ensures _ c.is_oversize.ensures _ c.if-is_oversize.false _ c.take_ends.ensures _ c.in_err-fault.ensures c.if-ends-count.false (refusal_some _) _ (refusing_plain _ few))

pub returns : goal.returns
returns c = read_through _ _ c.has_form.ensures c.if-not-has_form.false _ _ c.number_at-vertices.ensures c.number_at-lines.ensures _ c.is_oversize.ensures _ c.if-is_oversize.false _ c.take_ends.ensures _ c.in_ok-fault.ensures c.if-ends-count.false refl _ _ refl c.lay.ensures
