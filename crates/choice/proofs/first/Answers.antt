-- One lemma for each place where `first` returns.
use Rattle.laws.proofs.Passing.{passed_on}
use native.Mathlib.Omega.{arith}
use Rattle.fork.proofs.Knowing.{blank_long}
use Rattle.choice.proofs.Faultless.{begun_gathered, faultless_fits}
use Rattle.choice.proofs.Answering.{first_odd, first_few_bytes, first_few_lines, first_few_kinds, gathered_reading, gathered_showing, first_refused, first_chosen, first_ringed}
use Rattle.choice.proofs.first.Goals as goal

pub returns-then-is_odd : goal.returns-then-is_odd
returns-then-is_odd c = first_odd _ _ _ _ _ c.if-is_oversize.ensures c.if-is_odd.ensures

pub returns-then-choice-lines : goal.returns-then-choice-lines
returns-then-choice-lines c = first_few_bytes _ _ _ _ _ c.if-is_oversize.ensures c.if-choice-lines.true

pub returns-then-ring_lines-lines : goal.returns-then-ring_lines-lines
returns-then-ring_lines-lines c = first_few_lines _ _ _ _ _ c.if-is_oversize.ensures c.if-ring_lines-lines.true

pub returns-then-ring_kinds-lines : goal.returns-then-ring_kinds-lines
returns-then-ring_kinds-lines c = first_few_kinds _ _ _ _ _ c.if-is_oversize.ensures c.if-ring_kinds-lines.true

pub returns-in_err-begin : goal.returns-in_err-begin
returns-in_err-begin c =
    rw (passed_on c.from_residual.result c.from_residual.ensures.1)
    (first_refused _ _ _ _ _ c.if-is_odd.ensures c.if-choice-lines.false c.if-ring_lines-lines.false c.if-ring_kinds-lines.false _ c.in_err-begin.ensures)

pub first-requires : goal.first-requires
first-requires c = gathered_reading (begun_gathered c.in_ok-begin.ensures) c.in-Ok.is _ c.if-choice-lines.false

pub overflow_sub-result : goal.overflow_sub-result
overflow_sub-result c = faultless_fits (begun_gathered c.in_ok-begin.ensures).fault

pub show-size-requires : goal.show-size-requires
show-size-requires c = gathered_showing (begun_gathered c.in_ok-begin.ensures) c.in-Err.is _ _ c.if-ring_lines-lines.false c.if-ring_kinds-lines.false

pub returns-in-Ok : goal.returns-in-Ok
returns-in-Ok c =
    first_chosen _ _ _ _ _ c.if-is_odd.ensures c.if-choice-lines.false c.if-ring_lines-lines.false c.if-ring_kinds-lines.false
    (begun_gathered c.in_ok-begin.ensures) c.in-Ok.is c.first.ensures (omega arith)

pub returns-in-Err : goal.returns-in-Err
returns-in-Err c =
    first_ringed _ _ _ _ _ c.if-is_odd.ensures c.if-choice-lines.false c.if-ring_lines-lines.false c.if-ring_kinds-lines.false
    (begun_gathered c.in_ok-begin.ensures) c.in-Err.is c.show-size.ensures (omega arith) (omega arith)

pub begin-requires : goal.begin-requires
begin-requires c = blank_long c.blank-beginning.ensures.forks
