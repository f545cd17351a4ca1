-- One lemma for each place where `next` returns.
use native.Mathlib.Omega.{arith}
use Rattle.laws.proofs.Passing.{passed_on}
use Rattle.fork.proofs.Knowing.{blank_long}
use Rattle.choice.proofs.Faultless.{begun_gathered, faultless_fits}
use Rattle.choice.proofs.Answering.{kept_of, gathered_reading}
use Rattle.choice.proofs.Stepping.{next_odd, next_few_bytes, next_refused, next_torn, next_unfit, next_last, next_done}
use Rattle.choice.proofs.next.Goals as goal

pub returns-then-is_odd : goal.returns-then-is_odd
returns-then-is_odd c = next_odd _ _ _ c.if-is_oversize.ensures c.if-is_odd.ensures

pub returns-then-choice-lines : goal.returns-then-choice-lines
returns-then-choice-lines c = next_few_bytes _ _ _ c.if-is_oversize.ensures c.if-choice-lines.true

pub returns-in_err-begin : goal.returns-in_err-begin
returns-in_err-begin c =
    rw (passed_on c.from_residual.result c.from_residual.ensures.1)
    (next_refused _ _ _ c.if-is_odd.ensures c.if-choice-lines.false _ c.in_err-begin.ensures)

pub returns-then-is_err : goal.returns-then-is_err
returns-then-is_err c = next_torn _ _ _ c.if-is_odd.ensures c.if-choice-lines.false (begun_gathered c.in_ok-begin.ensures) c.if-is_err.ensures.value

pub fits-requires : goal.fits-requires
fits-requires c = gathered_reading (begun_gathered c.in_ok-begin.ensures) (kept_of c.if-is_err.ensures.value) _ c.if-choice-lines.false

pub returns-then-not-fits : goal.returns-then-not-fits
returns-then-not-fits c =
    next_unfit _ _ _ c.if-is_odd.ensures c.if-choice-lines.false (begun_gathered c.in_ok-begin.ensures) c.if-is_err.ensures.value
    c.fits.ensures c.if-not-fits.true

pub next-requires : goal.next-requires
next-requires c = gathered_reading (begun_gathered c.in_ok-begin.ensures) (kept_of c.if-is_err.ensures.value) _ c.if-choice-lines.false

pub returns-then-not-next : goal.returns-then-not-next
returns-then-not-next c =
    next_last _ _ _ c.if-is_odd.ensures c.if-choice-lines.false (begun_gathered c.in_ok-begin.ensures) c.if-is_err.ensures.value
    c.fits.ensures c.if-not-fits.false (rw c.if-not-next.true at c.next.ensures)

pub overflow_sub-result : goal.overflow_sub-result
overflow_sub-result c = faultless_fits (begun_gathered c.in_ok-begin.ensures).fault

pub returns : goal.returns
returns c =
    next_done _ _ _ c.if-is_odd.ensures c.if-choice-lines.false (begun_gathered c.in_ok-begin.ensures) c.if-is_err.ensures.value
    c.fits.ensures c.if-not-fits.false (rw c.if-not-next.false at c.next.ensures) (omega arith)

pub begin-requires : goal.begin-requires
begin-requires c = blank_long c.blank-beginning.ensures.forks
