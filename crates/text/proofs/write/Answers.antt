-- `write` makes the checks in the order of their numbers, and then puts the text.
use mathlib.Core.Path.{refl}
use Rattle.laws.proofs.Passing.{passed_on}
use Rattle.network.proofs.Refusing.{refusal_some, refusing_plain}
use Rattle.search.proofs.Calls.{faulted_few}
use Rattle.text.proofs.Writing.{bytes_fit, write_odd, write_short, writable, write_refused, write_through}
use Rattle.text.proofs.write.Goals as goal

pub returns-then-is_odd : goal.returns-then-is_odd
returns-then-is_odd c = search write_odd

pub overflow_mul-bytes : goal.overflow_mul-bytes
overflow_mul-bytes c = search bytes_fit

pub returns-then-text-bytes : goal.returns-then-text-bytes
returns-then-text-bytes c = search write_short

pub put_text-requires : goal.put_text-requires
put_text-requires c = search writable

pub returns-in_err-fault : goal.returns-in_err-fault
returns-in_err-fault c =
    let few = faulted_few _ _ _ c.in_err-fault.ensures in
    rw (passed_on c.from_residual.result c.from_residual.ensures.1)
    (write_refused _ _ _ c.is_oversize.ensures c.if-is_oversize.false _ c.is_odd.ensures _ c.if-is_odd.false c.if-text-bytes.false _ c.in_err-fault.ensures (refusal_some _) _ (refusing_plain _ few))

pub returns : goal.returns
returns c = write_through _ _ _ c.is_oversize.ensures c.if-is_oversize.false _ c.is_odd.ensures _ c.if-is_odd.false c.if-text-bytes.false _ c.in_ok-fault.ensures refl _ _ refl c.put_text.ensures
