-- `value` computes its definition, by the ranges of the digits' bytes.
use native.Mathlib.Omega.{arith}
use Rattle.digits.proofs.Words.{digit_ranged, decimal_value, letter_value}
use Rattle.digits.proofs.value.Goals as goal

pub overflow_sub-result : goal.overflow_sub-result
overflow_sub-result c = omega (arith, (digit_ranged c.args.byte c.requires).from)

pub returns-then-byte-lt97 : goal.returns-then-byte-lt97
returns-then-byte-lt97 c = decimal_value _ c.requires c.if-byte-lt97.true

pub returns : goal.returns
returns c = letter_value _ c.requires c.if-byte-lt97.false
