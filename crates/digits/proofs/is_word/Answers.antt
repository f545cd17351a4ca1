-- `is_word` tests each of the four bytes.
use Prim.Native.Nat.{◌+◌}
use Rattle.std.proofs.Common.{rules, IsTrue, ◌↔◌, All, slice_range}
use Rattle.digits.specs.Digits.{is_digit}
use Rattle.digits.proofs.Words.{word_all}
use Rattle.digits.proofs.is_word.Goals as goal

pub returns : goal.returns
returns c =
    let four : IsTrue c.all.result ↔ All (λ b. IsTrue (is_digit b)) (slice_range c.args.text.now c.args.at (c.args.at + 4)) = search rules in
    word_all c.args.text.now c.args.at c.all.result c.requires four
