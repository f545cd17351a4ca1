-- `chain`: the key is the column `stop`.
use Rattle.std.proofs.Common.{rules}
use Rattle.spans.proofs.chain.Goals as goal

pub returns : goal.returns
returns c = c.by.ensures _ (λ k v i p. search rules)
