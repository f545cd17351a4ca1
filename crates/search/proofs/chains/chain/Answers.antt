-- `chain`: the key is the list of ends.
use Rattle.std.proofs.Common.{rules}
use Rattle.search.proofs.chains.chain.Goals as goal

pub returns : goal.returns
returns c = c.by.ensures _ (λ k v i p. search rules)
