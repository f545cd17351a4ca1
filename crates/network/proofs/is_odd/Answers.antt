-- `is_odd` computes its definition.
use borrow.Author.Rules.{rules}
use Rattle.network.specs.Numbers.{odd}
use Rattle.network.proofs.is_odd.Goals as goal

pub returns : goal.returns
unfolding odd
returns c = search rules
