-- `settle` runs the machine to its end, and says whether every vertex was found.
use Rattle.laws.proofs.Chaining.{filled_unchained}
use Rattle.search.proofs.Settled.{settle_halves, settle_some, settle_found, settle_apart}
use Rattle.search.proofs.settle.Goals as goal

pub chain-requires : goal.chain-requires
chain-requires c = record { chainable = search settle_halves; unchained = filled_unchained _ _ _ }

pub visit-requires : goal.visit-requires
visit-requires c = record { chained = c.chain.ensures; some_count = settle_some _ _ c.requires _ c.clear.ensures }

pub returns-then-all_found : goal.returns-then-all_found
returns-then-all_found c = settle_found _ _ c.requires _ c.clear.ensures _ _ _ _ c.visit.ensures _ c.all_found.ensures c.if-all_found.true

pub returns-else-all_found : goal.returns-else-all_found
returns-else-all_found c = settle_apart _ _ c.requires _ c.clear.ensures _ _ _ _ c.visit.ensures _ c.all_found.ensures c.if-all_found.false
