-- Step by step: each asks what the steps before it left.
use Rattle.laws.proofs.Chaining.{filled_unchained}
use Rattle.laws.proofs.Passing.{passed_on}
use Rattle.descents.proofs.Walking.{walk_chainable, walk_lowerable, walk_rising, walk_torn, walk_bottomed, walk_comparable, walk_falling, walk_done}
use Rattle.descents.proofs.walk.Goals as goal

pub chain-requires : goal.chain-requires
chain-requires g c = record { chainable = walk_chainable c.requires; unchained = filled_unchained _ _ _ }

pub lower-requires : goal.lower-requires
lower-requires g c = walk_lowerable c.requires

pub rise-requires : goal.rise-requires
rise-requires g c = walk_rising c.requires c.chain.ensures c.lower.ensures

pub returns-in_err-rise : goal.returns-in_err-rise
returns-in_err-rise g c = rw (passed_on c.from_residual.result c.from_residual.ensures.1) (walk_torn c.requires c.chain.ensures c.lower.ensures c.in_err-rise.ensures)

pub measure-requires : goal.measure-requires
measure-requires g c = walk_bottomed c.requires c.chain.ensures c.lower.ensures c.in_ok-rise.ensures

pub rivals-requires : goal.rivals-requires
rivals-requires g c = walk_comparable c.requires c.chain.ensures c.lower.ensures c.in_ok-rise.ensures c.measure.ensures

pub fall-requires : goal.fall-requires
fall-requires g c = walk_falling c.requires c.chain.ensures c.lower.ensures c.in_ok-rise.ensures c.measure.ensures c.rivals.ensures

pub returns : goal.returns
returns g c = walk_done c.requires c.chain.ensures c.lower.ensures c.in_ok-rise.ensures c.measure.ensures c.rivals.ensures c.fall.ensures
