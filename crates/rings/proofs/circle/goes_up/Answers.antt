-- `goes_up` compares the neighbours, or looks at the first kind of a ring of two.
use Rattle.rings.proofs.Reading.{next_inside, next_fits, before_inside, before_fits}
use Rattle.rings.proofs.circle.goes_up.Goals as goal

pub offset_bounds-chain-around : goal.offset_bounds-chain-around
offset_bounds-chain-around c = record { fits = search next_fits }

pub bounds-chain-around : goal.bounds-chain-around
bounds-chain-around c = search next_inside

pub offset_bounds-chain-around-2 : goal.offset_bounds-chain-around-2
offset_bounds-chain-around-2 c = record { fits = search before_fits }

pub bounds-chain-around-2 : goal.bounds-chain-around-2
bounds-chain-around-2 c = search before_inside
