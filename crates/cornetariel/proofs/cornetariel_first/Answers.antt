-- The answer of `first`, packed.
use Rattle.cornetariel.proofs.Packing.{small_first, packed_by}
use Rattle.cornetariel.proofs.cornetariel_first.Goals as goal

pub pack-requires : goal.pack-requires
pack-requires c = search small_first

pub returns : goal.returns
returns c = packed_by _ _ _ c.first.ensures
    (small_first _ _ _ _ _ _ _ _ _ c.first.ensures) c.pack.ensures
