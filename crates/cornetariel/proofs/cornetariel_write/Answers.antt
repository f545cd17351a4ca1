-- The answer of `write`, packed.
use Rattle.cornetariel.proofs.Packing.{small_write, packed_by}
use Rattle.cornetariel.proofs.cornetariel_write.Goals as goal

pub pack-requires : goal.pack-requires
pack-requires c = search small_write

pub returns : goal.returns
returns c = packed_by _ _ _ c.write.ensures
    (small_write _ _ _ _ _ c.write.ensures) c.pack.ensures
