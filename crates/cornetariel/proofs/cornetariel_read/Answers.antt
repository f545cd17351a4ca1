-- The answer of `read`, packed.
use Rattle.cornetariel.proofs.Packing.{small_read, packed_by}
use Rattle.cornetariel.proofs.cornetariel_read.Goals as goal

pub pack_two-requires : goal.pack_two-requires
pack_two-requires c = search small_read

pub returns : goal.returns
returns c = packed_by _ _ _ c.read.ensures
    (small_read _ _ _ _ c.read.ensures) c.pack_two.ensures
