-- The answer of `orient`, packed.
use Rattle.cornetariel.proofs.Packing.{small_orient, packed_by}
use Rattle.cornetariel.proofs.cornetariel_orient.Goals as goal

pub pack-requires : goal.pack-requires
pack-requires c = search small_orient

pub returns : goal.returns
returns c = packed_by _ _ _ c.orient.ensures (small_orient _ _ _ _ _ _ _ c.orient.ensures) c.pack.ensures
