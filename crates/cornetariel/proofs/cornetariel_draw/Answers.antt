-- The answer of `draw`, packed.
use Rattle.cornetariel.proofs.Packing.{small_draw, packed_by}
use Rattle.cornetariel.proofs.cornetariel_draw.Goals as goal

pub pack-requires : goal.pack-requires
pack-requires c = search small_draw

pub returns : goal.returns
returns c = packed_by _ _ _ c.draw.ensures
    (small_draw _ _ _ _ _ _ _ _ _ _ c.draw.ensures) c.pack.ensures
