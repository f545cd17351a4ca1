-- The answer of `next`, packed.
use Rattle.cornetariel.proofs.Packing.{small_next, packed_by}
use Rattle.cornetariel.proofs.cornetariel_next.Goals as goal

pub pack-requires : goal.pack-requires
pack-requires c = search small_next

pub returns : goal.returns
returns c = packed_by _ _ _ c.next.ensures
    (small_next _ _ _ _ _ c.next.ensures) c.pack.ensures
