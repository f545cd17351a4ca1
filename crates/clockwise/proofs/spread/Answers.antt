-- The lines of the fan up to the next are written.
use Rattle.clockwise.proofs.Spreading.{spreading_start, spreading_fits, spreading_less, spreading_more}
use Rattle.clockwise.proofs.spread.Goals as goal

pub loop-next-init : goal.loop-next-init
loop-next-init c = spreading_start c.requires c.first-next.ensures

pub beside-requires : goal.beside-requires
beside-requires c = spreading_fits c.loop-next.invariant c.in-Some.is

pub loop-next-smaller : goal.loop-next-smaller
loop-next-smaller c = spreading_less c.loop-next.invariant c.in-Some.is _ c.after-next.ensures

pub loop-next-preserved : goal.loop-next-preserved
loop-next-preserved c = spreading_more c.loop-next.invariant c.in-Some.is _ c.after-next.ensures c.beside.ensures
