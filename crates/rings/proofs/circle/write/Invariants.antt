-- `write` writes the ring's lines and kinds from the front.
use Rattle.groups.proofs.Filling.{Filled}
use Rattle.side.specs.Sides.{code}
use Rattle.rings.proofs.Reading.{RingLines, RingKinds}
use Rattle.rings.proofs.circle.write.Given as goal

abbrev pub invariant-loop-j : goal.invariant-loop-j
invariant-loop-j l =
    Filled (RingLines l.chain l.n l.m l.up) l.n l.j l.initial.ring l.ring
    × Filled (RingKinds l.groups l.chain l.n l.m l.up (code l.kind)) l.n l.j l.initial.kinds l.kinds
