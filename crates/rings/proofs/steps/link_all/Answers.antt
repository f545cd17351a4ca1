-- `link_all`: the key of a half-step is the line that it leaves.
use Rattle.std.proofs.Common.{rules, arith}
use Rattle.std.proofs.lemmas.Grind.{common_steps}
use Rattle.rings.proofs.Halves.{chainable}
use Rattle.rings.proofs.steps.link_all.Goals as goal

pub by-requires : goal.by-requires
by-requires c = let h = chainable _ _ c.requires.within in grind (arith, common_steps, h.few, h.small)

pub returns : goal.returns
returns c = c.by.ensures _ (λ k v i p. search rules)
