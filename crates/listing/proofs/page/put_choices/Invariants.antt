-- `put_choices` puts the line of each choice, and asks for the next.
use Rattle.network.specs.Network.{network}
use Rattle.listing.proofs.Stepping.{Stepping}
use Rattle.listing.proofs.page.put_choices.Given as goal

abbrev pub invariant-loop : goal.invariant-loop
invariant-loop l = Stepping (network l.vertices l.ends) l.initial.choice l.initial.page.bytes l.initial.page.count l.choice l.page.bytes l.page.count l.counter
