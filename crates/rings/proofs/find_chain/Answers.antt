-- `find_chain` floods from b along the chains of half-steps, which reaches d, and climbs back.
use Rattle.laws.proofs.Chaining.{filled_unchained}
use Rattle.rings.proofs.Finding.{fresh}
use Rattle.rings.proofs.Climbing.{simple_way}
use Rattle.rings.proofs.find_chain.Goals as goal

pub flood-requires : goal.flood-requires
flood-requires c = search fresh

pub returns : goal.returns
returns c = search simple_way

pub link_all-requires-clause-unchained : goal.link_all-requires-clause-unchained
link_all-requires-clause-unchained c = filled_unchained _ _ _
