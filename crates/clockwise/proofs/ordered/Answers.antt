-- Each step gives the next what it asks.
use Rattle.clockwise.proofs.Ordering.{order_sets_out, order_layable, order_done}
use mathlib.Core.List.{[]}
use Rattle.clockwise.proofs.ordered.Goals as goal

pub walk-requires : goal.walk-requires
walk-requires g c =
    record {
      tree = g.S;
      found = [];
      asked = order_sets_out c.requires.0 c.fanned.ensures c.raised.ensures c.empty-groups.ensures;
    }

pub laid-requires : goal.laid-requires
laid-requires g c =
    let p = c.requires.0 in
    let f = c.fanned.ensures in
    let u = c.raised.ensures in
    record { layable = order_layable p f u (c.walk.ensures g.S [] (order_sets_out p f u c.empty-groups.ensures)); long = c.requires.1 }

pub returns : goal.returns
returns g c =
    let p = c.requires.0 in
    let f = c.fanned.ensures in
    let u = c.raised.ensures in
    order_done p f u (c.walk.ensures g.S [] (order_sets_out p f u c.empty-groups.ensures)) c.laid.ensures
