-- `put_ring` goes over the steps: each adds its line.
use lib.ListN.{take}
use Rattle.std.proofs.lemmas.List.{length_push}
use Rattle.std.proofs.lemmas.Slice.Zip.{zip_turn, zip_end}
use Rattle.listing.proofs.Putting.{roomy, ringing_none, step_fits, ringing_step, ring_put}
use Rattle.listing.proofs.pieces.Page.put_ring.Goals as goal

pub loop-line-init : goal.loop-line-init
loop-line-init c = ringing_none _ _ _ _ c.requires _ _ c.put_size.ensures

pub put_step-requires : goal.put_step-requires
put_step-requires c =
    let turn = zip_turn (take c.args.size c.args.lines.now) (take c.args.size c.args.kinds.now) c.loop-line.yielded _ _ c.next.new.self _ (cc) (cc) c.loop-line.yielded_by _ c.in-Some.is c.next.ensures.steps in
    roomy (step_fits _ _ _ _ c.requires _ _ c.put_size.ensures _ _ _ c.loop-line.invariant _ _ turn)

pub loop-line-preserved : goal.loop-line-preserved
loop-line-preserved c =
    let turn = zip_turn (take c.args.size c.args.lines.now) (take c.args.size c.args.kinds.now) c.loop-line.yielded _ _ c.next.new.self _ (cc) (cc) c.loop-line.yielded_by _ c.in-Some.is c.next.ensures.steps in
    ringing_step _ _ _ _ c.requires _ _ c.put_size.ensures _ _ _ c.loop-line.invariant _ _ turn _ _ c.put_step.ensures _ (length_push c.loop-line.yielded _)

pub returns : goal.returns
returns c =
    let ended = zip_end (take c.args.size c.args.lines.now) (take c.args.size c.args.kinds.now) c.loop-line.yielded _ _ c.next.new.self _ (cc) (cc) c.loop-line.yielded_by c.in-None.is c.next.ensures.steps in
    ring_put _ _ _ _ c.requires _ _ c.put_size.ensures _ _ _ c.loop-line.invariant ended
