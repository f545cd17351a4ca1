-- `put_choice` goes over the lines: those with a side add its two digits.
use Rattle.listing.proofs.Putting.{roomy, putting_none, putting_fits, putting_more, choice_put}
use Rattle.listing.proofs.pieces.Page.put_choice.Goals as goal

pub loop-side-init : goal.loop-side-init
loop-side-init c = search putting_none

pub put_side-requires : goal.put_side-requires
put_side-requires c =
    let fits = putting_fits _ _ _ _ _ _ c.loop-side.invariant c.requires.long c.requires.room in
    roomy (fits.0, fits.2 c.loop-side-test.true)

pub loop-side-preserved : goal.loop-side-preserved
loop-side-preserved c = search putting_more

pub returns : goal.returns
returns c = search choice_put
