-- One lemma for each place where `sketch` returns once the network is not refused; that it is, the check finds alone.
use native.Mathlib.Omega.{arith}
use Rattle.fork.proofs.Knowing.{blank_long}
use Rattle.choice.proofs.Faultless.{begun_gathered}
use Rattle.choice.proofs.Answering.{kept_of, gathered_reading}
use Rattle.drawing.proofs.Sketching.{sketch_torn, sketch_unfit, sketch_sketchable, sketch_unbalanced, sketch_done}
use Rattle.drawing.proofs.sketches.sketch.Goals as goal

pub returns-then-is_err : goal.returns-then-is_err
returns-then-is_err c = sketch_torn _ _ _ c.in_ok-begin.ensures c.if-is_err.ensures.value

pub fits-requires : goal.fits-requires
fits-requires c = gathered_reading (begun_gathered c.in_ok-begin.ensures) (kept_of c.if-is_err.ensures.value) _ c.requires.choice_long

pub returns-then-not-fits : goal.returns-then-not-fits
returns-then-not-fits c = sketch_unfit _ _ _ c.in_ok-begin.ensures c.if-is_err.ensures.value c.fits.ensures c.if-not-fits.true

pub drawn-requires : goal.drawn-requires
drawn-requires c =
    let k = sketch_sketchable _ _ _ c.in_ok-begin.ensures c.if-is_err.ensures.value c.fits.ensures c.if-not-fits.false c.requires.choice_long in
    (k, c.requires.undrawn)

pub overflow_add-vertices : goal.overflow_add-vertices
overflow_add-vertices c =
    let k = sketch_sketchable c.args.vertices c.args.ends.now c.args.choice.now c.in_ok-begin.ensures c.if-is_err.ensures.value c.fits.ensures c.if-not-fits.false c.requires.choice_long in
    omega (arith, c.drawn.ensures.count_few, k.fits.few_lines, k.fits.few_vertices)

pub returns-then-vertices-drawing : goal.returns-then-vertices-drawing
returns-then-vertices-drawing c =
    let k = sketch_sketchable _ _ _ c.in_ok-begin.ensures c.if-is_err.ensures.value c.fits.ensures c.if-not-fits.false c.requires.choice_long in
    sketch_unbalanced _ _ _ c.in_ok-begin.ensures c.if-is_err.ensures.value c.fits.ensures c.if-not-fits.false c.drawn.ensures c.if-vertices-drawing.true

pub returns : goal.returns
returns c =
    let k = sketch_sketchable _ _ _ c.in_ok-begin.ensures c.if-is_err.ensures.value c.fits.ensures c.if-not-fits.false c.requires.choice_long in
    sketch_done _ _ _ c.in_ok-begin.ensures c.if-is_err.ensures.value c.fits.ensures c.if-not-fits.false c.drawn.ensures c.if-vertices-drawing.false

pub begin-requires : goal.begin-requires
begin-requires c = blank_long c.blank-beginning.ensures.forks
