-- One lemma for each place where `draw` returns, and what the steps ask.
use mathlib.Core.Path.{refl, sym}
use Rattle.laws.proofs.Passing.{passed_on}
use Rattle.clockwise.proofs.Spreading.{unlaid_long}
use Rattle.drawing.proofs.Answering.{roomy, draw_lines, draw_odd, draw_cramped, draw_refused, draw_settling, draw_done}
use Rattle.drawing.proofs.draw.Goals as goal

pub returns-then-is_odd : goal.returns-then-is_odd
returns-then-is_odd c = draw_odd _ _ _ _ _ _ c.if-is_oversize.ensures c.if-is_odd.ensures

pub is_cramped-requires : goal.is_cramped-requires
is_cramped-requires c = draw_lines _ _ c.if-is_oversize.ensures

pub returns-then-is_cramped : goal.returns-then-is_cramped
returns-then-is_cramped c = draw_cramped _ _ _ _ _ _ c.if-is_oversize.ensures c.if-is_cramped.ensures

pub sketch-requires : goal.sketch-requires
sketch-requires c = record {
  choice_long = (roomy _ _ _ _ _ (sym c.if-is_cramped.ensures)).for_choice;
  undrawn = record { order = unlaid_long c.empty.ensures; no_mesh = refl; no_size = refl };
}

pub hand_out-requires : goal.hand_out-requires
hand_out-requires c = draw_settling _ _ _ _ _ _ c.if-is_cramped.ensures c.in_ok-sketch.ensures

pub returns-in_err-sketch : goal.returns-in_err-sketch
returns-in_err-sketch c =
    rw (passed_on c.from_residual.result c.from_residual.ensures.1)
    (draw_refused _ _ _ _ _ _ c.if-is_odd.ensures c.if-is_cramped.ensures _ c.in_err-sketch.ensures)

pub returns : goal.returns
returns c = draw_done _ _ _ _ _ _ c.if-is_odd.ensures c.if-is_cramped.ensures c.in_ok-sketch.ensures c.hand_out.ensures
