-- `put_choices` puts the line of each choice, and asks for the next.
use mathlib.Core.Path.{refl}
use Rattle.network.proofs.Refusing.{refusal_some}
use Rattle.listing.proofs.Refusing.{refusing_number}
use Rattle.listing.proofs.Putting.{roomy}
use Rattle.listing.proofs.Stepping.{line_fits, answer_fits, no_more, stepping_more, last_fits, ended}
use Rattle.listing.proofs.page.put_choices.Goals as goal

pub put_choice-requires : goal.put_choice-requires
put_choice-requires c = roomy (line_fits _ _ _ c.args.page.now c.requires.listable c.requires.place_bound _ _ _ _ c.loop.invariant c.loop-test.true)

pub put_refusal-requires : goal.put_refusal-requires
put_refusal-requires c = roomy (last_fits _ _ _ c.args.page.now c.requires.listable c.requires.place_bound _ _ _ _ c.loop.invariant c.loop-test.true _ _ c.put_choice.ensures _ _ c.in-Err.ensures)

pub returns-in-Err : goal.returns-in-Err
returns-in-Err c = ended _ _ _ c.args.page.now c.requires.listable c.requires.place_bound _ _ _ _ c.loop.invariant c.loop-test.true _ _ c.put_choice.ensures _ _ c.in-Err.ensures _ (refusing_number _) (refusal_some _) c.put_refusal.ensures

pub loop-preserved : goal.loop-preserved
loop-preserved c = stepping_more _ _ _ c.args.page.now c.requires.listable c.requires.place_bound _ _ _ _ c.loop.invariant c.loop-test.true _ _ c.put_choice.ensures _ _ c.in_default.ensures refl

pub put_answer-requires : goal.put_answer-requires
put_answer-requires c = roomy (answer_fits _ _ _ c.args.page.now c.requires.listable c.requires.place_bound _ _ _ _ c.loop.invariant)

pub returns : goal.returns
returns c = no_more _ _ _ c.args.page.now c.requires.listable c.requires.place_bound _ _ _ _ c.loop.invariant c.loop-test.false c.put_answer.ensures
