-- `is_frame` computes its definition: two words, and a line feed.
use mathlib.Core.Path.{sym, ◌∙◌}
use Rattle.laws.proofs.Cases.{true_false}
use Rattle.text.proofs.Places.{frame_no_first, frame_no_second, frame_last}
use Rattle.text.proofs.form.is_frame.Goals as goal
use Rattle.text.proofs.form.is_frame.Goals.{then-is_word, else-is_word}

pub returns-then-is_word-2 : goal.returns-then-is_word-2
returns-then-is_word-2 c =
    elim c.if-is_word.branch [
      | then-is_word w ↦ frame_last _ _ (sym c.is_word.ensures ∙ w.if-is_word.true) (sym w.is_word-then-is_word.ensures ∙ sym w.value-is ∙ c.if-is_word-2.true)
      | else-is_word w ↦ true_false c.if-is_word-2.true (w.value-is ∙ w.if-is_word.false)
    ]

pub returns-else-is_word-2 : goal.returns-else-is_word-2
returns-else-is_word-2 c =
    c.if-is_word-2.false
    ∙ elim c.if-is_word.branch [
      | then-is_word w ↦ frame_no_second _ _ (sym w.is_word-then-is_word.ensures ∙ sym w.value-is ∙ c.if-is_word-2.false)
      | else-is_word w ↦ frame_no_first _ _ (sym c.is_word.ensures ∙ w.if-is_word.false)
    ]
