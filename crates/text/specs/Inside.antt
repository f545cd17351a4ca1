-- What functions inside ask of each other. A reader of the calls' statements need not believe any of it.
use Rattle.std.specs.Prelude.{Bool, true, List, ◌++◌, ◌≡◌, ℕ, ◌+◌, ◌*◌, ◌/◌, ◌≤◌, ◌<◌, length, take, drop}
use Rattle.laws.specs.Tests.{all}
use Rattle.text.specs.Text.{frames, room, lines_in, well_placed}

-- The bytes of frame k are right.
unfoldable pub is_frame : List ℕ → ℕ → Bool
is_frame text k = all (λ j. well_placed text (9 * k + j)) 9

-- A text whose length and first frame are right, and that has so many lines.
pub record Opened (text : List ℕ) (lines : ℕ) : Type 0 where
  pub long : length text ≡ room lines
  pub few : lines < 65536
  pub first : is_frame text 0 ≡ true

-- The form, in its two halves.
pub record Form (text : List ℕ) : Type 0 where
  pub long : length text ≡ room (lines_in text)
  pub places : (i : ℕ) → i < length text → well_placed text i ≡ true

-- A text that has the form, its lines, and room for their ends.
pub record Parsable (text : List ℕ) (lines : ℕ) (ends : List ℕ) : Type 0 where
  pub form : Form text
  pub lines_are : lines ≡ lines_in text
  pub few : lines < 65536
  pub roomy : 2 * lines ≤ length ends

-- Ends in pairs, and room for the text of their lines.
pub record Roomy (ends text : List ℕ) : Type 0 where
  pub even : length ends ≡ 2 * (length ends / 2)
  pub roomy : room (length ends / 2) ≤ length text

-- A network whose numbers have four digits each, and room for its text.
pub record Writable (n : ℕ) (ends text : List ℕ) : Type 0 where
  pub few_vertices : n < 65536
  pub few_lines : length ends / 2 < 65536
  pub fits : Roomy ends text

-- A buffer after its first frame has been followed by the frames of the first k lines.
abbrev pub after_first : List ℕ → ℕ → List ℕ → List ℕ
after_first ends k text = (take 9 text ++ frames (take (2 * k) ends)) ++ drop (room k) text
