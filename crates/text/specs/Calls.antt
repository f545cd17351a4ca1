-- What read and write say. (docs/RULES.md, "Read" and "Write".)
use Rattle.std.specs.Prelude.{true, false, List, ◌≡◌, ℕ, ◌*◌, ◌/◌, ltb, length}
use Rattle.laws.specs.Lists.{filled}
use Rattle.laws.specs.Checks.{Check}
use Rattle.network.specs.Numbers.{done, Untouched, oversize, Formed, Checked}
use Rattle.network.specs.Numbers.{Answer}
use Rattle.text.specs.Text.{room, text_of, vertices_in, lines_in, ends_in, has_form}

-- A text in, a buffer of ends lent: with 0, the vertices, the lines, and the ends at the buffer's beginning; with a refusal, its number, and nothing changed.
abbrev pub Read : List ℕ → List ℕ → Answer → List ℕ → Type 0
Read text ends r ends' =
    let n = vertices_in text in
    let m = lines_in text in
    Check (has_form text ≡ false) (Untouched ends r ends' 1)
    (Check (oversize n (2 * m) ≡ true) (Untouched ends r ends' 2)
    (Check (ltb (length ends) (2 * m) ≡ true) (Untouched ends r ends' 3)
    (Formed n (ends_in text) (Untouched ends r ends') ((r ≡ done n m) × (ends' ≡ filled (2 * m) (ends_in text) ends)))))

-- A network in, a buffer of bytes lent: with 0, the number of bytes, and the text at the buffer's beginning; with a refusal, its number, and nothing changed.
abbrev pub Write : ℕ → List ℕ → List ℕ → Answer → List ℕ → Type 0
Write n ends text r text' =
    let bytes = room (length ends / 2) in
    Checked n ends (ltb (length text) bytes) (Untouched text r text')
    ((r ≡ done bytes 0) × (text' ≡ filled bytes (text_of n ends) text))
