-- A network as text. (docs/RULES.md, "Text".)
use Rattle.std.specs.Prelude.{Bool, cond, List, [], ◌∷◌, ◌++◌, ℕ, zero, suc, ◌+◌, ◌*◌, ◌/◌, ◌%◌, eqb, get_or, length, drop}
use Rattle.laws.specs.Tests.{both, all}
use Rattle.digits.specs.Digits.{is_digit, digits, word}

-- The byte that ends each line of text.
abbrev pub feed : ℕ
feed = 10

-- A frame: two numbers of four digits each, and a line feed.
unfoldable pub frame : ℕ → ℕ → List ℕ
frame a b = digits 4 a ++ (digits 4 b ++ (feed ∷ []))

-- A frame for every two numbers.
unfoldable pub frames : List ℕ → List ℕ
frames [] = []
frames (a ∷ []) = []
frames (a ∷ b ∷ l) = frame a b ++ frames l

-- The text of a network: the vertices and the lines, then the two ends of each line.
abbrev pub text_of : ℕ → List ℕ → List ℕ
text_of n ends = frames (n ∷ length ends / 2 ∷ ends)

-- Its bytes.
abbrev pub room : ℕ → ℕ
room lines = 9 * (lines + 1)

-- The two numbers in each of so many frames.
unfoldable pub numbers : ℕ → List ℕ → List ℕ
numbers zero t = []
numbers (suc k) t = word t ∷ word (drop 4 t) ∷ numbers k (drop 9 t)

-- What a text says: the first frame has the vertices and the lines, the others have the ends.
abbrev pub vertices_in : List ℕ → ℕ
vertices_in text = word text

abbrev pub lines_in : List ℕ → ℕ
lines_in text = word (drop 4 text)

abbrev pub ends_in : List ℕ → List ℕ
ends_in text = numbers (lines_in text) (drop 9 text)

-- Place i of a text holds what it should: each ninth place a line feed, every other a digit.
unfoldable pub well_placed : List ℕ → ℕ → Bool
well_placed text i = cond (eqb (i % 9) 8) (eqb (get_or text i 0) feed) (is_digit (get_or text i 0))

-- The form: the length that the first frame's lines ask, and every place as it should be.
unfoldable pub has_form : List ℕ → Bool
has_form text = both (eqb (length text) (room (lines_in text))) (all (well_placed text) (length text))
