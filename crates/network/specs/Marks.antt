-- What a line is, as a number; and the mark for nothing. (docs/RULES.md, "The search" and "Orient".)
use Rattle.std.specs.Prelude.{ℕ}

-- A tree line, a back line, and a line that the search has not used yet. (2 is nothing here: it is kept for lines that are out of service.)
abbrev pub tree : ℕ
tree = 0

abbrev pub back : ℕ
back = 1

abbrev pub unused : ℕ
unused = 3

-- What a table has where there is no line or no mesh: no number of either goes so far.
abbrev pub absent : ℕ
absent = 65535
