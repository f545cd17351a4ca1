-- An answer as one number, and what the C functions say. (docs/RULES.md, "For C".)
use Rattle.std.specs.Prelude.{List, ◌≡◌, ℕ, ◌+◌, ◌*◌, ◌/◌, ◌%◌, ◌<◌}
use Rattle.network.specs.Numbers.{Answer}
use Rattle.search.specs.Orient.{Orient}
use Rattle.text.specs.Calls.{Read, Write}
use Rattle.choice.specs.Calls.{FirstChoice, NextChoice}
use Rattle.drawing.specs.Draw.{Draw}

-- An answer's parts.
abbrev pub joined : ℕ → ℕ → ℕ → Answer
joined number count second = record { number = number; count = count; second = second }

-- The number, 256 times the first count, and 2^32 times the second.
abbrev pub packed : Answer → ℕ
packed a = a.number + 256 * a.count + 4294967296 * a.second

-- The answer that is read out of a number, as the header's functions read it.
abbrev pub unpack : ℕ → Answer
unpack r = record { number = r % 256; count = r / 256 % 16777216; second = r / 4294967296 }

-- The parts do not run into each other.
pub record Small (a : Answer) : Type 0 where
  pub number : a.number < 256
  pub count : a.count < 16777216
  pub second : a.second < 4294967296

-- r packs an answer that the call's statement allows.
pub record Packed (says : Answer → Type 0) (r : ℕ) : Type 0 where
  pub answer : Answer
  pub allowed : says answer
  pub parts : Small answer
  pub packs : r ≡ packed answer

-- What the six functions say: each returns a number r that packs what its call answers, and leaves in the buffers what its call leaves.

abbrev pub OrientC : ℕ → List ℕ → List ℕ → List ℕ → ℕ → List ℕ → List ℕ → Type 0
OrientC n ends kinds heights r kinds' heights' = Packed (λ a. Orient n ends kinds heights a kinds' heights') r

abbrev pub FirstC : ℕ → List ℕ → List ℕ → List ℕ → List ℕ → ℕ → List ℕ → List ℕ → List ℕ → Type 0
FirstC n ends choice lines kinds r choice' lines' kinds' = Packed (λ a. FirstChoice n ends choice lines kinds a choice' lines' kinds') r

abbrev pub NextC : ℕ → List ℕ → List ℕ → ℕ → List ℕ → Type 0
NextC n ends choice r choice' = Packed (λ a. NextChoice n ends choice a choice') r

abbrev pub DrawC : ℕ → List ℕ → List ℕ → List ℕ → List ℕ → List ℕ → ℕ → List ℕ → List ℕ → List ℕ → Type 0
DrawC n ends choice order mesh sizes r order' mesh' sizes' = Packed (λ a. Draw n ends choice order mesh sizes a order' mesh' sizes') r

abbrev pub ReadC : List ℕ → List ℕ → ℕ → List ℕ → Type 0
ReadC text ends r ends' = Packed (λ a. Read text ends a ends') r

abbrev pub WriteC : ℕ → List ℕ → List ℕ → ℕ → List ℕ → Type 0
WriteC n ends text r text' = Packed (λ a. Write n ends text a text') r
