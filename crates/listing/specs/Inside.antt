-- What the functions of the listing program ask of each other. A reader of what is printed need not believe any of it.
use Rattle.std.specs.Prelude.{Bool, not, cond, List, [], ◌≡◌, ℕ, ◌+◌, ◌/◌, ◌≤◌, eqb, length, take}
use Rattle.std.proofs.lemmas.List.Edits.{sets}
use Rattle.laws.specs.Lists.{at}
use Rattle.network.specs.Numbers.{Accepted}
use Rattle.digits.specs.Digits.{digits}
use Rattle.side.specs.Sides.{none}
use Rattle.network.specs.Network.{network}
use Rattle.search.specs.Machine.{tree_in}
use Rattle.search.specs.Orient.{back_lines}
use Rattle.choice.specs.Choice.{Proper}
use Rattle.listing.specs.Page.{ChoiceLines}
use Rattle.listing.specs.declared.pieces.Page.{Page}

-- A piece was put at a place of a buffer, and r is the place after it.
pub record Put (old : List ℕ) (place : ℕ) (piece : List ℕ) (r : ℕ) (new : List ℕ) : Type 0 where
  pub after : r ≡ place + length piece
  pub put : new ≡ sets old place piece

-- A page without bytes; a page with room for some more; and a piece put behind a page.
pub record BlankPage (p : Page) : Type 0 where
  pub long : length p.bytes ≡ 262222
  pub none : p.count ≡ 0

pub record RoomyPage (more : ℕ) (p : Page) : Type 0 where
  pub long : length p.bytes ≡ 262222
  pub room : p.count + more ≤ 262222

abbrev pub Puts : List ℕ → Page → Page → Type 0
Puts piece p q = Put p.bytes p.count piece q.count q.bytes

-- A choice's byte is a side; and what is put for it.
abbrev pub has_side : List ℕ → ℕ → Bool
has_side choice k = not (eqb (at choice k) none)

abbrev pub side_piece : ℕ → List ℕ
side_piece side = cond (not (eqb side none)) (digits 2 side) []

-- A ring, and room for its page.
pub record Ringable (size : ℕ) (line kind : List ℕ) (page : Page) : Type 0 where
  pub lines : size ≤ length line
  pub kinds : size ≤ length kind
  pub few : size ≤ 2048
  pub roomy : RoomyPage 14343 page

-- An accepted network, a byte of a choice for each of its lines, and room for a page.
pub record Showable (n : ℕ) (ends choice out : List ℕ) : Type 0 where
  pub accepted : Accepted n ends
  pub long : length choice ≡ length ends / 2
  pub roomy : length out ≡ 262222

-- .. with the choice an aligned one
pub record Listable (n : ℕ) (ends choice out : List ℕ) : Type 0 where
  pub showable : Showable n ends choice out
  pub proper : Proper (tree_in (network n ends)) (at choice)

-- .. and the number of back lines
pub record Sheetable (n : ℕ) (ends choice : List ℕ) (back : ℕ) (out : List ℕ) : Type 0 where
  pub listable : Listable n ends choice out
  pub counted : back ≡ back_lines (network n ends)

-- What a page has is one that P allows.
pub record Paged (P : List ℕ → Type 0) (p : Page) : Type 0 where
  pub long : length p.bytes ≡ 262222
  pub within : p.count ≤ length p.bytes
  pub allowed : P (take p.count p.bytes)

-- The choices from one on were put behind a page.
pub record PutChoices (n : ℕ) (ends choice : List ℕ) (old new : Page) : Type 0 where
  pub text : List ℕ
  pub choices : ChoiceLines (network n ends) 64 choice text
  pub fits : old.count + length text ≤ length old.bytes
  pub put : Puts text old new
