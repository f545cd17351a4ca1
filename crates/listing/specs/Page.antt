-- The page that the listing program prints. (docs/RULES.md, "The listing program".)
use Rattle.std.specs.Prelude.{Bool, true, false, cond, List, [], ◌∷◌, ◌++◌, ◌≡◌, ℕ, zero, suc, ◌*◌, ◌≤◌, ltb, length}
use Rattle.laws.specs.Checks.{Check}
use Rattle.laws.specs.Lists.{upto, at}
use Rattle.laws.specs.Sorting.{gather}
use Rattle.laws.specs.Dictionary.{First, Next}
use Rattle.digits.specs.Digits.{digits}
use Rattle.network.specs.Network.{Network, network}
use Rattle.network.specs.Numbers.{oversize, Formed}
use Rattle.tree.specs.Returns.{backb}
use Rattle.search.specs.Machine.{tree_in}
use Rattle.search.specs.Orient.{back_lines}
use Rattle.text.specs.Text.{feed, vertices_in, lines_in, ends_in, has_form}
use Rattle.fork.specs.Fork.{Constraint}
use Rattle.rings.specs.Ring.{Ring}
use Rattle.choice.specs.Choice.{Drawable, Proper, Outdone}
use Rattle.drawing.specs.Draw.{meshes_in, Balanced}

-- An answer alone on its line.
abbrev pub answer_line : ℕ → List ℕ
answer_line number = digits 2 number ++ (feed ∷ [])

-- The first line where there is a choice: the answer 0, how many meshes the first one has, how many back lines there are.
abbrev pub counts_line : ℕ → ℕ → List ℕ
counts_line meshes back = digits 2 0 ++ (digits 4 meshes ++ (digits 4 back ++ (feed ∷ [])))

-- A choice: two digits for each back line, by their numbers.
abbrev pub side_digits : (ℕ → Bool) → (ℕ → ℕ) → ℕ → List ℕ
side_digits is_back side k = cond (is_back k) (digits 2 (side k)) []

abbrev pub choice_line : (ℕ → Bool) → ℕ → (ℕ → ℕ) → List ℕ
choice_line is_back lines side = gather (side_digits is_back side) (upto lines) ++ (feed ∷ [])

-- A ring: 7 and its length, then the line and the kind of each step.
abbrev pub size_line : ℕ → List ℕ
size_line size = digits 2 7 ++ (digits 4 size ++ (feed ∷ []))

abbrev pub step_line : ℕ → ℕ → List ℕ
step_line line kind = digits 4 line ++ (digits 2 kind ++ (feed ∷ []))

abbrev pub ring_page : ℕ → (ℕ → ℕ) → (ℕ → ℕ) → List ℕ
ring_page size line kind = size_line size ++ gather (λ i. step_line (line i) (kind i)) (upto size)

-- The choices of a network from c on, so many at the most, and the answer of the next call after the last that is printed: 9 where no choice comes
-- later, 0 where one does.
pub data ChoiceLines (net : Network) : ℕ → List ℕ → List ℕ → Type 0 where
  no_more_room : {c : List ℕ} → ChoiceLines net zero c (answer_line 0)
  last : {k : ℕ} {c : List ℕ} → (Outdone (tree_in net) (at c) → ⊥) → ChoiceLines net (suc k) c (choice_line (backb (tree_in net)) net.lines (at c) ++ answer_line 9)
  more : {k : ℕ} {c d t : List ℕ} → length d ≡ net.lines → Next net.lines (Proper (tree_in net)) (at c) (at d) → ChoiceLines net k d t
      → ChoiceLines net (suc k) c (choice_line (backb (tree_in net)) net.lines (at c) ++ t)

-- The page of a first choice: the counts, and the choices from it on, 64 at the most; 10 where vertices - lines + meshes is not 2.
abbrev pub Sheet : Network → List ℕ → List ℕ → Type 0
Sheet net choice page =
    Check (Balanced net choice) ((t : List ℕ) × ChoiceLines net 64 choice t × (page ≡ counts_line (meshes_in net choice) (back_lines net) ++ t)) (page ≡ answer_line 10)

-- The page of a network with a legal choice.
pub record ListPage (net : Network) (page : List ℕ) : Type 0 where
  pub choice : List ℕ
  pub long : length choice ≡ net.lines
  pub first : First net.lines (Proper (tree_in net)) (at choice)
  pub sheet : Sheet net choice page

-- The page of a network without one: a ring of fork constraints.
pub record RingPage (net : Network) (page : List ℕ) : Type 0 where
  pub size : ℕ
  pub line : List ℕ
  pub kind : List ℕ
  pub few : size ≤ net.lines
  pub ring : Ring (Constraint (tree_in net)) size (at line) (at kind)
  pub says : page ≡ ring_page size (at line) (at kind)

abbrev pub Shows : Network → List ℕ → Type 0
Shows net page = Check (Drawable (tree_in net)) (ListPage net page) (RingPage net page)

-- The page of an input: too long or without the form of a text, 1; then the numbers that its network can meet.
abbrev pub Prints : List ℕ → List ℕ → Type 0
Prints input page =
    let n = vertices_in input in
    let ends = ends_in input in
    Check (ltb 18450 (length input) ≡ true) (page ≡ answer_line 1)
    (Check (has_form input ≡ false) (page ≡ answer_line 1)
    (Check (oversize n (2 * lines_in input) ≡ true) (page ≡ answer_line 2)
    (Formed n ends (λ k. page ≡ answer_line k) (Shows (network n ends) page))))
