-- What a trial claims of a network, and when the claim is true. (docs/RULES.md, "Worked examples".)
-- It is true by the words of the calls' statements: the checks, the first proper choice and the next one, a ring, what draw writes.
use Rattle.std.specs.Prelude.{true, false, cond, List, [], ◌∷◌, map, ◌≡◌, ℕ, eqb, length, get_or}
use Prim.Native.Char.{Char, code}
use Prim.Native.String.{String, len, char_at}
use Rattle.rings.specs.Ring.{Ring}
use Rattle.laws.specs.Counting.{count}
use Rattle.laws.specs.Lists.{keep, upto, at, Agree}
use Rattle.laws.specs.Dictionary.{First, Next, Last}
use Rattle.side.specs.Sides.{left, right, none}
use Rattle.network.specs.Network.{Network, network}
use Rattle.network.specs.Numbers.{Checked}
use Rattle.tree.specs.Tree.{Tree}
use Rattle.tree.specs.Returns.{backb}
use Rattle.search.specs.Machine.{tree_in}
use Rattle.search.specs.Orient.{back_lines}
use Rattle.fork.specs.Fork.{Aligned, Constraint}
use Rattle.choice.specs.Choice.{Drawable, Proper}
use Rattle.clockwise.specs.Order.{flat}
use Rattle.drawing.specs.Draw.{clockwise_in, meshes_in, mesh_list_in, size_list_in, Balanced}
use Rattle.trials.specs.Turning.{Trip, tripsb}

-- What may be claimed of a well-formed network. A choice is given as a word, a letter L or R for each back line, the lowest line first; a ring as
-- its steps, a line and a kind each.
pub data Claim : Type 0 where
  -- These, and no others, are the back lines.
  back_lines_are : List ℕ → Claim
  -- These are the aligned choices: the first, after each the next, and none after the last.
  choices_are : List String → Claim
  -- An aligned choice, and the one that comes next.
  next_is : String → String → Claim
  -- 9: an aligned choice, and none comes later.
  none_after : String → Claim
  -- 8: a choice that is not aligned.
  not_aligned : String → Claim
  -- Two lines that are on one side in every aligned choice.
  must_agree : ℕ → ℕ → Claim
  -- 7: no choice is legal, and this is the only ring.
  ring_is : List (ℕ × ℕ) → Claim
  -- What an aligned choice draws: so many meshes; meshes of these sizes; meshes of these directions; this order at each vertex.
  mesh_count_is : String → ℕ → Claim
  sizes_are : String → List ℕ → Claim
  meshes_are : String → List (List ℕ) → Claim
  clockwise_is : String → List (List ℕ) → Claim
  -- .. and in it which mesh is the outer one, and how the round trips of back lines turn.
  trips_are : String → ℕ → List Trip → Claim

-- The checks refuse a network by a number, or they grant it, and then so much is claimed.
pub data Verdict : Type 0 where
  refused_by : ℕ → Verdict
  granted : List Claim → Verdict

-- So many vertices, the two ends of each line, and what comes of it.
pub data Trial : Type 0 where
  trial : ℕ → List (ℕ × ℕ) → Verdict → Trial

abbrev pub ends_of : List (ℕ × ℕ) → List ℕ
ends_of [] = []
ends_of (line ∷ lines) = line.0 ∷ line.1 ∷ ends_of lines

-- The sides that a word names.
unfoldable pub side_named : Char → ℕ
side_named letter = cond (eqb (code letter) (code "L")) left (cond (eqb (code letter) (code "R")) right none)

unfoldable pub sides : String → List ℕ
sides word = map (λ k. side_named (char_at word k)) (upto (len word))

-- A choice as a buffer holds it: at each back line the side whose turn it is, at each tree line none.
unfoldable pub written : Tree → String → List ℕ
written S word = map (λ k. cond (backb S k) (get_or (sides word) (count (backb S) k) none) none) (upto S.lines)

-- The directions on each of n meshes, given the mesh of each direction.
unfoldable pub directions : ℕ → List ℕ → List (List ℕ)
directions n mesh = map (λ k. keep (λ d. eqb (get_or mesh d 0) k) (upto (length mesh))) (upto n)

-- The lines and the kinds of a ring's steps.
abbrev pub step_lines : List (ℕ × ℕ) → List ℕ
step_lines steps = map (λ step. step.0) steps

abbrev pub step_kinds : List (ℕ × ℕ) → List ℕ
step_kinds steps = map (λ step. step.1) steps

-- P holds of each member of a list.
abbrev pub Every : {A : Type 0} → (A → Type 0) → List A → Type 0
Every P [] = Unit {0}
Every P (x ∷ l) = P x × Every P l

-- When a claim is true

module _ (net : Network) where
  abbrev pub buffer : String → List ℕ
  buffer word = written (tree_in net) word

  abbrev pub choice : String → ℕ → ℕ
  choice word = at (buffer word)

  abbrev pub Good : (ℕ → ℕ) → Type 0
  Good = Proper (tree_in net)

  -- A word has as many letters as there are back lines.
  abbrev pub Fitting : String → Type 0
  Fitting word = len word ≡ back_lines net

  -- The choices after c, to the last; and all choices.
  abbrev pub FollowedBy : String → List String → Type 0
  FollowedBy c [] = Last net.lines Good (choice c)
  FollowedBy c (d ∷ l) = Next net.lines Good (choice c) (choice d) × FollowedBy d l

  abbrev pub AllChoices : List String → Type 0
  AllChoices [] = (c : ℕ → ℕ) → Good c → ⊥
  AllChoices (c ∷ l) = First net.lines Good (choice c) × FollowedBy c l

  -- These steps are a ring; and every ring has these steps.
  abbrev pub IsRing : List (ℕ × ℕ) → Type 0
  IsRing steps = Ring (Constraint (tree_in net)) (length steps) (at (step_lines steps)) (at (step_kinds steps))

  abbrev pub OnlyRing : List (ℕ × ℕ) → Type 0
  OnlyRing steps =
      (n : ℕ) (line kind : ℕ → ℕ) → Ring (Constraint (tree_in net)) n line kind
      → (n ≡ length steps) × Agree n line (at (step_lines steps)) × Agree n kind (at (step_kinds steps))

  -- Draw does its work, and P is so.
  pub record Draws (c : String) (P : Type 0) : Type 0 where
    pub fitting : Fitting c
    pub proper : Good (choice c)
    pub balanced : Balanced net (buffer c)
    pub so : P

  -- .. of the order, vertex by vertex, and of the mesh of each direction.
  abbrev pub DrawsSo : String → (List ℕ → List ℕ → Type 0) → Type 0
  DrawsSo c P = Draws c (P (flat net.vertices (clockwise_in net (buffer c))) (mesh_list_in net (buffer c)))

  abbrev pub True : Claim → Type 0
  True (back_lines_are l) = (keep (backb (tree_in net)) (upto net.lines) ≡ l) × (back_lines net ≡ length l)
  True (choices_are l) = Every Fitting l × AllChoices l
  True (next_is c d) = Fitting c × Fitting d × Good (choice c) × Next net.lines Good (choice c) (choice d)
  True (none_after c) = Fitting c × Good (choice c) × Last net.lines Good (choice c)
  True (not_aligned c) = Fitting c × (Aligned (tree_in net) (choice c) → ⊥)
  True (must_agree b d) = (side : ℕ → ℕ) → Aligned (tree_in net) side → side b ≡ side d
  True (ring_is steps) = (Drawable (tree_in net) → ⊥) × IsRing steps × OnlyRing steps
  True (mesh_count_is c n) = Draws c (meshes_in net (buffer c) ≡ n)
  True (sizes_are c l) = Draws c (size_list_in net (buffer c) ≡ l)
  True (meshes_are c l) = Draws c (directions (meshes_in net (buffer c)) (mesh_list_in net (buffer c)) ≡ l)
  True (clockwise_is c l) = Draws c (map (clockwise_in net (buffer c)) (upto net.vertices) ≡ l)
  True (trips_are c outer l) = DrawsSo c (λ order mesh. tripsb (tree_in net) net.ends outer l order mesh ≡ true)

-- When a trial holds: lent all the room that they ask for, the checks refuse the network by that number and grant nothing, or they refuse it by none
-- and each claim is true.
abbrev pub Holds : Trial → Type 0
Holds (trial n lines (refused_by number)) = Checked n (ends_of lines) false (λ k. k ≡ number) ⊥
Holds (trial n lines (granted claims)) = Checked n (ends_of lines) false (λ k. ⊥) (Every (True (network n (ends_of lines))) claims)
