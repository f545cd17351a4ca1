-- Words of the rules, each told wrong, with a small network that tells the lie from the rule: one of the two accepts a choice that the other refuses, or
-- they give it different meshes.
use mathlib.Core.Bool.{Bool, true, false, cond, not}
use mathlib.Core.List.{List, [], ◌∷◌, ◌++◌, map, foldr, reverse}
use mathlib.Core.Path.{◌≡◌, refl}
use Prim.Native.Nat.{ℕ, min}
use Prim.Native.String.{String}
use lib.Dec.{eqb, ltb, leb}
use lib.ListN.{length}
use Rattle.laws.specs.Tests.{both, either, all, any, least}
use Rattle.laws.specs.Counting.{count}
use Rattle.laws.specs.Lists.{keep, from, upto}
use Rattle.laws.specs.Sorting.{gather, insert, sort}
use Rattle.laws.specs.Orbits.{lowest_on}
use Rattle.side.specs.Sides.{right}
use Rattle.network.specs.Network.{Network, network, touches, other}
use Rattle.tree.specs.Tree.{Tree, higher, lower, climb, aboveb}
use Rattle.tree.specs.Returns.{end, backb, returnb, returns, low}
use Rattle.search.specs.Machine.{tree_in, free, lowest_free, take_line, leave, go, step, run, start, finished}
use Rattle.fork.specs.Ends.{high, more, top, bottom, highestb, lowestb}
use Rattle.fork.specs.Fork.{forkb, groupb, sameb, differentb, levelb, wherever, legalb, alignedb}
use Rattle.fans.specs.Fan.{side_of as line_side, is_left, is_right, leaving, rank, nested, fan}
use Rattle.clockwise.specs.Order.{discovered, incoming, beside, clockwise, order_at}
use Rattle.meshes.specs.Meshes.{other_way, leave_by, follow_in, turned, next_direction, mesh_count}
use Rattle.trials.specs.Trials.{ends_of, side_named, sides, written, choice}
use Rattle.trials.specs.Table.{K4}

-- The test of alignment with two words left open: what is in the group of f at its fork with g, and which two returns are lined up

module _ (S : Tree) (group : ℕ → ℕ → ℕ → Bool) (level : ℕ → ℕ → Bool) (side : ℕ → ℕ) where
  abbrev together : ℕ → ℕ → Bool
  together b c = both (not (eqb b c)) (any (λ f. any (λ g. both (forkb S f g) (both (group f g b) (group f g c))) S.lines) S.lines)

  abbrev against : ℕ → ℕ → Bool
  against b c = any (λ f. any (λ g. both (forkb S f g) (both (group f g b) (group g f c))) S.lines) S.lines

  abbrev aligned_by : Bool
  aligned_by =
      both
      (both (all (λ b. either (not (backb S b)) (leb (side b) right)) S.lines)
      (both (wherever together (λ b c. eqb (side b) (side c)) S.lines) (wherever against (λ b c. not (eqb (side b) (side c))) S.lines)))
      (wherever level (λ b c. eqb (side b) (side c)) S.lines)

-- Two returns of one tree line that a test picks.
abbrev level_by : Tree → (ℕ → ℕ → Bool) → ℕ → ℕ → Bool
level_by S picked b c = both (not (eqb b c)) (any (λ t. both (both (S.live t) (S.tree t)) (both (picked t b) (picked t c))) S.lines)

-- with the rule's own words it is the rule's own test
pub own_words : (S : Tree) (side : ℕ → ℕ) → aligned_by S (groupb S) (level_by S (lowestb S)) side ≡ alignedb S side
unfolding alignedb legalb sameb differentb levelb
own_words S side = refl

-- A network, a word for a choice, what the rule says of it, and what it says with two words told wrong
pub record Told (net : Network) (word : String) (group : Tree → ℕ → ℕ → ℕ → Bool) (level : Tree → ℕ → ℕ → Bool) (rightly : Bool) : Type 0 where
  pub by_rule : alignedb (tree_in net) (choice net word) ≡ rightly
  pub by_lie : aligned_by (tree_in net) (group (tree_in net)) (level (tree_in net)) (choice net word) ≡ not rightly

abbrev k4 : Network
k4 = network 4 (ends_of K4)

-- Group: what ends level with the low of the other counted too. It refuses K4's first choice.

abbrev or_level : Tree → ℕ → ℕ → ℕ → Bool
or_level S f g b = both (returnb S f b) (leb (low S g) (end S b))

pub higher_or_equal : Told k4 "LLL" or_level (λ S. level_by S (lowestb S)) true
unfolding both either all any count from keep touches other higher lower climb aboveb returnb returns low free lowest_free take_line leave go step run start finished lowestb forkb groupb sameb differentb levelb wherever legalb alignedb side_named sides written
higher_or_equal = record { by_rule = refl; by_lie = refl }

-- Return: what ends at the vertex itself counted too. In two triangles on one line it lines up the two back lines, which are free of each other.

abbrev two_triangles : Network
two_triangles = network 4 (ends_of ((0, 1) ∷ (1, 2) ∷ (2, 0) ∷ (1, 3) ∷ (3, 0) ∷ []))

abbrev or_at : Tree → ℕ → ℕ → Bool
or_at S e b =
    both (backb S b)
    (both (either (eqb b e) (both (S.tree e) (S.above (S.target e) (S.source b))))
    (leb (end S b) (S.height (S.source e))))

abbrev low_so : Tree → ℕ → ℕ
low_so S e = foldr min (S.height (S.source e)) (map (end S) (keep (or_at S e) (upto S.lines)))

pub ends_at_the_vertex : Told two_triangles "LR" (λ S f g b. both (or_at S f b) (ltb (low_so S g) (end S b)))
    (λ S. level_by S (λ t b. both (or_at S t b) (eqb (end S b) (low_so S t)))) true
unfolding both either all any count from keep touches other higher lower climb aboveb returnb returns low free lowest_free take_line leave go step run start finished lowestb forkb groupb sameb differentb levelb wherever legalb alignedb side_named sides written
ends_at_the_vertex = record { by_rule = refl; by_lie = refl }

-- Lowest: the highest returns of a tree line lined up, not the lowest. On a path of four lines with 3-1, 4-1 and 4-0 it lines up the first two, which
-- are free of each other; line 2 has both as returns, and its low is where the third one ends.

abbrev path : Network
path = network 5 (ends_of ((0, 1) ∷ (1, 2) ∷ (2, 3) ∷ (3, 4) ∷ (3, 1) ∷ (4, 1) ∷ (4, 0) ∷ []))

pub highest_for_lowest : Told path "LRL" groupb (λ S. level_by S (highestb S)) true
unfolding both either all any count from keep touches other higher lower climb aboveb returnb returns low high free lowest_free take_line leave go step run start finished lowestb highestb forkb groupb sameb differentb levelb wherever legalb alignedb side_named sides written
highest_for_lowest = record { by_rule = refl; by_lie = refl }

-- Lined: only returns that start at one vertex. It accepts RLL on K4, where lines 3 and 5 come from two.

pub within_a_branch : Told k4 "RLL" groupb (λ S b c. both (levelb S b c) (eqb (S.source b) (S.source c))) false
unfolding both either all any count from keep touches other higher lower climb aboveb returnb returns low free lowest_free take_line leave go step run start finished lowestb forkb groupb sameb differentb levelb wherever legalb alignedb side_named sides written
within_a_branch = record { by_rule = refl; by_lie = refl }

-- Top: a tree line with the side of its lowest return, not of its highest. It gives K4 two meshes for LRL, not four.

abbrev LRL : ℕ → ℕ
LRL = choice k4 "LRL"

abbrev lowest_side : Tree → ℕ → ℕ
lowest_side S e = cond (S.tree e) (cond (eqb (length (returns S e)) 0) right (LRL (bottom S e))) (LRL e)

abbrev fan_so : Tree → ℕ → List ℕ
fan_so S v = reverse (keep (is_left (lowest_side S)) (nested S v)) ++ keep (is_right (lowest_side S)) (nested S v)

pub lowest_return_on_top : (mesh_count (tree_in k4).live 6 (ends_of K4) (order_at (tree_in k4) LRL) ≡ 4)
    × (mesh_count (tree_in k4).live 6 (ends_of K4) (clockwise (tree_in k4) (fan_so (tree_in k4)) LRL) ≡ 2)
unfolding both either least count from keep gather insert sort lowest_on touches other higher lower climb aboveb returnb returns low free lowest_free take_line leave go step run start finished high more top bottom highestb lowestb line_side leaving rank nested fan discovered incoming beside clockwise other_way leave_by follow_in turned next_direction mesh_count side_named sides written
lowest_return_on_top = (refl, refl)

-- Company: the right lines that come in before a tree line, the left ones after it. It gives K4 two meshes for LLL, not four.

abbrev LLL : ℕ → ℕ
LLL = choice k4 "LLL"

abbrev turned_round : Tree → ℕ → List ℕ
turned_round S v =
    cond (eqb (S.height v) 0) [] (S.parent v ∷ [])
    ++ gather
    (λ e. cond (S.tree e) (incoming S (fan S LLL) (is_right LLL) v e ++ (e ∷ incoming S (fan S LLL) (is_left LLL) v e)) (e ∷ []))
    (fan S LLL v)

pub company_turned_round : (mesh_count (tree_in k4).live 6 (ends_of K4) (order_at (tree_in k4) LLL) ≡ 4)
    × (mesh_count (tree_in k4).live 6 (ends_of K4) (turned_round (tree_in k4)) ≡ 2)
unfolding both either least count from keep gather insert sort lowest_on touches other higher lower climb aboveb returnb returns low free lowest_free take_line leave go step run start finished high more top highestb line_side leaving rank nested fan discovered incoming beside clockwise other_way leave_by follow_in turned next_direction mesh_count side_named sides written
company_turned_round = (refl, refl)
