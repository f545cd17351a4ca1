-- Two rules that are easily got wrong: each gives K4 two meshes in the place of four.
use mathlib.Core.Path.{◌≡◌, refl}
use mathlib.Core.Bool.{cond}
use mathlib.Core.List.{List, [], ◌∷◌, ◌++◌, reverse}
use Prim.Native.Nat.{ℕ, ◌+◌, ◌*◌, ◌-◌}
use lib.Dec.{eqb}
use Rattle.laws.specs.Tests.{both, either, least}
use Rattle.laws.specs.Counting.{count}
use Rattle.laws.specs.Lists.{keep, from}
use Rattle.laws.specs.Sorting.{gather, insert, sort}
use Rattle.laws.specs.Orbits.{lowest_on}
use Rattle.network.specs.Network.{Network, network, touches, other}
use Rattle.tree.specs.Tree.{Tree, higher, lower, climb, aboveb}
use Rattle.tree.specs.Returns.{returnb, returns, low}
use Rattle.search.specs.Machine.{tree_in, free, lowest_free, take_line, leave, go, step, run, start, finished}
use Rattle.fork.specs.Ends.{high, more, top, highestb}
use Rattle.fans.specs.Fan.{side_of as line_side, is_left, is_right, leaving, rank, nested, fan}
use Rattle.clockwise.specs.Order.{discovered, incoming, beside, clockwise}
use Rattle.meshes.specs.Meshes.{other_way, leave_by, follow_in, turned, next_direction, mesh_count}
use Rattle.trials.specs.Trials.{ends_of, side_named, sides, written, choice}
use Rattle.trials.specs.Table.{K4, K4_by_pairs}

-- At equal low, the lines with more heights first: K4, all left

abbrev k4 : Network
k4 = network 4 (ends_of K4)

abbrev all_left : ℕ → ℕ
all_left = choice k4 "LLL"

abbrev more_first : Tree → ℕ → List ℕ
more_first S v =
    let nested_so = sort (λ e. 2 * low S e + (1 - more S e)) (leaving S v) in
    reverse (keep (is_left (line_side S all_left)) nested_so) ++ keep (is_right (line_side S all_left)) nested_so

pub more_first_differs : mesh_count (tree_in k4).live 6 (ends_of K4) (clockwise (tree_in k4) (more_first (tree_in k4)) all_left) ≡ 2
unfolding both either least count from keep gather insert sort lowest_on touches other higher lower climb aboveb returnb returns low free lowest_free take_line leave go step run start finished high more top highestb line_side leaving rank nested fan discovered incoming beside clockwise other_way leave_by follow_in turned next_direction mesh_count side_named sides written
more_first_differs = refl

-- Of the lines that come in beside one line, those discovered before standing before: K4 by its pairs, lines 1 and 2 left and 4 right

abbrev pairs : Network
pairs = network 4 (ends_of K4_by_pairs)

abbrev LLR : ℕ → ℕ
LLR = choice pairs "LLR"

abbrev unreversed : Tree → ℕ → List ℕ
unreversed S v =
    cond (eqb (S.height v) 0) [] (S.parent v ∷ [])
    ++ gather
    (λ e.
    cond (S.tree e)
    (let from_above = keep (λ b. eqb (S.target b) v) (discovered S (fan S LLR) 4 (S.target e)) in keep (is_left LLR) from_above ++ (e ∷ keep (is_right LLR) from_above))
    (e ∷ []))
    (fan S LLR v)

pub unreversed_differs : mesh_count (tree_in pairs).live 6 (ends_of K4_by_pairs) (unreversed (tree_in pairs)) ≡ 2
unfolding both either least count from keep gather insert sort lowest_on touches other higher lower climb aboveb returnb returns low free lowest_free take_line leave go step run start finished high more top highestb line_side leaving rank nested fan discovered incoming beside clockwise other_way leave_by follow_in turned next_direction mesh_count side_named sides written
unreversed_differs = refl
