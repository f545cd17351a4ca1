-- Rows that would be wrong: what each claims is not true. The test of its claim is computed and fails, and a claim that is true passes its test.
use mathlib.Core.Bool.{true, false}
use mathlib.Core.List.{List, [], ◌∷◌}
use mathlib.Core.Path.{◌≡◌, refl, ap}
use Prim.Native.Nat.{ℕ}
use native.Mathlib.Omega.{arith}
use lib.ListN.{get_or}
use Rattle.rings.specs.Ring.{apartb, oddb, orderedb, ringb}
use Rattle.side.specs.Sides.{same, different}
use Rattle.laws.specs.Tests.{both, either, all, any, least}
use Rattle.laws.specs.Counting.{count}
use Rattle.laws.specs.Lists.{from, keep}
use Rattle.laws.specs.Sorting.{gather, insert, sort}
use Rattle.laws.proofs.Cases.{true_false}
use Rattle.network.specs.Network.{Network, network, touches, other}
use Rattle.tree.specs.Tree.{higher, lower, climb, aboveb}
use Rattle.tree.specs.Returns.{returnb, returns, low}
use Rattle.search.specs.Machine.{tree_in, free, lowest_free, take_line, leave, go, step, run, start, finished}
use Rattle.fork.specs.Ends.{lowestb, high, more, top, highestb}
use Rattle.fork.specs.Fork.{Legal, forkb, groupb, sameb, differentb, levelb, wherever, legalb, alignedb}
use Rattle.fork.proofs.Rule.{legal_of, aligned_yes}
use Rattle.fans.specs.Fan.{side_of as line_side, leaving, rank, nested, fan}
use Rattle.clockwise.specs.Order.{discovered, incoming, beside, clockwise}
use Rattle.drawing.specs.Draw.{clockwise_in}
use Rattle.runs.proofs.Granted.{properb}
use Rattle.trials.specs.Trials.{choices_are, next_is, ring_is, clockwise_is, ends_of, side_named, sides, written, buffer, choice, True}
use Rattle.trials.specs.Tests.{agreeb, beforeb, not_later, scan, everyb, nextb, constraintb, roundb}
use Rattle.trials.specs.Table.{K4, K5, K33}
use Rattle.trials.proofs.Choosing.{next_yes}
use Rattle.trials.proofs.Ringing.{round_yes}

abbrev k4 : Network
k4 = network 4 (ends_of K4)

-- A choice left out: after LRL comes RLR, and not RRR

not_next : nextb (tree_in k4) (choice k4 "LRL") (choice k4 "RRR") ≡ false
unfolding both either all any least count from keep touches other higher lower climb aboveb returnb returns low free lowest_free take_line leave go step run start finished lowestb high top highestb forkb groupb sameb differentb levelb wherever legalb alignedb properb side_named sides written agreeb beforeb not_later scan everyb nextb
not_next = refl

pub none_left_out : True k4 (choices_are ("LLL" ∷ "LRL" ∷ "RRR" ∷ [])) → ⊥
none_left_out q = true_false (next_yes (tree_in k4) (choice k4 "LRL") (choice k4 "RRR") q.1.1.1.0) not_next

-- RLL called aligned

not_aligned_so : alignedb (tree_in k4) (choice k4 "RLL") ≡ false
unfolding both either all any least count from keep touches other higher lower climb aboveb returnb returns low free lowest_free take_line leave go step run start finished lowestb high top highestb forkb groupb sameb differentb levelb wherever legalb alignedb side_named sides written
not_aligned_so = refl

pub RLL_not_aligned : True k4 (next_is "RLL" "RLR") → ⊥
RLL_not_aligned q = true_false (aligned_yes (tree_in k4) (choice k4 "RLL") q.2.aligned) not_aligned_so

-- (it is legal: what it fails is alignment)

legal_so : legalb (tree_in k4) (choice k4 "RLL") ≡ true
unfolding both either all any count from keep touches other higher lower climb aboveb returnb returns low free lowest_free take_line leave go step run start finished forkb groupb sameb differentb wherever legalb side_named sides written
legal_so = refl

pub RLL_legal : Legal (tree_in k4) (choice k4 "RLL")
RLL_legal = legal_of (tree_in k4) (choice k4 "RLL") legal_so

-- A ring with an even number of different, on K3,3; and on K5 one that goes on to a line with no constraint to it

abbrev k33 : Network
k33 = network 6 (ends_of K33)

abbrev k5 : Network
k5 = network 5 (ends_of K5)

even_ring : roundb (tree_in k33) 2 (λ i. get_or (5 ∷ 6 ∷ []) i 0) (λ i. get_or (same ∷ same ∷ []) i 0) ≡ false
unfolding both either all count apartb oddb orderedb ringb roundb
even_ring = refl

pub not_even : True k33 (ring_is ((5, same) ∷ (6, same) ∷ [])) → ⊥
not_even q = true_false (round_yes (tree_in k33) 2 _ _ q.1) even_ring

loose_ring : roundb (tree_in k5) 3 (λ i. get_or (3 ∷ 5 ∷ 6 ∷ []) i 0) (λ i. get_or (same ∷ same ∷ different ∷ []) i 0) ≡ false
unfolding both either all any least count from keep touches other higher lower climb aboveb returnb returns low free lowest_free take_line leave go step run start finished forkb groupb sameb differentb apartb oddb orderedb ringb constraintb roundb
loose_ring = refl

pub not_loose : True k5 (ring_is ((3, same) ∷ (5, same) ∷ (6, different) ∷ [])) → ⊥
not_loose q = true_false (round_yes (tree_in k5) 3 _ _ q.1) loose_ring

-- Two lines that change places in the order, at vertex 0 of K4

first_at_0 : get_or (clockwise_in k4 (buffer k4 "LLL") 0) 0 0 ≡ 5
unfolding both either least count from keep gather insert sort touches other higher lower climb aboveb returnb returns low free lowest_free take_line leave go step run start finished high more top highestb line_side leaving rank nested fan discovered incoming beside clockwise side_named sides written
first_at_0 = refl

pub places_not_changed : True k4 (clockwise_is "LLL" ((3 ∷ 5 ∷ 0 ∷ []) ∷ (0 ∷ 4 ∷ 1 ∷ []) ∷ (1 ∷ 2 ∷ 5 ∷ []) ∷ (2 ∷ 4 ∷ 3 ∷ []) ∷ [])) → ⊥
unfolding from
places_not_changed q = let e = ap (λ (l : List (List ℕ)). get_or (get_or l 0 []) 0 0) q.so in omega (arith, first_at_0)
