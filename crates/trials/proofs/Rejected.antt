-- Wrong programs, each held against one row of the table: what it would answer there, no statement allows. (Rows are counted from 0: P1 is row 0.)
use mathlib.Core.Bool.{true}
use mathlib.Core.List.{List, [], ◌∷◌}
use mathlib.Core.Path.{◌≡◌, refl, sym, ap, ◌∙◌, subst}
use Prim.Native.Nat.{ℕ, ◌+◌, ◌≤◌, ◌<◌}
use native.Mathlib.Omega.{arith}
use lib.ListN.{get_or, length, take, get_or-eq_default}
use borrow.Author.Tests.{eqb-true, le-ltb}
use Rattle.laws.specs.Tests.{both, either, any}
use Rattle.laws.specs.Counting.{count, many}
use Rattle.laws.specs.Lists.{from, keep, filled, at}
use Rattle.laws.proofs.Cases.{cases, lt_or}
use Rattle.laws.proofs.Tests.{both_of, all_of}
use Rattle.network.specs.Network.{network, touches, other}
use Rattle.network.specs.Numbers.{refused, done, astray}
use Rattle.network.specs.Numbers.{Answer}
use Rattle.network.proofs.Checks.{none_astray}
use Rattle.tree.specs.Tree.{higher, lower, climb, aboveb}
use Rattle.search.specs.Machine.{tree_in, free, lowest_free, take_line, leave, go, step, run, start, finished}
use Rattle.text.specs.Text.{text_of}
use Rattle.text.specs.Calls.{Read}
use Rattle.choice.specs.Calls.{NextChoice}
use Rattle.meshes.specs.Meshes.{other_way, leave_by}
use Rattle.trials.specs.Trials.{ends_of, side_named, sides, written}
use Rattle.trials.specs.Turning.{clockwise, trip, along, on_trip, round_trip, outer_mesh, encircles, walked, tripb, tripsb}
use Rattle.trials.specs.Answers.{OfFirst, OfDraw, bytes}
use Rattle.trials.specs.Table.{K4, K5_without_9, K33}
use Rattle.trials.proofs.Refusing.{text_says}
use Rattle.trials.proofs.Answers.{answered}

number_of : {r : Answer} {a b : ℕ} → r ≡ done a b → r.number ≡ 0
number_of e = ap (λ (r : Answer). r.number) e

-- First choice

-- 7 to all: not to a triangle
pub not_seven_to_all : OfFirst 3 (ends_of ((0, 1) ∷ (1, 2) ∷ (2, 0) ∷ [])) (λ r old ring rings choice' lines' kinds'. r.number ≡ 7 → ⊥)
not_seven_to_all choice lines kinds choice' lines' kinds' r room x =
    let e = number_of ((answered 2).0.0 choice lines kinds choice' lines' kinds' r room x).0 in λ seven. omega arith

-- never 7: not to K3,3
pub not_never_seven : OfFirst 6 (ends_of K33) (λ r old ring rings choice' lines' kinds'. r.number ≡ 0 → ⊥)
not_never_seven choice lines kinds choice' lines' kinds' r room x =
    let e = ap (λ (a : Answer). a.number) ((answered 6).0 choice lines kinds choice' lines' kinds' r room x).0 in λ zero. omega arith

-- all left: not to K5 without its last line, where line 6 is right
line_six : (old : List ℕ) → at (filled 9 (bytes 5 (ends_of K5_without_9) "LLLLR") old) 6 ≡ 1
unfolding written sides side_named count from both either finished start run step go take_line leave lowest_free free touches other
line_six old = refl

pub not_all_left : OfFirst 5 (ends_of K5_without_9) (λ r old ring rings choice' lines' kinds'. at choice' 6 ≡ 0 → ⊥)
not_all_left choice lines kinds choice' lines' kinds' r room x =
    let e = ap (λ (l : List ℕ). at l 6) ((answered 7).1.0.0 choice lines kinds choice' lines' kinds' r room x).1 in λ left. omega (arith, line_six choice)

-- Next choice

-- the lent choice unmoved: not LRL on K4, after which line 3 is right
line_three : (at (bytes 4 (ends_of K4) "LRL") 3 ≡ 0) × (at (bytes 4 (ends_of K4) "RLR") 3 ≡ 1)
unfolding written sides side_named count from both either finished start run step go take_line leave lowest_free free touches other
line_three = (refl, refl)

pub not_unmoved : (r : Answer) → NextChoice 4 (ends_of K4) (bytes 4 (ends_of K4) "LRL") r (bytes 4 (ends_of K4) "LRL") → ⊥
not_unmoved r x =
    let e = ap (λ (l : List ℕ). at l 3) ((answered 8).0 (bytes 4 (ends_of K4) "LRL") r x).1 in
    omega (arith, line_three.0, line_three.1)

-- one honest step, and then 9: after LLL on K4 comes LRL, and after that no 9
pub not_nine_yet : (choice choice' : List ℕ) (r r' : Answer) → NextChoice 4 (ends_of K4) (bytes 4 (ends_of K4) "LLL") r choice → NextChoice 4 (ends_of K4) choice r' choice'
    → r'.number ≡ 9 → ⊥
not_nine_yet choice choice' r r' x y nine =
    let e = ((answered 3).1.0.1.0 choice r x).1 in
    let y' = subst (λ (l : List ℕ). NextChoice 4 (ends_of K4) l r' choice') e y in
    let z = number_of ((answered 8).0 choice' r' y').0 in
    omega arith

-- RLL taken for an aligned choice, on K4
pub not_RLL : (choice' : List ℕ) (r : Answer) → NextChoice 4 (ends_of K4) (bytes 4 (ends_of K4) "RLL") r choice' → r.number ≡ 0 → ⊥
not_RLL choice' r x zero = let e = ap (λ (a : Answer). a.number) ((answered 9).0.0 choice' r x).0 in omega arith

-- Read

-- the text of a network that is not connected, and of one too large: not read
pub eleven_read : (buffer buffer' : List ℕ) (r : Answer) → 2 ≤ length buffer → Read (text_of 3 (0 ∷ 1 ∷ [])) buffer r buffer' → r ≡ refused 6
unfolding astray any either
eleven_read buffer buffer' r h x =
    (answered 10).read (text_of 3 (0 ∷ 1 ∷ [])) buffer buffer' r (text_says 3 (0 ∷ 1 ∷ []) 1 (omega arith) (omega arith) (omega arith) (none_astray 65536 (0 ∷ 1 ∷ []) refl)) (le-ltb _ _ h) x

pub twelve_read : (buffer buffer' : List ℕ) (r : Answer) → 2 ≤ length buffer → Read (text_of 513 (0 ∷ 600 ∷ [])) buffer r buffer' → r ≡ refused 2
unfolding astray any either
twelve_read buffer buffer' r h x =
    (answered 11).read (text_of 513 (0 ∷ 600 ∷ [])) buffer buffer' r (text_says 513 (0 ∷ 600 ∷ []) 1 (omega arith) (omega arith) (omega arith) (none_astray 65536 (0 ∷ 600 ∷ []) refl)) (le-ltb _ _ h) x

-- Draw

-- a mesh more, or one less: not on two triangles
pub no_other_count : OfDraw 4 (ends_of ((0, 1) ∷ (1, 2) ∷ (2, 0) ∷ (1, 3) ∷ (3, 0) ∷ [])) (bytes 4 (ends_of ((0, 1) ∷ (1, 2) ∷ (2, 0) ∷ (1, 3) ∷ (3, 0) ∷ [])) "LL")
    (λ r order mesh sizes order' mesh' sizes'. r.count ≡ 3)
no_other_count order mesh sizes order' mesh' sizes' r room x = ap (λ (a : Answer). a.count) ((answered 12).1.1.0 order mesh sizes order' mesh' sizes' r room x)

-- a way round that takes a direction with the outer mesh on its left hand goes anticlockwise round nothing
outer_on_left : (mesh : List ℕ) (outer : ℕ) (way inside : List ℕ) (d : ℕ) → encircles mesh outer way inside ≡ true → d < length mesh → get_or mesh d 0 ≡ outer
    → many (other_way d) way < many d way → ⊥
unfolding encircles
outer_on_left mesh outer way inside d t h e less =
    let q = both_of t in
    let none = eqb-true (many outer inside) 0 q.0 in
    let here : many (get_or mesh d 0) inside ≡ 0 = ap (λ (x : ℕ). many x inside) e ∙ none in
    let sum : many (get_or mesh (other_way d) 0) inside + many d way ≡ many (get_or mesh d 0) inside + many (other_way d) way = eqb-true _ _ (all_of _ (length mesh) q.1 d h) in
    omega arith

-- left taken for clockwise: not on the triangle, whatever is said to be on either hand and inside
abbrev triangle : List ℕ
triangle = ends_of ((0, 1) ∷ (1, 2) ∷ (2, 0) ∷ [])

abbrev up_line_2 : ℕ
up_line_2 = other_way (along (tree_in (network 3 triangle)) triangle 2)

abbrev walked_back : List ℕ
walked_back = walked clockwise (round_trip (tree_in (network 3 triangle)) triangle 2)

taken : (many (other_way up_line_2) walked_back ≡ 0) × (many up_line_2 walked_back ≡ 1)
unfolding walked round_trip on_trip other_way leave_by many from keep higher lower climb aboveb both either finished start run step go take_line leave lowest_free free touches other
taken = (refl, refl)

pub left_not_clockwise : OfDraw 3 triangle (bytes 3 triangle "L")
    (λ r order mesh sizes order' mesh' sizes'.
    (outer on_left on_right : ℕ) (inside : List ℕ)
    → tripsb (tree_in (network 3 triangle)) triangle outer (trip 2 on_left on_right clockwise inside ∷ []) (take 6 order') (take 6 mesh') ≡ true → ⊥)
unfolding tripsb tripb
left_not_clockwise order mesh sizes order' mesh' sizes' r room x outer on_left on_right inside t =
    let m = take 6 mesh' in
    let row = both_of ((answered 2).1.1.1.0 order mesh sizes order' mesh' sizes' r room x) in
    let right_hand : get_or m up_line_2 0 ≡ 1 = eqb-true _ 1 (both_of (both_of (both_of row.0).1).0).1 in
    let is_outer : outer_mesh triangle (take 6 order') m ≡ 1 = eqb-true _ 1 row.1 in
    let so = both_of t in
    let outer_is : outer_mesh triangle (take 6 order') m ≡ outer = eqb-true _ outer so.1 in
    outer_on_left m outer walked_back inside up_line_2 (both_of (both_of so.0).1).1
    (cases (lt_or up_line_2 (length m)) (λ h. h) (λ h. absurd (omega (arith, get_or-eq_default m 0 {n = up_line_2} h))))
    (right_hand ∙ sym is_outer ∙ outer_is) (omega (arith, taken.0, taken.1))
