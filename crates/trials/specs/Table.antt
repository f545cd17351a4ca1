-- The table of trials: P1 to P12, two triangles on one line, and three that catch slips. (docs/RULES.md, "Worked examples".)
use Rattle.std.specs.Prelude.{List, [], ◌∷◌, ℕ}
use Rattle.side.specs.Sides.{same, different}
use Rattle.trials.specs.Trials.{Trial, trial, refused_by, granted, back_lines_are, choices_are, next_is, none_after, not_aligned, must_agree, ring_is, mesh_count_is, sizes_are, meshes_are, clockwise_is, trips_are}
use Rattle.trials.specs.Turning.{anticlockwise, clockwise, trip}

-- Four vertices, all joined to each other.
abbrev pub K4 : List (ℕ × ℕ)
K4 = (0, 1) ∷ (1, 2) ∷ (2, 3) ∷ (3, 0) ∷ (3, 1) ∷ (2, 0) ∷ []

-- Five vertices, all joined to each other, the pairs in dictionary order; and the same without the last line.
abbrev pub K5 : List (ℕ × ℕ)
K5 = (0, 1) ∷ (0, 2) ∷ (0, 3) ∷ (0, 4) ∷ (1, 2) ∷ (1, 3) ∷ (1, 4) ∷ (2, 3) ∷ (2, 4) ∷ (3, 4) ∷ []

abbrev pub K5_without_9 : List (ℕ × ℕ)
K5_without_9 = (0, 1) ∷ (0, 2) ∷ (0, 3) ∷ (0, 4) ∷ (1, 2) ∷ (1, 3) ∷ (1, 4) ∷ (2, 3) ∷ (2, 4) ∷ []

-- Three vertices, each joined to three others.
abbrev pub K33 : List (ℕ × ℕ)
K33 = (0, 3) ∷ (0, 4) ∷ (0, 5) ∷ (1, 3) ∷ (1, 4) ∷ (1, 5) ∷ (2, 3) ∷ (2, 4) ∷ (2, 5) ∷ []

-- One vertex: one choice, the empty one, and one mesh, of size 0.
abbrev pub P1 : Trial
P1 = trial 1 [] (granted (choices_are ("" ∷ []) ∷ mesh_count_is "" 1 ∷ sizes_are "" (0 ∷ []) ∷ []))

-- One line: one choice, and one mesh, of size 1.
abbrev pub P2 : Trial
P2 = trial 2 ((0, 1) ∷ []) (granted (choices_are ("" ∷ []) ∷ mesh_count_is "" 1 ∷ sizes_are "" (1 ∷ []) ∷ []))

-- A triangle: two choices, and two meshes by either, the same two. Walked down, line 2 has mesh 0 on its left hand and mesh 1 on its right. By L mesh 1
-- is the outer one, so the line's round trip turns anticlockwise; by R mesh 0 is, and it turns clockwise.
abbrev pub P3 : Trial
P3 =
    trial 3 ((0, 1) ∷ (1, 2) ∷ (2, 0) ∷ [])
    (granted
    (choices_are ("L" ∷ "R" ∷ [])
    ∷ mesh_count_is "L" 2
    ∷ mesh_count_is "R" 2
    ∷ trips_are "L" 1 (trip 2 0 1 anticlockwise (0 ∷ []) ∷ [])
    ∷ trips_are "R" 0 (trip 2 0 1 clockwise (1 ∷ []) ∷ [])
    ∷ []))

-- K4: its back lines and its choices.
abbrev pub P4 : Trial
P4 = trial 4 K4 (granted (back_lines_are (3 ∷ 4 ∷ 5 ∷ []) ∷ choices_are ("LLL" ∷ "LRL" ∷ "RLR" ∷ "RRR" ∷ []) ∷ []))

-- K4, all left: the order at each vertex, and the directions on each mesh. The round trip of every back line
-- turns anticlockwise: what is on the left hand of its directions is inside, what is on their right hand is outside, and so is the outer mesh.
abbrev pub P5 : Trial
P5 =
    trial 4 K4
    (granted
    (clockwise_is "LLL" ((5 ∷ 3 ∷ 0 ∷ []) ∷ (0 ∷ 4 ∷ 1 ∷ []) ∷ (1 ∷ 2 ∷ 5 ∷ []) ∷ (2 ∷ 4 ∷ 3 ∷ []) ∷ [])
    ∷ meshes_are "LLL" ((0 ∷ 6 ∷ 9 ∷ []) ∷ (1 ∷ 3 ∷ 11 ∷ []) ∷ (2 ∷ 4 ∷ 8 ∷ []) ∷ (5 ∷ 7 ∷ 10 ∷ []) ∷ [])
    ∷ trips_are "LLL" 1 (trip 3 0 3 anticlockwise (0 ∷ 2 ∷ []) ∷ trip 4 2 0 anticlockwise (2 ∷ []) ∷ trip 5 3 1 anticlockwise (0 ∷ 2 ∷ 3 ∷ []) ∷ [])
    ∷ []))

-- K5: 7, and its only ring, of three lines.
abbrev pub P6 : Trial
P6 = trial 5 K5 (granted (ring_is ((5, same) ∷ (6, same) ∷ (8, different) ∷ []) ∷ []))

-- K3,3: 7, and its only ring, of two lines.
abbrev pub P7 : Trial
P7 = trial 6 K33 (granted (ring_is ((5, same) ∷ (6, different) ∷ []) ∷ []))

-- K5 without its last line: its back lines and its choices.
abbrev pub P8 : Trial
P8 = trial 5 K5_without_9 (granted (back_lines_are (1 ∷ 2 ∷ 3 ∷ 5 ∷ 6 ∷ []) ∷ choices_are ("LLLLR" ∷ "LLLRL" ∷ "RRRLR" ∷ "RRRRL" ∷ []) ∷ []))

-- K4: the choice after one, and 9 after another.
abbrev pub P9 : Trial
P9 = trial 4 K4 (granted (next_is "LRL" "RLR" ∷ none_after "RRR" ∷ []))

-- K4: 8, since lines 3 and 5 have to be on one side.
abbrev pub P10 : Trial
P10 = trial 4 K4 (granted (not_aligned "RLL" ∷ must_agree 3 5 ∷ []))

-- Three vertices and one line: 6.
abbrev pub P11 : Trial
P11 = trial 3 ((0, 1) ∷ []) (refused_by 6)

-- Too many vertices, and an end that is none of them: 2, which comes before 4.
abbrev pub P12 : Trial
P12 = trial 513 ((0, 600) ∷ []) (refused_by 2)

-- Two triangles on one line. Both back lines end at vertex 0, and no tree line has both as returns: they are free of each other.
-- By LR the one turns anticlockwise and the other clockwise.
abbrev pub two_triangles : Trial
two_triangles =
    trial 4 ((0, 1) ∷ (1, 2) ∷ (2, 0) ∷ (1, 3) ∷ (3, 0) ∷ [])
    (granted
    (back_lines_are (2 ∷ 4 ∷ [])
    ∷ choices_are ("LL" ∷ "LR" ∷ "RL" ∷ "RR" ∷ [])
    ∷ mesh_count_is "LL" 3
    ∷ mesh_count_is "LR" 3
    ∷ mesh_count_is "RL" 3
    ∷ mesh_count_is "RR" 3
    ∷ trips_are "LR" 2 (trip 2 0 2 anticlockwise (0 ∷ []) ∷ trip 4 2 1 clockwise (1 ∷ []) ∷ [])
    ∷ []))

-- The same with other numbers, the shared line last. Now a tree line has both back lines as returns: they are on one side.
abbrev pub two_triangles_renumbered : Trial
two_triangles_renumbered =
    trial 4 ((0, 1) ∷ (1, 2) ∷ (2, 3) ∷ (3, 0) ∷ (0, 2) ∷ [])
    (granted (back_lines_are (3 ∷ 4 ∷ []) ∷ choices_are ("LL" ∷ "RR" ∷ []) ∷ must_agree 3 4 ∷ mesh_count_is "LL" 3 ∷ mesh_count_is "RR" 3 ∷ []))

-- A back line that comes in where a tree line leaves is no return of it: counted as one, it would leave this network no choice.
abbrev pub S2 : Trial
S2 =
    trial 5 ((0, 2) ∷ (4, 1) ∷ (3, 1) ∷ (3, 0) ∷ (0, 4) ∷ (1, 0) ∷ (4, 3) ∷ (1, 2) ∷ (4, 2) ∷ [])
    (granted (back_lines_are (2 ∷ 3 ∷ 4 ∷ 5 ∷ 8 ∷ []) ∷ choices_are ("LLLLR" ∷ "LRRRR" ∷ "RLLLL" ∷ "RRRRL" ∷ []) ∷ []))

-- The returns of line 2 that end lowest come alone, and each back line is free: were the highest lined up, lines 4 and 5 would have to agree.
abbrev pub S4 : Trial
S4 =
    trial 5 ((0, 1) ∷ (1, 2) ∷ (2, 3) ∷ (3, 4) ∷ (3, 1) ∷ (4, 1) ∷ (4, 0) ∷ [])
    (granted
    (back_lines_are (4 ∷ 5 ∷ 6 ∷ [])
    ∷ choices_are ("LLL" ∷ "LLR" ∷ "LRL" ∷ "LRR" ∷ "RLL" ∷ "RLR" ∷ "RRL" ∷ "RRR" ∷ [])
    ∷ []))

-- K4 with its pairs in dictionary order: lines 1 and 2 come in to vertex 0 by their discovery, and not as they nest.
abbrev pub K4_by_pairs : List (ℕ × ℕ)
K4_by_pairs = (0, 1) ∷ (0, 2) ∷ (0, 3) ∷ (1, 2) ∷ (1, 3) ∷ (2, 3) ∷ []

abbrev pub S3 : Trial
S3 =
    trial 4 K4_by_pairs
    (granted
    (back_lines_are (1 ∷ 2 ∷ 4 ∷ [])
    ∷ clockwise_is "LLR" ((2 ∷ 1 ∷ 0 ∷ []) ∷ (0 ∷ 3 ∷ 4 ∷ []) ∷ (3 ∷ 1 ∷ 5 ∷ []) ∷ (5 ∷ 2 ∷ 4 ∷ []) ∷ [])
    ∷ mesh_count_is "LLR" 4
    ∷ []))

abbrev pub trials : List Trial
trials =
    P1
    ∷ P2
    ∷ P3
    ∷ P4
    ∷ P5
    ∷ P6
    ∷ P7
    ∷ P8
    ∷ P9
    ∷ P10
    ∷ P11
    ∷ P12
    ∷ two_triangles
    ∷ two_triangles_renumbered
    ∷ S2
    ∷ S3
    ∷ S4
    ∷ []
