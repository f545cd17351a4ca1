-- The search, as a machine that makes one step at a time. (docs/RULES.md, "The search".)
use Rattle.std.specs.Prelude.{Bool, cond, List, ℕ, zero, suc, ◌+◌, eqb, ltb, get_or, set, replicate, drop}
use Rattle.laws.specs.Tests.{both}
use Rattle.network.specs.Network.{Network, touches, other}
use Rattle.network.specs.Marks.{tree, back, unused}
use Rattle.tree.specs.Tree.{Tree, tree_of}

-- Where the search stands, what each line is, and of each vertex whether it is found (1) or not (0), its height, and the line that found it.
-- The tables are as long as the limits.
pub record State : Type 0 where
  pub at : ℕ
  pub kind : List ℕ
  pub found : List ℕ
  pub height : List ℕ
  pub parent : List ℕ

abbrev pub state : ℕ → List ℕ → List ℕ → List ℕ → List ℕ → State
state v ks fs hs ps = record { at = v; kind = ks; found = fs; height = hs; parent = ps }

-- Line k is unused, and v is an end of it.
unfoldable pub free : List ℕ → List ℕ → ℕ → ℕ → Bool
free ends kind v k = both (eqb (get_or kind k 0) unused) (touches ends v k)

-- The lowest-numbered of m lines that is free at v; m where there is none. (By one walk down the two lists.)
unfoldable pub lowest_free : ℕ → ℕ → List ℕ → List ℕ → ℕ
lowest_free v zero ends kind = 0
lowest_free v (suc m) ends kind =
    let r = suc (lowest_free v m (drop 2 ends) (drop 1 kind)) in
    cond (free ends kind v 0) 0 r

abbrev pub next : Network → State → ℕ
next net s = lowest_free s.at net.lines net.ends s.kind

-- Up line k, which finds the vertex at its other end: a tree line.
abbrev pub finds : Network → State → ℕ → State
finds net s k =
    state (other net.ends s.at k)
    (set s.kind k tree)
    (set s.found (other net.ends s.at k) 1)
    (set s.height (other net.ends s.at k) (get_or s.height s.at 0 + 1))
    (set s.parent (other net.ends s.at k) k)

-- Line k leads to a vertex that was found before: a back line.
abbrev pub meets : Network → State → ℕ → State
meets net s k = state s.at (set s.kind k back) s.found s.height s.parent

-- Back along the line that found the vertex.
abbrev pub retreats : Network → State → State
retreats net s = state (other net.ends s.at (get_or s.parent s.at 0)) s.kind s.found s.height s.parent

-- The search is over, and stands outside the network from here on.
abbrev pub halts : Network → State → State
halts net s = state net.vertices s.kind s.found s.height s.parent

unfoldable pub take_line : Network → State → ℕ → State
take_line net s k = cond (eqb (get_or s.found (other net.ends s.at k) 0) 0) (finds net s k) (meets net s k)

unfoldable pub leave : Network → State → State
leave net s = cond (eqb (get_or s.height s.at 0) 0) (halts net s) (retreats net s)

-- One step: the lowest-numbered unused line here, if there is one.
unfoldable pub go : Network → State → ℕ → State
go net s k = cond (ltb k net.lines) (take_line net s k) (leave net s)

unfoldable pub step : Network → State → State
step net s = cond (ltb s.at net.vertices) (go net s (next net s)) s

unfoldable pub run : Network → ℕ → State → State
run net zero s = s
run net (suc j) s = run net j (step net s)

-- At vertex 0, which is found, and nothing else is.
unfoldable pub start : State
start = state 0 (replicate 2048 unused) (set (replicate 512 0) 0 1) (replicate 512 0) (replicate 512 0)

-- The whole search: each line is used once, and each vertex left once.
unfoldable pub finished : Network → State
finished net = run net (net.lines + net.vertices) start

-- The tree that it leaves.
abbrev pub tree_in : Network → Tree
tree_in net = tree_of net.vertices net.lines net.ends (finished net).kind (finished net).height (finished net).parent
