-- The finished search as a tree: which lines go up, which come down, and which vertex stands above which. (docs/RULES.md, "The search".)
use Rattle.std.specs.Prelude.{Bool, cond, List, ℕ, zero, suc, ◌-◌, eqb, ltb, leb, get_or}
use Rattle.laws.specs.Tests.{both}
use Rattle.network.specs.Marks.{tree}
use Rattle.network.specs.Network.{first, second}

-- Vertices and lines; which lines are in service, and which of those are tree lines; where each line starts and where it ends; the height of
-- each vertex and the tree line that leads up to it; and whether v stands at or above u.
pub record Tree : Type 0 where
  pub vertices : ℕ
  pub lines : ℕ
  pub live : ℕ → Bool
  pub tree : ℕ → Bool
  pub source : ℕ → ℕ
  pub target : ℕ → ℕ
  pub height : ℕ → ℕ
  pub parent : ℕ → ℕ
  pub above : ℕ → ℕ → Bool

-- The higher and the lower end of a line.
unfoldable pub higher : List ℕ → List ℕ → ℕ → ℕ
higher ends height k = cond (ltb (get_or height (first ends k) 0) (get_or height (second ends k) 0)) (second ends k) (first ends k)

unfoldable pub lower : List ℕ → List ℕ → ℕ → ℕ
lower ends height k = cond (ltb (get_or height (first ends k) 0) (get_or height (second ends k) 0)) (first ends k) (second ends k)

-- Where j tree lines down from v lead.
unfoldable pub climb : List ℕ → List ℕ → List ℕ → ℕ → ℕ → ℕ
climb ends height parent zero v = v
climb ends height parent (suc j) v = climb ends height parent j (lower ends height (get_or parent v 0))

-- v stands at or above u: as many tree lines down from v as it is higher lead to u.
unfoldable pub aboveb : List ℕ → List ℕ → List ℕ → ℕ → ℕ → Bool
aboveb ends height parent u v =
    both (leb (get_or height u 0) (get_or height v 0))
    (eqb (climb ends height parent (get_or height v 0 - get_or height u 0) v) u)

-- The tree in the tables of a search. A tree line goes up from the lower of its ends, a back line down from the higher.
abbrev pub tree_of : ℕ → ℕ → List ℕ → List ℕ → List ℕ → List ℕ → Tree
tree_of n m ends kind height parent =
    record {
      vertices = n;
      lines = m;
      live = λ k. ltb (get_or kind k 0) 2;
      tree = λ k. eqb (get_or kind k 0) tree;
      source = λ k. cond (eqb (get_or kind k 0) tree) (lower ends height k) (higher ends height k);
      target = λ k. cond (eqb (get_or kind k 0) tree) (higher ends height k) (lower ends height k);
      height = λ v. get_or height v 0;
      parent = λ v. get_or parent v 0;
      above = aboveb ends height parent;
    }
