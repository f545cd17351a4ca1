-- From the two walks to the groups: what the first ties stays tied in the second, and the two together tie every link. And from pointers to flat tables.
use mathlib.Core.Path.{◌≡◌}
use Prim.Native.Nat.{ℕ, ◌≤◌}
use native.Mathlib.Omega.{arith}
use Rattle.std.specs.Prelude.{Result, ⊤}
use Rattle.laws.proofs.Cases.{cases}
use Rattle.tree.specs.Tree.{Tree}
use Rattle.tree.specs.Words.{TreeLine}
use Rattle.tree.specs.Searched.{Searched}
use Rattle.fork.specs.Ends.{Lowest, top, bottom}
use Rattle.fork.specs.Fork.{Fork}
use Rattle.fork.specs.Link.{Link, to_top, tops, to_bottom, turned, Held, Overlap}
use Rattle.fork.proofs.Links.{overlap_tree, overlap_turned, link_ends}
use Rattle.fork.proofs.Rule.{fork_turned}
use Rattle.groups.specs.Groups.{Tables}
use Rattle.groups.specs.Calls.{Alike}
use Rattle.links.specs.Inside.{Closed}
use Rattle.links.specs.declared.Tear.{Tear}
use Rattle.links.proofs.Closing.{closed_turned, closed_alike}
use Rattle.links.proofs.Tying.{together_alike, unkept_alike}
use Rattle.descents.specs.Inside.{Sorted, all_kept, one_torn}

-- Every link

module _ (S : Tree) (X : Searched S) (t : Tables)
    (lowest : (f b : ℕ) → TreeLine S f → Lowest S f b → (b ≡ bottom S f → ⊥) → Closed t b (bottom S f) 0)
    (held : (f b : ℕ) → TreeLine S f → Held S f b → (b ≡ top S f → ⊥) → Closed t b (top S f) 0)
    (apart : (f g : ℕ) → TreeLine S f → Fork S f g → Overlap S f g → Closed t (top S f) (top S g) 1) where
  pub links_closed : {b d k : ℕ} → Link S b d k → Closed t b d k
  links_closed (to_top f b l h d) = held f b l h d
  links_closed (to_bottom f b l h d) = lowest f b l h d
  links_closed (tops f g h o) =
      cases (overlap_tree S X f g h o)
      (λ l. apart f g l h o)
      (λ l. closed_turned (apart g f l (fork_turned S f g h) (overlap_turned S f g o)))
  links_closed (turned l) = closed_turned (links_closed l)

-- Flat tables

pub sorted_alike : (S : Tree) {n : ℕ} {t t' : Tables} {r : Result ⊤ Tear} → S.lines ≤ n → Alike n t t' → Sorted S t r → Sorted S t' r
sorted_alike S few a (all_kept g c) =
    all_kept (together_alike S few a g)
    (λ b d k l. let e = link_ends S l in closed_alike a b d k (omega (arith, e.0.0.below)) (omega (arith, e.1.0.below)) (c b d k l))
sorted_alike S few a (one_torn g u) = one_torn (together_alike S few a g) (unkept_alike S few a u)
