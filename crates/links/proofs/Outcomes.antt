-- What taking in links came to, taken apart and put together: a link that tears ends it, whatever was to be done; and what held goes on.
use mathlib.Core.Path.{◌≡◌}
use Rattle.std.specs.Prelude.{Result, Ok, Err, ⊤}
use Rattle.tree.specs.Tree.{Tree}
use Rattle.groups.specs.declared.Groups.{Groups}
use Rattle.links.specs.Inside.{Sound, StillClosed, Outcome, obeyed, unkept}
use Rattle.links.specs.declared.Tear.{Tear}
use Rattle.links.proofs.Closing.{closed_after}

-- a link that can't be obeyed stays so, whatever else was to be done
pub torn : {S : Tree} {g h i : Groups} {done wanted : Type 0} {q : Result ⊤ Tear} {t : Tear} → Outcome S g h done q → q ≡ Err t → Outcome S i h wanted (Err t)
torn {S} {g} {h} {i} {done} {wanted} {q} {t} o e = go (rw e at o)
  where
    go : Outcome S g h done (Err t) → Outcome S i h wanted (Err t)
    go (unkept s u) = unkept s u

-- what comes after links that are obeyed
pub outcome_after : {S : Tree} {g h i : Groups} {done wanted : Type 0} {r : Result ⊤ Tear} → Outcome S g h done (Ok tt) → Outcome S h i wanted r → Outcome S g i wanted r
outcome_after (obeyed s on d) (unkept z k) = unkept z k
outcome_after {S} {g} {h} {i} (obeyed s on d) (obeyed z n k) = obeyed z (closed_after S g h i on n) k

pub holds_of : {S : Tree} {g h : Groups} {done : Type 0} {q : Result ⊤ Tear} → Outcome S g h done q → q ≡ Ok tt → Sound S h × StillClosed S g h × done
holds_of {S} {g} {h} {done} o e = go (rw e at o)
  where
    go : Outcome S g h done (Ok tt) → Sound S h × StillClosed S g h × done
    go (obeyed s on d) = (s, on, d)
