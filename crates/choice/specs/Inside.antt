-- What functions inside ask of each other. A reader of the calls' statements need not believe any of it.
use Rattle.std.specs.Prelude.{Result, Ok, Err, ⊤, List, ◌≡◌, ℕ}
use Rattle.network.specs.Network.{network}
use Rattle.network.specs.Numbers.{refusal_number}
use Rattle.network.specs.declared.Refusal.{Refusal}
use Rattle.search.specs.Machine.{tree_in}
use Rattle.search.specs.Inside.{Search, search_of, Explored, Faulted, BlankFinds}
use Rattle.fork.specs.Inside.{BlankForks}
use Rattle.fork.specs.declared.Forks.{Forks}
use Rattle.groups.specs.Groups.{columns}
use Rattle.groups.specs.declared.Groups.{Groups}
use Rattle.links.specs.declared.Tear.{Tear}
use Rattle.descents.specs.Inside.{Sorted, Grouping}
use Rattle.choice.specs.declared.beginning.Beginning.{Beginning}

-- The search of a network, and, where it is not refused, the groups of its back lines.
pub record Begun (n : ℕ) (ends : List ℕ) (q : Search) (forks : Forks) (g : Groups) (outcome : Result ⊤ Tear) : Type 0 where
  pub explored : Explored n ends q
  pub grouping : q.number ≡ 0 → Grouping (tree_in (network n ends)) forks g outcome

-- Tables of zeros.
pub record BlankBeginning (b : Beginning) : Type 0 where
  pub finds : BlankFinds b.finds
  pub forks : BlankForks b.forks

-- What the beginning leaves in its tables, or what the network is refused for.
abbrev pub Gathers : ℕ → List ℕ → Beginning → Result ⊤ Refusal → Type 0
Gathers n ends b (Ok r) = Begun n ends (search_of 0 b.finds.kinds b.finds.heights b.finds.parents) b.forks b.groups b.outcome
Gathers n ends b (Err e) = Faulted n ends (refusal_number e)

-- The same of the number and the groups alone.
pub record Gathered (n : ℕ) (ends : List ℕ) (number : ℕ) (g : Groups) (outcome : Result ⊤ Tear) : Type 0 where
  pub fault : Faulted n ends number
  pub sorted : number ≡ 0 → Sorted (tree_in (network n ends)) (columns g) outcome
