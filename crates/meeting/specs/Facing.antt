-- What the functions of this crate ask of each other. A reader of the calls' statements need not believe any of it.
use Rattle.std.specs.Prelude.{◌≡◌, ℕ, ◌<◌}
use Rattle.laws.specs.Lists.{at}
use Rattle.side.specs.Sides.{different}
use Rattle.tree.specs.Tree.{Tree}
use Rattle.tree.specs.Returns.{low}
use Rattle.tree.specs.Words.{Return}
use Rattle.fork.specs.Ends.{high, top}
use Rattle.fork.specs.Fork.{Fork}
use Rattle.fork.specs.Inside.{Spans}
use Rattle.fork.specs.declared.Forks.{Forks}
use Rattle.meeting.specs.declared.Pairs.{Pairs}
use Rattle.meeting.specs.Inside.{kept_at}
use Rattle.groups.specs.Groups.{pointed}
use Rattle.groups.specs.declared.Groups.{Groups}
use Rattle.links.specs.Inside.{Closed, Sound}

-- A line with the top b and the low l meets one with the top c, which leaves the same vertex and whose low is below its high.
pub record Facing (S : Tree) (b l c : ℕ) (forks : Forks) (g : Groups) : Type 0 where
  pub spans : Spans S forks
  pub sound : Sound S g
  pub line : ℕ
  pub its_top : top S line ≡ b
  pub its_low : low S line ≡ l
  pub other : ℕ
  pub other_top : top S other ≡ c
  pub other_return : Return S other c
  pub fork : Fork S other line
  pub under : low S other < high S line

-- They are apart where c ends higher than l.
abbrev pub Parted : ℕ → ℕ → ℕ → Forks → Groups → Type 0
Parted b l c forks g' = l < at forks.stop c → Closed (pointed g') c b different

-- The same where c is the top of a line kept with the low k, which may be no lower than x: then nothing is asked of it, and nothing promised.
pub record Beside (S : Tree) (b x l k c : ℕ) (forks : Forks) (g : Groups) : Type 0 where
  pub sound : Sound S g
  pub facing : k < x → Facing S b l c forks g

abbrev pub KeptParted : ℕ → ℕ → ℕ → ℕ → ℕ → Forks → Groups → Type 0
KeptParted b x l k c forks g' = k < x → Parted b l c forks g'

-- The same of the second of the two kept at u.
abbrev pub SecondParted : ℕ → ℕ → ℕ → ℕ → Forks → Pairs → Groups → Type 0
SecondParted b x l u forks pairs g' = KeptParted b x l (kept_at pairs.second u).low (kept_at pairs.second u).top forks g'
