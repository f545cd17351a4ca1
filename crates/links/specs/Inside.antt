-- What functions inside ask of each other. A reader of the calls' statements need not believe any of it.
use Rattle.std.specs.Prelude.{Result, Ok, Err, ⊤, ◌≡◌, ℕ, ◌+◌, ◌%◌, ◌≤◌, ◌<◌}
use Rattle.side.specs.Sides.{code}
use Rattle.tree.specs.Tree.{Tree}
use Rattle.tree.specs.Returns.{backb}
use Rattle.fork.specs.Link.{Link}
use Rattle.groups.specs.Constraints.{Constraints, Even}
use Rattle.groups.specs.Groups.{Tables, Grouped, pointed}
use Rattle.groups.specs.declared.Groups.{Groups}
use Rattle.links.specs.declared.Tear.{Tear}

-- b and d are in one group of the tables, with sides as a constraint of the kind k wants them.
pub record Closed (t : Tables) (b d k : ℕ) : Type 0 where
  pub together : t.leader b ≡ t.leader d
  pub even : Even (t.parity b + t.parity d + k)

-- The links that the tables obey, and tables that are groups under them.
abbrev pub Taken : Tree → Tables → Constraints
Taken S t b d k = Link S b d k × Closed t b d k

abbrev pub Together : Tree → Tables → Type 0
Together S t = Grouped S.lines (backb S) (Taken S t) t

-- The table of groups, whose pointers stand for such tables.
pub record Sound (S : Tree) (g : Groups) : Type 0 where
  pub few : S.lines ≤ 2048
  pub together : Together S (pointed g)

-- What was closed is closed still, link or not.
abbrev pub StillClosed : Tree → Groups → Groups → Type 0
StillClosed S g g' = (b d k : ℕ) → b < S.lines → d < S.lines → Closed (pointed g) b d k → Closed (pointed g') b d k

-- A link that the tables can't obey.
pub record Unkept (S : Tree) (t : Tables) (b d k : ℕ) : Type 0 where
  pub link : Link S b d k
  pub together : t.leader b ≡ t.leader d
  pub odd : (t.parity b + t.parity d + k) % 2 ≡ 1

-- What taking in links came to: `done`, with all that was closed closed still, or a link that can't be obeyed.
pub data Outcome (S : Tree) (g g' : Groups) (done : Type 0) : Result ⊤ Tear → Type 0 where
  obeyed : Sound S g' → StillClosed S g g' → done → Outcome S g g' done (Ok tt)
  unkept : {t : Tear} → Sound S g' → Unkept S (pointed g') t.one t.two (code t.wants) → Outcome S g g' done (Err t)

-- A link that may be taken in.
pub record Tieable (S : Tree) (b d k : ℕ) (g : Groups) : Type 0 where
  pub link : Link S b d k
  pub small : k ≤ 1
  pub sound : Sound S g
