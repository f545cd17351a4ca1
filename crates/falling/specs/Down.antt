-- What holds while the back lines come down, by falling ends. (What functions inside ask of each other.)
--
-- The place of the walk is a pair x, b: it has taken the back lines that end higher than x, and those that end at x and have lower numbers than b. While b
-- comes down, it has passed the tree lines whose upper ends are higher than h.
use Rattle.std.specs.Prelude.{List, ◌⊎◌, ◌≡◌, ℕ, suc, ◌≤◌, ◌<◌, set}
use Rattle.laws.specs.Lists.{at}
use Rattle.network.specs.Marks.{absent}
use Rattle.side.specs.Sides.{same, different}
use Rattle.tree.specs.Tree.{Tree}
use Rattle.tree.specs.Returns.{end}
use Rattle.tree.specs.Words.{TreeLine, BackLine, Return, Above}
use Rattle.fork.specs.Ends.{high, top}
use Rattle.fork.specs.Link.{rival, Held, Overlap}
use Rattle.fork.specs.Inside.{Finished, Heights, Parents, LongForks, Spans, Lows}
use Rattle.fork.specs.declared.Forks.{Forks}
use Rattle.spans.specs.Inside.{LongJumps}
use Rattle.spans.specs.declared.Jumps.{Jumps}
use Rattle.groups.specs.Groups.{pointed}
use Rattle.groups.specs.declared.Groups.{Groups}
use Rattle.links.specs.Inside.{Closed, Sound}
use Rattle.meeting.specs.declared.Pairs.{Pairs}
use Rattle.meeting.specs.Inside.{Met, KeptAt, ApartAt, LongPairs}

-- c was taken before x, b.
abbrev pub FallsBefore : Tree → ℕ → ℕ → ℕ → Type 0
FallsBefore S x b c = (x < end S c) ⊎ ((end S c ≡ x) × (c < b))

-- c has passed the tree line f, if it is a return of it: it was taken before, or it is b, which has come down to the height h.
abbrev pub Overtook : Tree → ℕ → ℕ → ℕ → ℕ → ℕ → Type 0
Overtook S x b h f c = FallsBefore S x b c ⊎ ((c ≡ b) × (h < S.height (S.target f)))

-- A tree line that some return has passed has its top, which was the first to pass it, and how high that ends. One that none has passed has nothing yet.
pub record Worn (S : Tree) (x b h : ℕ) (forks : Forks) (f : ℕ) : Type 0 where
  pub named : at forks.top f ≡ top S f
  pub height : at forks.high f ≡ high S f
  pub return : Return S f (top S f)
  pub past : Overtook S x b h f (top S f)

pub record Bare (S : Tree) (x b h : ℕ) (forks : Forks) (f : ℕ) : Type 0 where
  pub unnamed : at forks.top f ≡ S.lines
  pub height : at forks.high f ≡ 0
  pub unpassed : (c : ℕ) → Return S f c → Overtook S x b h f c → ⊥

-- A stretch: the vertices from v down to where u is the next, each standing for the tree line up to it. All these lines were passed; r is the least of
-- their rivals, and t the top of one that has it; and the tops of those that still hold what ends at x or lower are tied to t.
pub record Joint (S : Tree) (x : ℕ) (forks : Forks) (g : Groups) (r t w : ℕ) : Type 0 where
  pub met : Met S forks (S.parent w)
  pub no_less : r ≤ rival S (S.parent w)
  pub tied : rival S (S.parent w) < x → Closed (pointed g) (top S (S.parent w)) t same

pub record Stretch (S : Tree) (x : ℕ) (forks : Forks) (g : Groups) (v u r t : ℕ) : Type 0 where
  pub inside : u < S.vertices
  pub below : Above S u v
  pub lower : S.height u < S.height v
  pub line : t < S.lines
  pub each : (w : ℕ) → w < S.vertices → Above S w v → S.height u < S.height w → Joint S x forks g r t w
  pub place : ℕ
  pub place_in : place < S.vertices
  pub place_on : Above S place v
  pub place_over : S.height u < S.height place
  pub place_rival : rival S (S.parent place) ≡ r
  pub place_top : top S (S.parent place) ≡ t

-- What the table of jumps has at v: where nothing has passed the line up to v, the vertex below, the line's rival and no top; else a stretch.
pub record IdleJump (S : Tree) (forks : Forks) (v u r t : ℕ) : Type 0 where
  pub unheld : t ≡ absent
  pub next : u ≡ S.source (S.parent v)
  pub rival_is : r ≡ rival S (S.parent v)
  pub unmet : Met S forks (S.parent v) → ⊥

abbrev pub Segment : Tree → ℕ → Jumps → Forks → Groups → ℕ → Type 0
Segment S x jumps forks g v =
    IdleJump S forks v (at jumps.onward v) (at jumps.least v) (at jumps.held v) ⊎ Stretch S x forks g v (at jumps.onward v) (at jumps.least v) (at jumps.held v)

-- The state of the walk: it has come to x, b, and b down to the height h; the lines before x, o have been held against the forks that they leave.
pub record Midway (S : Tree) (x b h o : ℕ) (jumps : Jumps) (pairs : Pairs) (forks : Forks) (g : Groups) : Type 0 where
  -- the tables, and what in them is as it was
  pub finished : Finished S
  pub spans : Spans S forks
  pub lows : Lows S forks
  pub jumps_long : LongJumps jumps
  pub pairs_long : LongPairs pairs
  pub back_highs : (c : ℕ) → BackLine S c → at forks.high c ≡ end S c
  pub back_tops : (c : ℕ) → BackLine S c → at forks.top c ≡ c
  -- which tree lines have their tops; what the jumps go over
  pub crowns : (f : ℕ) → TreeLine S f → Worn S x b h forks f ⊎ Bare S x b h forks f
  pub segments : (v : ℕ) → v < S.vertices → 0 < S.height v → Segment S x jumps forks g v
  -- whatever has passed a tree line that holds it is tied to the line's top
  pub held : (f c : ℕ) → TreeLine S f → Overtook S x b h f c → Held S f c → Closed (pointed g) c (top S f) same
  -- what was met at each vertex: the two with the least lows; those that overlap are apart, tree lines from each other and from back lines
  pub kept : (u : ℕ) → u < S.vertices → KeptAt S forks pairs u
  pub apart : (u : ℕ) → u < S.vertices → ApartAt S forks g u
  pub beside : (f c : ℕ) → Met S forks f → BackLine S c → FallsBefore S x o c → S.source f ≡ S.source c → Overlap S f c
      → Closed (pointed g) (top S f) c different
  pub sound : Sound S g

-- The turn of b has come; nothing of its way down is done. (512 is no height.)
pub record Coming (S : Tree) (b x : ℕ) (heights parents : List ℕ) (jumps : Jumps) (pairs : Pairs) (forks : Forks) (g : Groups) : Type 0 where
  pub each_height : Heights S heights
  pub each_parent : Parents S parents
  pub back_line : BackLine S b
  pub its_end : end S b ≡ x
  pub state : Midway S x b 512 b jumps pairs forks g

-- .. b has been held against its fork.
pub record Sinking (S : Tree) (b x : ℕ) (heights parents : List ℕ) (jumps : Jumps) (pairs : Pairs) (forks : Forks) (g : Groups) : Type 0 where
  pub each_height : Heights S heights
  pub each_parent : Parents S parents
  pub back_line : BackLine S b
  pub its_end : end S b ≡ x
  pub state : Midway S x b 512 (suc b) jumps pairs forks g

-- .. it has come down to v, and is a return of the line up to v.
pub record Landing (S : Tree) (b x v : ℕ) (parents : List ℕ) (jumps : Jumps) (pairs : Pairs) (forks : Forks) (g : Groups) : Type 0 where
  pub each_parent : Parents S parents
  pub back_line : BackLine S b
  pub its_end : end S b ≡ x
  pub inside : v < S.vertices
  pub on_way : Above S v (S.source b)
  pub over : suc x < S.height v
  pub state : Midway S x b (S.height v) (suc b) jumps pairs forks g

-- It has passed all from v down to where the jump goes. Where jumps go is as it was.
pub record Passed (S : Tree) (b x v : ℕ) (jumps jumps' : Jumps) (pairs' : Pairs) (forks' : Forks) (g' : Groups) : Type 0 where
  pub state : Midway S x b (S.height (at jumps.onward v)) (suc b) jumps' pairs' forks' g'
  pub onwards : (w : ℕ) → w < 512 → at jumps'.onward w ≡ at jumps.onward w

-- The line f up to v is given its top.
pub record Crowned (b x f v : ℕ) (forks forks' : Forks) (jumps jumps' : Jumps) : Type 0 where
  pub forks_are : forks' ≡ record forks { high = set forks.high f x; top = set forks.top f b }
  pub jumps_are : jumps' ≡ record jumps { held = set jumps.held v b }

-- .. its line, vertex and top are places of the tables.
pub record Markable (b f v : ℕ) (forks : Forks) (jumps : Jumps) : Type 0 where
  pub top : b < 2048
  pub line : f < 2048
  pub vertex : v < 512
  pub forks_long : LongForks forks
  pub jumps_long : LongJumps jumps

-- The jump from p goes on to where that from v goes, and p has what has the lesser rival of the two.
pub record Extended (p v : ℕ) (jumps jumps' : Jumps) : Type 0 where
  pub long : LongJumps jumps'
  pub onward : at jumps'.onward p ≡ at jumps.onward v
  pub less : at jumps.least v < at jumps.least p → (at jumps'.least p ≡ at jumps.least v) × (at jumps'.held p ≡ at jumps.held v)
  pub no_less : at jumps.least p ≤ at jumps.least v → (at jumps'.least p ≡ at jumps.least p) × (at jumps'.held p ≡ at jumps.held p)
  pub elsewhere : (w : ℕ) → w < 512 → (w ≡ p → ⊥)
      → (at jumps'.onward w ≡ at jumps.onward w) × (at jumps'.least w ≡ at jumps.least w) × (at jumps'.held w ≡ at jumps.held w)

-- .. both are places of the table.
pub record Placed (p v : ℕ) (jumps : Jumps) : Type 0 where
  pub long : LongJumps jumps
  pub first : p < 512
  pub second : v < 512

-- .. the jump from s, and then perhaps the one from p.
pub record Lengthened (s p v : ℕ) (jumps jumps' : Jumps) : Type 0 where
  pub between : Jumps
  pub first : Extended s v jumps between
  pub second : (jumps' ≡ between) ⊎ Extended p v between jumps'
