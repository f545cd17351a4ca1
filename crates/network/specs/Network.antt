-- A network: its vertices, its lines, the paths along them. (docs/RULES.md, "Networks".)
use Rattle.std.specs.Prelude.{Bool, true, cond, List, ◌≡◌, ℕ, ◌+◌, ◌*◌, ◌/◌, ◌<◌, eqb, get_or, length}
use Rattle.laws.specs.Tests.{both, either}

-- So many vertices, so many lines, and two ends for each line, one after the other.
pub record Network : Type 0 where
  pub vertices : ℕ
  pub lines : ℕ
  pub ends : List ℕ

abbrev pub network_of : ℕ → ℕ → List ℕ → Network
network_of n m ends = record { vertices = n; lines = m; ends = ends }

-- The network of a vertex count and a list of ends.
abbrev pub network : ℕ → List ℕ → Network
network n ends = network_of n (length ends / 2) ends

-- The first and the second end of line k.
abbrev pub first : List ℕ → ℕ → ℕ
first ends k = get_or ends (2 * k) 0

abbrev pub second : List ℕ → ℕ → ℕ
second ends k = get_or ends (2 * k + 1) 0

-- v is an end of line k.
unfoldable pub touches : List ℕ → ℕ → ℕ → Bool
touches ends v k = either (eqb (first ends k) v) (eqb (second ends k) v)

-- The end of line k that is not v.
unfoldable pub other : List ℕ → ℕ → ℕ → ℕ
other ends v k = cond (eqb (first ends k) v) (second ends k) (first ends k)

-- Line k joins u and v, in either order.
unfoldable pub joins : List ℕ → ℕ → ℕ → ℕ → Bool
joins ends k u v = either (both (eqb (first ends k) u) (eqb (second ends k) v)) (both (eqb (first ends k) v) (eqb (second ends k) u))

-- A path from one vertex to another: none but itself, or a line and a path from its other end.
pub data Path (net : Network) : ℕ → ℕ → Type 0 where
  here : {v : ℕ} → Path net v v
  along : {u v w : ℕ} (k : ℕ) → k < net.lines → joins net.ends k u v ≡ true → Path net v w → Path net u w

-- Any two vertices have a path between them.
abbrev pub Connected : Network → Type 0
Connected net = (u v : ℕ) → u < net.vertices → v < net.vertices → Path net u v
