-- What functions inside ask of each other. A reader of the calls' statements need not believe any of it.
use Rattle.std.specs.Prelude.{Result, ⊤, Bool, false, cond, not, List, ◌≡◌, ℕ, suc, ◌+◌, ◌-◌, ◌%◌, ◌≤◌, ◌<◌, eqb, get_or, set, length, replicate, take}
use Rattle.laws.specs.Checks.{Check}
use Rattle.laws.specs.Counting.{many}
use Rattle.laws.specs.Tests.{all}
use Rattle.network.specs.Network.{Network, network, Connected}
use Rattle.network.specs.Numbers.{Checked, number_of}
use Rattle.network.specs.declared.Refusal.{Refusal}
use Rattle.network.specs.Inside.{Fit}
use Rattle.network.specs.Marks.{tree, unused}
use Rattle.search.specs.declared.Finds.{Finds}
use Rattle.search.specs.Machine.{State, state, free, run, finished}

-- What every call that needs the tree is given: the number of the network's own refusal, or 0 and the tables of the search.
pub record Search : Type 0 where
  pub number : ℕ
  pub kinds : List ℕ
  pub heights : List ℕ
  pub parents : List ℕ

abbrev pub search_of : ℕ → List ℕ → List ℕ → List ℕ → Search
search_of number kinds heights parents = record { number = number; kinds = kinds; heights = heights; parents = parents }

abbrev pub searched : Network → Search
searched net = search_of 0 (finished net).kind (finished net).height (finished net).parent

-- .. that a result tells of, with the tables that were lent.
abbrev pub search_in : Finds → Result ⊤ Refusal → Search
search_in finds r = search_of (number_of r) finds.kinds finds.heights finds.parents

-- Tables of zeros.
pub record BlankFinds (finds : Finds) : Type 0 where
  pub kinds : finds.kinds ≡ replicate 2048 0
  pub founds : finds.found ≡ replicate 512 0
  pub heights : finds.heights ≡ replicate 512 0
  pub parents : finds.parents ≡ replicate 512 0

-- No line is used, no vertex found.
pub record Cleared (finds : Finds) : Type 0 where
  pub kinds : finds.kinds ≡ replicate 2048 unused
  pub founds : finds.found ≡ replicate 512 0
  pub heights : finds.heights ≡ replicate 512 0
  pub parents : finds.parents ≡ replicate 512 0

-- The state of a search that stands at v.
abbrev pub state_of : ℕ → Finds → State
state_of v finds = state v finds.kinds finds.found finds.heights finds.parents

-- The number alone.
abbrev pub Faulted : ℕ → List ℕ → ℕ → Type 0
Faulted n ends r = Checked n ends false (λ k. r ≡ k) (r ≡ 0)

abbrev pub Explored : ℕ → List ℕ → Search → Type 0
Explored n ends r = Checked n ends false (λ k. r.number ≡ k) (r ≡ searched (network n ends))

-- A half-line is a place in the list of ends; its partner is the other half of the line.
unfoldable pub partner : ℕ → ℕ
partner h = cond (eqb (h % 2) 0) (h + 1) (h - 1)

-- The half-line and its partner stand in the list.
pub record Halved (h : ℕ) (ends : List ℕ) : Type 0 where
  pub half : h < length ends
  pub other_half : partner h < length ends

-- How many vertices are not found, and how many lines are not used.
abbrev pub unfound : ℕ → List ℕ → ℕ
unfound n fs = many 0 (take n fs)

abbrev pub untaken : ℕ → List ℕ → ℕ
untaken m ks = many unused (take m ks)

-- The search may visit the state's vertex.
pub record Ready (net : Network) (s : State) : Type 0 where
  pub kinds_long : length s.kind ≡ 2048
  pub founds_long : length s.found ≡ 512
  pub heights_long : length s.height ≡ 512
  pub parents_long : length s.parent ≡ 512
  pub here : s.at < net.vertices
  pub found_here : get_or s.found s.at 0 ≡ 0 → ⊥
  pub low : get_or s.height s.at 0 + unfound 512 s.found < 512

-- `enter` may go up line k from v to w.
pub record Enterable (v w k : ℕ) (ks fs hs ps : List ℕ) : Type 0 where
  pub kinds_long : length ks ≡ 2048
  pub founds_long : length fs ≡ 512
  pub heights_long : length hs ≡ 512
  pub parents_long : length ps ≡ 512
  pub from_in : v < 512
  pub to_in : w < 512
  pub line_in : k < 2048
  pub low : get_or hs v 0 < 512
  pub line_unused : get_or ks k 0 ≡ unused
  pub to_new : get_or fs w 0 ≡ 0

-- `enter` has gone up line k from v to w.
pub record Entered (v w k : ℕ) (ks fs hs ps ks' fs' hs' ps' : List ℕ) : Type 0 where
  pub kinds : ks' ≡ set ks k tree
  pub founds : fs' ≡ set fs w 1
  pub heights : hs' ≡ set hs w (get_or hs v 0 + 1)
  pub parents : ps' ≡ set ps w k
  pub fewer_vertices : suc (unfound 512 fs') ≡ unfound 512 fs
  pub fewer_lines : suc (untaken 2048 ks') ≡ untaken 2048 ks

-- Steps of the machine lead from s to t, which has no free line at its vertex.
pub record Visited (net : Network) (s t : State) : Type 0 where
  pub steps : ℕ
  pub runs : run net steps s ≡ t
  pub stuck : (k : ℕ) → k < net.lines → free net.ends t.kind t.at k ≡ false
  pub fewer_vertices : unfound 512 t.found ≤ unfound 512 s.found
  pub fewer_lines : untaken 2048 t.kind ≤ untaken 2048 s.kind

-- How many vertices there are no parameter tells: what is asked holds for some number; what is promised holds for each for which it was asked.
pub record SomeCount (Asked : ℕ → Type 0) : Type 0 where
  pub count : ℕ
  pub asked : Asked count

abbrev pub EachCount : (ℕ → Type 0) → (ℕ → Type 0) → Type 0
EachCount Asked Promised = (n : ℕ) → Asked n → Promised n

pub record Visitable (n : ℕ) (ends : List ℕ) (s : State) : Type 0 where
  pub fit : Fit (network n ends)
  pub ready : Ready (network n ends) s

-- Every vertex is found.
unfoldable pub everyone : ℕ → List ℕ → Bool
everyone n fs = all (λ v. not (eqb (get_or fs v 0) 0)) n

-- The search has come to its end: 0 and its tables where the network is connected, else 6.
abbrev pub Ended : Network → Search → Type 0
Ended net r = Check (Connected net) (r ≡ searched net) (r.number ≡ 6)
