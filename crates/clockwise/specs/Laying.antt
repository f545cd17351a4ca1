-- The order written down from fans and groups of lines. (What functions inside ask of each other.)
use Rattle.std.specs.Prelude.{cond, List, [], ◌∷◌, ◌++◌, ◌≡◌, ℕ, ◌+◌, ◌*◌, ◌≤◌, ◌<◌, eqb, get_or, length, replicate, take}
use Rattle.laws.specs.Lists.{upto}
use Rattle.laws.specs.Sorting.{gather}
use Rattle.side.specs.Sides.{left, right}
use Rattle.network.specs.Marks.{absent}
use Rattle.fans.specs.declared.chains.Chains.{Chains}
use Rattle.fans.specs.declared.rows.Row.{Row}
use Rattle.fans.specs.Chains.{list_in, ListsChained, BlankRow}
use Rattle.clockwise.specs.declared.Order.{Order}

-- A line with its company: beside a tree line stand the two groups of the vertex above it.
abbrev pub item_in : List ℕ → Chains → ℕ → List ℕ
item_in uppers groups e =
    cond (eqb (get_or uppers e 0) absent) (e ∷ []) (list_in groups (2 * get_or uppers e 0 + left) ++ (e ∷ list_in groups (2 * get_or uppers e 0 + right)))

-- What stands in the table of upper vertices is a vertex or the mark for nothing.
abbrev pub Upper : List ℕ → ℕ → Type 0
Upper uppers e = (get_or uppers e 0 ≡ absent → ⊥) → get_or uppers e 0 < 512

pub record Besides (e : ℕ) (uppers : List ℕ) (groups : Chains) (order : Row) : Type 0 where
  pub line_in : e < 2048
  pub upper : Upper uppers e
  pub grouped : ListsChained groups (list_in groups)
  pub room : order.count + length (item_in uppers groups e) ≤ 4096
  pub order_long : length order.lines ≡ 4096

-- The lines of a fan, each with its groups.
abbrev pub spread_in : List ℕ → Chains → Chains → ℕ → List ℕ
spread_in uppers fans groups v = gather (item_in uppers groups) (list_in fans v)

pub record Spreads (v : ℕ) (uppers : List ℕ) (fans groups : Chains) (order : Row) : Type 0 where
  pub vertex_in : v < 512
  pub upper : (e : ℕ) → e < 2048 → Upper uppers e
  pub fanned : ListsChained fans (list_in fans)
  pub grouped : ListsChained groups (list_in groups)
  pub room : order.count + length (spread_in uppers fans groups v) ≤ 4096
  pub order_long : length order.lines ≡ 4096

-- The line from the parent. (The root is vertex 0.)
abbrev pub first_in : List ℕ → ℕ → List ℕ
first_in parents v = cond (eqb v 0) [] (get_or parents v 0 ∷ [])

pub record Begins (v : ℕ) (parents : List ℕ) (order : Row) : Type 0 where
  pub vertex_in : v < 512
  pub room : order.count + length (first_in parents v) ≤ 4096
  pub order_long : length order.lines ≡ 4096

-- All lines at v.
abbrev pub lines_at : List ℕ → List ℕ → Chains → Chains → ℕ → List ℕ
lines_at parents uppers fans groups v = first_in parents v ++ spread_in uppers fans groups v

pub record Layable (n : ℕ) (parents uppers : List ℕ) (fans groups : Chains) : Type 0 where
  pub few : n ≤ 512
  pub upper : (e : ℕ) → e < 2048 → Upper uppers e
  pub fanned : ListsChained fans (list_in fans)
  pub grouped : ListsChained groups (list_in groups)
  pub room : length (gather (lines_at parents uppers fans groups) (upto n)) ≤ 4096

-- Nothing is written yet.
pub record Unlaid (order : Order) : Type 0 where
  pub row : BlankRow order.row
  pub starts : order.starts ≡ replicate 513 0

-- No place is missing.
pub record LongOrder (order : Order) : Type 0 where
  pub lines : length order.row.lines ≡ 4096
  pub starts : length order.starts ≡ 513

-- The lists of the first n vertices stand one after the other, and it is known where each begins.
pub record LaidOut (n : ℕ) (list : ℕ → List ℕ) (order starts : List ℕ) : Type 0 where
  pub order_long : length order ≡ 4096
  pub starts_long : length starts ≡ 513
  pub written : take (length (gather list (upto n))) order ≡ gather list (upto n)
  pub starts_at : (v : ℕ) → v ≤ n → get_or starts v 0 ≡ length (gather list (upto v))
