-- The first numbers of a table, laid over a buffer: how long it is then.
use mathlib.Core.List.{List}
use mathlib.Core.Path.{◌≡◌}
use Prim.Native.Nat.{ℕ, ◌≤◌}
use native.Mathlib.Omega.{arith}
use lib.ListN.{length, take, drop, length-append, length-drop}
use lib.Seq.{length-take-le}
use Rattle.laws.specs.Lists.{filled}

pub filled_long : (n : ℕ) (table old : List ℕ) → n ≤ length table → n ≤ length old → length (filled n table old) ≡ length old
filled_long n table old h l = omega (arith, length-append (take n table) (drop n old), length-take-le n table h, length-drop n old)
