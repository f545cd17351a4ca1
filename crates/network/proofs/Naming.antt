-- What is named is no mark.
use mathlib.Core.Path.{◌≡◌}
use Prim.Native.Nat.{ℕ, ◌<◌}
use native.Mathlib.Omega.{arith}
use Rattle.network.specs.Marks.{absent}

pub named_some : {h x : ℕ} → (x ≡ h) × (x < absent) → h ≡ absent → ⊥
named_some n e = absurd (omega (arith, n.0, n.1))
