-- Checks one after the other: the first that applies decides.
use Rattle.std.specs.Prelude.{◌⊎◌}

-- Where P holds, A; where it does not, B.
abbrev pub Check : Type 0 → Type 0 → Type 0 → Type 0
Check P A B = (P × A) ⊎ ((P → ⊥) × B)
