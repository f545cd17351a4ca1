-- A check decides one way only: whatever follows from two like outcomes follows from two results of one check; and a check of the same, said otherwise, has
-- the same outcome.
use mathlib.Core.Logic.{inl, inr}
use Rattle.laws.specs.Checks.{Check}

pub check_once : {P A A' B B' C : Type 0} → (A → A' → C) → (B → B' → C) → Check P A B → Check P A' B' → C
check_once f g (inl (p, a)) (inl (p', a')) = f a a'
check_once f g (inl (p, a)) (inr (n, b)) = absurd (n p)
check_once f g (inr (n, b)) (inl (p, a)) = absurd (n p)
check_once f g (inr (n, b)) (inr (n', b')) = g b b'

pub check_map : {P P' A A' B B' : Type 0} → (P → P') → (P' → P) → (P → A → A') → ((P → ⊥) → B → B') → Check P A B → Check P' A' B'
check_map to fro f g (inl (p, a)) = inl (to p, f p a)
check_map to fro f g (inr (d, b)) = inr (λ p. d (fro p), g d b)
