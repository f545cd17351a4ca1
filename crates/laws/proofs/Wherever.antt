-- Where one test passes, another does: `either (not a) b` read as an implication.
use mathlib.Core.Bool.{Bool, true, not}
use mathlib.Core.Path.{◌≡◌, ap}
use Rattle.laws.specs.Tests.{either}
use Rattle.laws.proofs.Cases.{cases, bool, true_false}
use Rattle.laws.proofs.Tests.{either_first, either_second, either_of}

pub implies_of : {a b : Bool} → either (not a) b ≡ true → a ≡ true → b ≡ true
implies_of e t = cases (either_of e) (λ f. true_false f (ap not t)) (λ q. q)

pub implies_yes : (a b : Bool) → (a ≡ true → b ≡ true) → either (not a) b ≡ true
implies_yes a b f = cases (bool a) (λ t. either_second (not a) b (f t)) (λ n. either_first (not a) b (ap not n))
