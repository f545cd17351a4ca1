-- What a row of the table says of a network, the calls have to say: by their statements no other result is allowed.
use mathlib.Core.Bool.{false}
use mathlib.Core.List.{List, [], ◌∷◌}
use mathlib.Core.Path.{refl}
use Prim.Native.Nat.{ℕ, zero, suc}
use Rattle.network.specs.Network.{network}
use Rattle.trials.specs.Trials.{Trial, trial, refused_by, granted, ends_of, Every, True, Holds}
use Rattle.trials.specs.Answers.{Said, Answered}
use Rattle.trials.specs.Table.{trials}
use Rattle.trials.proofs.Table.{all_hold}
use Rattle.trials.proofs.Refusing.{refuses}
use Rattle.trials.proofs.Granting.{granted_so, said_of}

every_map : {A : Type 0} (P Q : A → Type 0) → ((x : A) → P x → Q x) → (l : List A) → Every P l → Every Q l
every_map P Q f [] a = tt
every_map P Q f (x ∷ l) a = (f x a.0, every_map P Q f l a.1)

answered_of : (t : Trial) → Holds t → Answered t
answered_of (trial n lines (refused_by k)) h = refuses n (ends_of lines) k h
answered_of (trial n lines (granted claims)) h =
    let net = network n (ends_of lines) in
    let G = Every (True net) claims in
    every_map (True net) (Said n (ends_of lines)) (said_of n (ends_of lines) G h) claims (granted_so n (ends_of lines) G h false (λ j. ⊥) G refl h)

pub all_answered : Every Answered trials
all_answered = every_map Holds Answered answered_of trials all_hold

-- by the row's place in the table
abbrev pub Place : {A : Type 0} → (A → Type 0) → List A → ℕ → Type 0
Place P [] k = Unit {0}
Place P (x ∷ l) zero = P x
Place P (x ∷ l) (suc k) = Place P l k

place : {A : Type 0} (P : A → Type 0) (l : List A) (k : ℕ) → Every P l → Place P l k
place P [] k a = tt
place P (x ∷ l) zero a = a.0
place P (x ∷ l) (suc k) a = place P l k a.1

pub answered : (k : ℕ) → Place Answered trials k
answered k = place Answered trials k all_answered
