-- What the C functions say leaves no freedom but that of the ring: two results that a function's statement allows, the number together with the
-- buffers, are equal, and two of first are, or both show a ring. The answers that are read out of the two numbers are two results of the call.
use mathlib.Core.List.{List}
use mathlib.Core.Logic.{◌⊎◌, inl, inr}
use mathlib.Core.Path.{◌≡◌}
use Prim.Native.Nat.{ℕ}
use Rattle.laws.proofs.Cases.{cases}
use Rattle.network.specs.Network.{Network, network}
use Rattle.search.proofs.Calls.{orient_once}
use Rattle.text.proofs.Calls.{read_once, write_once}
use Rattle.drawing.proofs.Once.{draw_once}
use Rattle.runs.proofs.Tight.{BothRinged, first_choice_once, next_choice_once}
use Rattle.cornetariel.specs.Face.{unpack, OrientC, FirstC, NextC, DrawC, ReadC, WriteC}
use Rattle.cornetariel.proofs.Unpacking.{read_out, one_number}

-- The numbers and the buffers are equal, or both numbers say 7 and each shows a ring.
abbrev pub AlikeC : Network → List ℕ → ℕ → ℕ → List ℕ → List ℕ → List ℕ → List ℕ → List ℕ → List ℕ → Type 0
AlikeC net choice r r' c c' l l' k k' = ((r ≡ r') × (c ≡ c') × (l ≡ l') × (k ≡ k')) ⊎ BothRinged net choice (unpack r) (unpack r') c c' l l' k k'

module _ (n : ℕ) (ends : List ℕ) (r r' : ℕ) where
  pub orient_packed_once : (ks hs ks' ks'' hs' hs'' : List ℕ) → OrientC n ends ks hs r ks' hs' → OrientC n ends ks hs r' ks'' hs''
      → (r ≡ r') × (ks' ≡ ks'') × (hs' ≡ hs'')
  orient_packed_once ks hs ks' ks'' hs' hs'' p q =
      let e = orient_once n ends ks hs (unpack r) (unpack r') ks' ks'' hs' hs'' (read_out p) (read_out q) in
      (one_number r r' e.0, e.1, e.2)

  pub first_packed_once : (choice lines kinds c c' l l' k k' : List ℕ) → FirstC n ends choice lines kinds r c l k → FirstC n ends choice lines kinds r' c' l' k'
      → AlikeC (network n ends) choice r r' c c' l l' k k'
  first_packed_once choice lines kinds c c' l l' k k' p q =
      cases (first_choice_once n ends choice lines kinds (unpack r) (unpack r') c c' l l' k k' (read_out p) (read_out q))
      (λ e. inl (one_number r r' e.0, e.1, e.2, e.3))
      (λ b. inr b)

  pub next_packed_once : (choice c c' : List ℕ) → NextC n ends choice r c → NextC n ends choice r' c' → (r ≡ r') × (c ≡ c')
  next_packed_once choice c c' p q =
      let e = next_choice_once n ends choice (unpack r) (unpack r') c c' (read_out p) (read_out q) in
      (one_number r r' e.0, e.1)

  pub draw_packed_once : (choice order mesh sizes o o' m m' s s' : List ℕ) → DrawC n ends choice order mesh sizes r o m s → DrawC n ends choice order mesh sizes r' o' m' s'
      → (r ≡ r') × (o ≡ o') × (m ≡ m') × (s ≡ s')
  draw_packed_once choice order mesh sizes o o' m m' s s' p q =
      let e = draw_once n ends choice order mesh sizes (unpack r) (unpack r') o o' m m' s s' (read_out p) (read_out q) in
      (one_number r r' e.0, e.1, e.2, e.3)

  pub write_packed_once : (text t t' : List ℕ) → WriteC n ends text r t → WriteC n ends text r' t' → (r ≡ r') × (t ≡ t')
  write_packed_once text t t' p q =
      let e = write_once n ends text (unpack r) (unpack r') t t' (read_out p) (read_out q) in
      (one_number r r' e.0, e.1)

-- Read is given a text, and no network.
pub read_packed_once : (text ends : List ℕ) (r r' : ℕ) (e e' : List ℕ) → ReadC text ends r e → ReadC text ends r' e' → (r ≡ r') × (e ≡ e')
read_packed_once text ends r r' e e' p q =
    let b = read_once text ends (unpack r) (unpack r') e e' (read_out p) (read_out q) in
    (one_number r r' b.0, b.1)
