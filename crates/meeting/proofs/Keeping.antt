-- The two lines with the least lows, as lines are met: a line pushes down the first, or the second, or neither. By cases on how many are kept.
use mathlib.Core.List.{List}
use mathlib.Core.Logic.{◌⊎◌, inl, inr}
use mathlib.Core.Path.{◌≡◌, sym, ◌∙◌, ap, subst}
use Prim.Native.Nat.{ℕ, ◌≤◌, ◌<◌}
use native.Mathlib.Omega.{arith}
use lib.ListN.{replicate, get_or-replicate}
use Rattle.laws.proofs.Cases.{cases, lt_or}
use Rattle.network.specs.Marks.{absent}
use Rattle.tree.specs.Tree.{Tree}
use Rattle.tree.specs.Returns.{low}
use Rattle.fork.specs.Ends.{top}
use Rattle.fork.specs.declared.Forks.{Forks}
use Rattle.meeting.specs.declared.Kept.{Kept}
use Rattle.meeting.specs.declared.Pairs.{Pairs}
use Rattle.meeting.specs.Inside.{kept, kept_at, Met, KeptLine, TwoLeast, none, one, two, KeptAt, Inserted}

its_low : {k k' : Kept} → k ≡ k' → k.low ≡ k'.low
its_low = ap (λ (k : Kept). k.low)

its_top : {k k' : Kept} → k ≡ k' → k.top ≡ k'.top
its_top = ap (λ (k : Kept). k.top)

-- What is kept goes by what was met

module _ {S : Tree} {forks forks' : Forks} {u : ℕ}
    (up : (h : ℕ) → S.source h ≡ u → Met S forks h → Met S forks' h) (down : (h : ℕ) → S.source h ≡ u → Met S forks' h → Met S forks h) where
  line_same : {l t l' t' f : ℕ} → l' ≡ l → t' ≡ t → KeptLine S forks u l t f → KeptLine S forks' u l' t' f
  line_same {l} {t} {l'} {t'} {f} el et k = record { met = up f k.leaves k.met; leaves = k.leaves; its_low = el ∙ k.its_low; its_top = et ∙ k.its_top }

  same_kept : {l₁ t₁ l₂ t₂ l₁' t₁' l₂' t₂' : ℕ} → l₁' ≡ l₁ → t₁' ≡ t₁ → l₂' ≡ l₂ → t₂' ≡ t₂ → TwoLeast S forks u l₁ t₁ l₂ t₂ → TwoLeast S forks' u l₁' t₁' l₂' t₂'
  same_kept e₁ d₁ e₂ d₂ (none a₁ a₂ n) = none (e₁ ∙ a₁) (e₂ ∙ a₂) (λ h m v. n h (down h v m) v)
  same_kept e₁ d₁ e₂ d₂ (one p k a₂ n) = one p (line_same e₁ d₁ k) (e₂ ∙ a₂) (λ h m v. n h (down h v m) v)
  same_kept e₁ d₁ e₂ d₂ (two p q pq k j le n) =
      two p q pq (line_same e₁ d₁ k) (line_same e₂ d₂ j) (omega arith)
      (λ h m v. cases (n h (down h v m) v) inl (λ w. cases w (λ z. inr (inl z)) (λ o. inr (inr (omega arith)))))

-- Nothing is met: the table says so, where it is filled with the mark for nothing

pub kept_filled : {S : Tree} {forks : Forks} {pairs : Pairs} {u : ℕ} → pairs.first ≡ replicate 512 (kept absent absent) → pairs.second ≡ replicate 512 (kept absent absent)
    → u < 512 → ((h : ℕ) → Met S forks h → S.source h ≡ u → ⊥) → KeptAt S forks pairs u
kept_filled {S} {forks} {pairs} {u} e₁ e₂ h n = none (nothing pairs.first e₁) (nothing pairs.second e₂) n
  where
    nothing : (t : List Kept) → t ≡ replicate 512 (kept absent absent) → (kept_at t u).low ≡ absent
    nothing t e = ap (λ (q : List Kept). (kept_at q u).low) e ∙ ap (λ (q : Kept). q.low) (get_or-replicate 512 u (kept absent absent) (kept 0 0) h)

-- A further line f is met, with the low l and the top b, and no other

pub record Newly (S : Tree) (forks forks' : Forks) (b l u f : ℕ) : Type 0 where
  pub leaves : S.source f ≡ u
  pub its_low : low S f ≡ l
  pub its_top : top S f ≡ b
  pub height : l < 512
  pub unmet : Met S forks f → ⊥
  pub met : Met S forks' f
  pub still : (h : ℕ) → Met S forks h → Met S forks' h
  pub only : (h : ℕ) → Met S forks' h → (h ≡ f) ⊎ Met S forks h

module _ {S : Tree} {forks forks' : Forks} {b l u f : ℕ} (N : Newly S forks forks' b l u f) where
  line_new : {l' t' : ℕ} → l' ≡ l → t' ≡ b → KeptLine S forks' u l' t' f
  line_new e d = record { met = N.met; leaves = N.leaves; its_low = e ∙ sym N.its_low; its_top = d ∙ sym N.its_top }

  line_old : {l₁ t₁ l' t' p : ℕ} → l' ≡ l₁ → t' ≡ t₁ → KeptLine S forks u l₁ t₁ p → KeptLine S forks' u l' t' p
  line_old {l₁} {t₁} {l'} {t'} {p} e d k = record { met = N.still p k.met; leaves = k.leaves; its_low = e ∙ k.its_low; its_top = d ∙ k.its_top }

  not_new : {l₁ t₁ p : ℕ} → KeptLine S forks u l₁ t₁ p → f ≡ p → ⊥
  not_new k e = N.unmet (subst (Met S forks) (sym e) k.met)

  -- its low is below the first: it is the first, and the first is the second
  insert_first : {l₁ t₁ l₂ t₂ l₁' t₁' l₂' t₂' : ℕ} → TwoLeast S forks u l₁ t₁ l₂ t₂ → l < l₁ → l₁' ≡ l → t₁' ≡ b → l₂' ≡ l₁ → t₂' ≡ t₁
      → TwoLeast S forks' u l₁' t₁' l₂' t₂'
  insert_first (none a₁ a₂ n) o e₁ d₁ e₂ d₂ = one f (line_new e₁ d₁) (e₂ ∙ a₁) (λ h m v. cases (N.only h m) (λ z. z) (λ w. absurd (n h w v)))
  insert_first (one p k a₂ n) o e₁ d₁ e₂ d₂ =
      two f p (not_new k) (line_new e₁ d₁) (line_old e₂ d₂ k) (omega arith) (λ h m v. cases (N.only h m) inl (λ w. inr (inl (n h w v))))
  insert_first (two p q pq k j le n) o e₁ d₁ e₂ d₂ =
      two f p (not_new k) (line_new e₁ d₁) (line_old e₂ d₂ k) (omega arith)
      (λ h m v.
      cases (N.only h m) inl
      (λ w.
      cases (n h w v) (λ z. inr (inl z))
      (λ y.
      cases y
      (λ z. inr (inr (let s : low S h ≡ low S q = ap (low S) z in omega (arith, j.its_low))))
      (λ r. inr (inr (omega arith))))))

  -- its low is below the second: it is the second
  insert_second : {l₁ t₁ l₂ t₂ l₁' t₁' l₂' t₂' : ℕ} → TwoLeast S forks u l₁ t₁ l₂ t₂ → l₁ ≤ l → l < l₂ → l₁' ≡ l₁ → t₁' ≡ t₁ → l₂' ≡ l → t₂' ≡ b
      → TwoLeast S forks' u l₁' t₁' l₂' t₂'
  insert_second (none a₁ a₂ n) o o₂ e₁ d₁ e₂ d₂ = absurd (omega (arith, N.height))
  insert_second (one p k a₂ n) o o₂ e₁ d₁ e₂ d₂ =
      two p f (λ z. not_new k (sym z)) (line_old e₁ d₁ k) (line_new e₂ d₂) (omega arith) (λ h m v. cases (N.only h m) (λ z. inr (inl z)) (λ w. inl (n h w v)))
  insert_second (two p q pq k j le n) o o₂ e₁ d₁ e₂ d₂ =
      two p f (λ z. not_new k (sym z)) (line_old e₁ d₁ k) (line_new e₂ d₂) (omega arith)
      (λ h m v.
      cases (N.only h m) (λ z. inr (inl z))
      (λ w.
      cases (n h w v) inl
      (λ y.
      cases y
      (λ z. inr (inr (let s : low S h ≡ low S q = ap (low S) z in omega (arith, j.its_low))))
      (λ r. inr (inr (omega arith))))))

  -- neither: they are as they were
  insert_neither : {l₁ t₁ l₂ t₂ l₁' t₁' l₂' t₂' : ℕ} → TwoLeast S forks u l₁ t₁ l₂ t₂ → l₁ ≤ l → l₂ ≤ l → l₁' ≡ l₁ → t₁' ≡ t₁ → l₂' ≡ l₂ → t₂' ≡ t₂
      → TwoLeast S forks' u l₁' t₁' l₂' t₂'
  insert_neither (none a₁ a₂ n) o o₂ e₁ d₁ e₂ d₂ = absurd (omega (arith, N.height))
  insert_neither (one p k a₂ n) o o₂ e₁ d₁ e₂ d₂ = absurd (omega (arith, N.height))
  insert_neither (two p q pq k j le n) o o₂ e₁ d₁ e₂ d₂ =
      two p q pq (line_old e₁ d₁ k) (line_old e₂ d₂ j) (omega arith)
      (λ h m v.
      cases (N.only h m)
      (λ z. inr (inr (let s : low S h ≡ low S f = ap (low S) z in omega (arith, N.its_low))))
      (λ w. cases (n h w v) inl (λ y. cases y (λ z. inr (inl z)) (λ r. inr (inr (omega arith))))))

  module _ {pairs pairs' : Pairs} (i : Inserted b l u pairs pairs') where
    pub kept_more : KeptAt S forks pairs u → KeptAt S forks' pairs' u
    kept_more k =
        cases (lt_or l (kept_at pairs.first u).low)
        (λ o. let e = i.first o in insert_first k o (its_low e.0) (its_top e.0) (its_low e.1) (its_top e.1))
        (λ o.
        cases (lt_or l (kept_at pairs.second u).low)
        (λ o₂. let e = i.second o o₂ in insert_second k o o₂ (its_low e.0) (its_top e.0) (its_low e.1) (its_top e.1))
        (λ o₂. let e = i.neither o o₂ in insert_neither k o o₂ (its_low e.first) (its_top e.first) (its_low e.second) (its_top e.second)))

    -- at another vertex nothing changes
    pub kept_elsewhere : {v : ℕ} → v < 512 → (v ≡ u → ⊥) → KeptAt S forks pairs v → KeptAt S forks' pairs' v
    kept_elsewhere {v} h d k =
        let e = i.elsewhere v h d in
        same_kept (λ j _. N.still j) (λ j w m. cases (N.only j m) (λ z. absurd (d (sym w ∙ ap S.source z ∙ N.leaves))) (λ q. q))
        (its_low e.first) (its_top e.first) (its_low e.second) (its_top e.second) k
