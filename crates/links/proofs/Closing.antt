-- What is closed stays closed when two groups are joined. Lines with one leader go over together or stay together, and turn alike.
-- And `Closed` is a congruence: a line with itself, turned round, put together with the kinds added.
use mathlib.Core.Path.{refl, sym, ◌∙◌}
use Prim.Native.Nat.{ℕ, ◌<◌}
use native.Mathlib.Omega.{arith}
use Rattle.laws.proofs.Cases.{cases, eq_or}
use Rattle.tree.specs.Tree.{Tree}
use Rattle.groups.specs.Groups.{Tables}
use Rattle.groups.specs.Calls.{Alike, Joined}
use Rattle.groups.specs.declared.Groups.{Groups}
use Rattle.links.specs.Inside.{Closed, StillClosed}

-- A congruence

module _ {t : Tables} where
  pub closed_self : (b : ℕ) → Closed t b b 0
  closed_self b = record { together = refl; even = omega arith }

  pub closed_turned : {b d k : ℕ} → Closed t b d k → Closed t d b k
  closed_turned c = record { together = sym c.together; even = omega (arith, c.even) }

  pub closed_then : {b d e : ℕ} → (k : ℕ) → Closed t b d 0 → Closed t d e k → Closed t b e k
  closed_then k c f = record { together = c.together ∙ f.together; even = omega (arith, c.even, f.even) }

  -- no three lines are apart in pairs
  pub closed_odd : {b d e : ℕ} → Closed t b d 1 → Closed t d e 1 → Closed t b e 1 → ⊥
  closed_odd c d e = omega (arith, c.even, d.even, e.even)

-- Joining

pub closed_alike : {n : ℕ} {t t' : Tables} → Alike n t t' → (x y k : ℕ) → x < n → y < n → Closed t x y k → Closed t' x y k
closed_alike a x y k hx hy c =
    record { together = a.leaders x hx ∙ c.together ∙ sym (a.leaders y hy); even = omega (arith, c.even, a.parities x hx, a.parities y hy) }

-- (J) joining two groups leaves what was closed closed, link or not: two lines with one leader go over together, and turn alike, or both stay
pub closed_joined : {b d kind : ℕ} {t t' : Tables} → Joined 2048 b d kind t t' → (x y k : ℕ) → x < 2048 → y < 2048 → Closed t x y k → Closed t' x y k
closed_joined j x y k hx hy c =
    let g = j.merged.groups in
    cases (eq_or _ j.high)
    (λ e.
    let p = (g.each x hx).moved e in
    let q = (g.each y hy).moved (sym c.together ∙ e) in
    record { together = p.0 ∙ sym q.0; even = omega (arith, c.even, p.1, q.1) })
    (λ n.
    let p = (g.each x hx).stays n in
    let q = (g.each y hy).stays (λ e. n (c.together ∙ e)) in
    record { together = p.0 ∙ c.together ∙ sym q.0; even = omega (arith, c.even, p.1, q.1) })

-- Going on

pub closed_same : (S : Tree) (g : Groups) → StillClosed S g g
closed_same S g b d k hb hd c = c

pub closed_after : (S : Tree) (g h i : Groups) → StillClosed S g h → StillClosed S h i → StillClosed S g i
closed_after S g h i f e b d k hb hd c = e b d k hb hd (f b d k hb hd c)
