-- Pointers. Each line points to a lower line of its group or to itself, and has a turn against that line. Four laws: following the pointers ends, at
-- one leader with one turn (U1); a pointer drawn past the line that it leads to changes neither (U2); a leader pointed to another takes its whole group
-- along (U3); a pass that rises makes the pointers flat (U4).
--
-- The idea: leaders and parities that go along with the pointers step by step are determined by them. So to know what changed pointers stand for it
-- is enough to look at the lines where they changed.
use mathlib.Core.Logic.{◌≢◌}
use mathlib.Core.Path.{◌≡◌, refl, sym, ◌∙◌, ap}
use Prim.Native.Nat.{ℕ, zero, suc, ◌+◌, ◌%◌, ◌≤◌, ◌<◌}
use native.Mathlib.Omega.{arith}
use lib.ListN.{replicate, length-replicate, get_or-replicate}
use borrow.Author.Tests.{eq-eqb, ne_eqb}
use Rattle.laws.specs.Lists.{at}
use Rattle.laws.proofs.Cases.{cases, eq_or}
use Rattle.groups.specs.Constraints.{Even}
use Rattle.groups.specs.Groups.{root, facing, columns, pointed, PutBelow, Relabel, Relabelled}
use Rattle.groups.specs.Pointers.{Long, PointsDown, OwnSide}
use Rattle.groups.specs.Calls.{Pointing}
use Rattle.groups.specs.declared.Groups.{Groups}

-- No pointer of the first n leads up.
abbrev pub Down : ℕ → (ℕ → ℕ) → Type 0
Down n up = (x : ℕ) → x < n → up x ≤ x

-- Leaders and parities that go along with the pointers and the turns: what these stand for.
pub record StandsFor (n : ℕ) (up entry leader parity : ℕ → ℕ) : Type 0 where
  pub here : (x : ℕ) → x < n → up x ≡ x → (leader x ≡ x) × (parity x ≡ entry x)
  pub onward : (x : ℕ) → x < n → (up x ≡ x → ⊥) → (leader x ≡ leader (up x)) × (parity x ≡ (entry x + parity (up x)) % 2)

-- (U1) Following the pointers ends: with each step that is one the number falls, so that x steps from x are enough, and more are too.

module _ (up entry : ℕ → ℕ) where
  root_none : (x : ℕ) → root up 0 x ≡ x
  unfolding root
  root_none x = refl

  root_step : (n x : ℕ) → root up (suc n) x ≡ root up n (up x)
  unfolding root
  root_step n x = refl

  facing_none : (x : ℕ) → facing up entry 0 x ≡ entry x
  unfolding facing
  facing_none x = refl

  facing_here : (n x : ℕ) → up x ≡ x → facing up entry (suc n) x ≡ entry x
  unfolding facing
  facing_here n x e = rw (eq-eqb (up x) x e)

  facing_step : (n x : ℕ) → (up x ≡ x → ⊥) → facing up entry (suc n) x ≡ (entry x + facing up entry n (up x)) % 2
  unfolding facing
  facing_step n x d = rw (ne_eqb (up x) x d)

  root_stays : (n x : ℕ) → up x ≡ x → root up n x ≡ x
  root_stays zero x e = root_none x
  root_stays (suc n) x e = root_step n x ∙ ap (root up n) e ∙ root_stays n x e

  facing_stays : (n x : ℕ) → up x ≡ x → facing up entry n x ≡ entry x
  facing_stays zero x e = facing_none x
  facing_stays (suc n) x e = facing_here n x e

  module _ (n : ℕ) (down : Down n up) where
    root_enough : (i j x : ℕ) → x < n → x ≤ i → x ≤ j → root up i x ≡ root up j x
    root_enough zero j x h k l = let e : up x ≡ x = omega (arith, down x h) in root_stays zero x e ∙ sym (root_stays j x e)
    root_enough (suc i) zero x h k l = let e : up x ≡ x = omega (arith, down x h) in root_stays (suc i) x e ∙ sym (root_stays zero x e)
    root_enough (suc i) (suc j) x h k l =
        cases (eq_or (up x) x)
        (λ e. root_stays (suc i) x e ∙ sym (root_stays (suc j) x e))
        (λ d.
        let d' : up x ≢ x = d in
        let o : up x < x = omega (arith, down x h) in
        root_step i x ∙ root_enough i j (up x) (omega arith) (omega arith) (omega arith) ∙ sym (root_step j x))

    facing_enough : (i j x : ℕ) → x < n → x ≤ i → x ≤ j → facing up entry i x ≡ facing up entry j x
    facing_enough zero j x h k l = let e : up x ≡ x = omega (arith, down x h) in facing_stays zero x e ∙ sym (facing_stays j x e)
    facing_enough (suc i) zero x h k l = let e : up x ≡ x = omega (arith, down x h) in facing_stays (suc i) x e ∙ sym (facing_stays zero x e)
    facing_enough (suc i) (suc j) x h k l =
        cases (eq_or (up x) x)
        (λ e. facing_stays (suc i) x e ∙ sym (facing_stays (suc j) x e))
        (λ d.
        let d' : up x ≢ x = d in
        let o : up x < x = omega (arith, down x h) in
        facing_step i x d ∙ ap (λ (z : ℕ). (entry x + z) % 2) (facing_enough i j (up x) (omega arith) (omega arith) (omega arith)) ∙ sym (facing_step j x d))

    -- One step on, there is one step less to go.
    by_steps : StandsFor n up entry (λ x. root up x x) (λ x. facing up entry x x)
    by_steps = record { here = λ x h e. (root_stays x x e, facing_stays x x e); onward = on }
      where
        on : (x : ℕ) → x < n → (up x ≡ x → ⊥)
            → (root up x x ≡ root up (up x) (up x)) × (facing up entry x x ≡ (entry x + facing up entry (up x) (up x)) % 2)
        on zero h d = let d' : up 0 ≢ 0 = d in absurd (omega (arith, down 0 h))
        on (suc x) h d =
            let d' : up (suc x) ≢ suc x = d in
            let o : up (suc x) ≤ x = omega (arith, down (suc x) h) in (
              root_step x (suc x) ∙ root_enough x (up (suc x)) (up (suc x)) (omega arith) o (omega arith),
              facing_step x (suc x) d ∙ ap (λ (z : ℕ). (entry (suc x) + z) % 2) (facing_enough x (up (suc x)) (up (suc x)) (omega arith) o (omega arith)),
            )

-- In a table of zeros each line points to line 0.

pub zeros_long : Long (replicate {A = ℕ} 2048 0) (replicate {A = ℕ} 2048 0) (replicate {A = ℕ} 2048 0) (replicate {A = ℕ} 2048 0)
zeros_long = let long = length-replicate {A = ℕ} 2048 0 in (long, long, long, long)

pub zeros_down : PointsDown (replicate {A = ℕ} 2048 0)
zeros_down x h = omega (arith, get_or-replicate {A = ℕ} 2048 x 0 0 h)

pub zeros_own : OwnSide (replicate {A = ℕ} 2048 0) (replicate {A = ℕ} 2048 0)
zeros_own x h e = omega (arith, get_or-replicate {A = ℕ} 2048 x 0 0 h)

-- What every table keeps to, and what its pointers stand for.

pub pointing : (g : Groups) → Pointing g
pointing g = record { long = g.long; down = g.down; own = g.own }

pub pointed_stands : (g : Groups) → StandsFor 2048 (columns g).leader (columns g).parity (pointed g).leader (pointed g).parity
unfolding pointed
pointed_stands g = by_steps (columns g).leader (columns g).parity 2048 g.down

-- the other two columns are what they stand for
pub from_pointed : (g : Groups) (x : ℕ) → (pointed g).from x ≡ at g.from x
unfolding pointed
from_pointed g x = refl

pub to_pointed : (g : Groups) (x : ℕ) → (pointed g).to x ≡ at g.to x
unfolding pointed
to_pointed g x = refl

-- No line is below its leader, and one that leads itself points to itself.
module _ {n : ℕ} {up entry leader parity : ℕ → ℕ} (down : Down n up) (f : StandsFor n up entry leader parity) where
  pub leader_low : (x : ℕ) → x < n → leader x ≤ up x
  leader_low x h = below (suc x) x (omega arith) h
    where
      below : (i x : ℕ) → x < i → x < n → leader x ≤ up x
      below zero x k h = absurd (omega arith)
      below (suc i) x k h =
          cases (eq_or (up x) x)
          (λ e. omega (arith, (f.here x h e).0))
          (λ d.
          let d' : up x ≢ x = d in
          let o : up x < x = omega (arith, down x h) in
          let w : up x < n = omega arith in
          omega (arith, (f.onward x h d).0, below i (up x) (omega arith) w, down (up x) w))

  pub leads_points : (x : ℕ) → x < n → leader x ≡ x → up x ≡ x
  leads_points x h e = omega (arith, leader_low x h, down x h)

-- What goes along with the pointers is determined by them.
module _ {n : ℕ} {up entry leader parity leader' parity' : ℕ → ℕ} (down : Down n up) (f : StandsFor n up entry leader parity)
    (f' : StandsFor n up entry leader' parity') where
  pub one_stands : (x : ℕ) → x < n → (leader x ≡ leader' x) × (parity x ≡ parity' x)
  one_stands x h = below (suc x) x (omega arith) h
    where
      below : (i x : ℕ) → x < i → x < n → (leader x ≡ leader' x) × (parity x ≡ parity' x)
      below zero x k h = absurd (omega arith)
      below (suc i) x k h =
          cases (eq_or (up x) x)
          (λ e. let p = f.here x h e in let p' = f'.here x h e in (p.0 ∙ sym p'.0, p.1 ∙ sym p'.1))
          (λ d.
          let d' : up x ≢ x = d in
          let o : up x < x = omega (arith, down x h) in
          let p = f.onward x h d in
          let p' = f'.onward x h d in
          let q = below i (up x) (omega arith) (omega arith) in
          (p.0 ∙ q.0 ∙ sym p'.0, omega (arith, p.1, p'.1, q.1)))

-- (U2) A pointer of x is drawn past y, to where y points, and the turns are added: the leader and the parity of every line stay. Of x they are still those of
-- the line that it points to, with its turn added. Where y leads it has no turn of its own.
module _ {n : ℕ} {up entry leader parity up' entry' : ℕ → ℕ} (x : ℕ) (down : Down n up) (own : (w : ℕ) → w < n → up w ≡ w → Even (entry w))
    (f : StandsFor n up entry leader parity) (h : x < n) (less : up x < x)
    (u : PutBelow n up x (up (up x)) up') (e : PutBelow n entry x ((entry x + entry (up x)) % 2) entry') where
  -- x goes along with its new pointer
  at_x : (leader x ≡ leader (up' x)) × (parity x ≡ (entry' x + parity (up' x)) % 2)
  at_x =
      let y = up x in
      let w : up x < n = omega arith in
      let p = f.onward x h (λ q. omega arith) in
      let to : up' x ≡ up (up x) = u.here in
      let pe : entry' x ≡ (entry x + entry (up x)) % 2 = e.here in
      cases (eq_or (up (up x)) (up x))
      (λ q.
      let l : leader (up' x) ≡ leader (up x) = ap leader (to ∙ q) in
      let m : parity (up' x) ≡ parity (up x) = ap parity (to ∙ q) in
      (p.0 ∙ sym l, omega (arith, p.1, pe, m, (f.here (up x) w q).1, own (up x) w q)))
      (λ d.
      let r = f.onward (up x) w d in
      let l : leader (up' x) ≡ leader (up (up x)) = ap leader to in
      let m : parity (up' x) ≡ parity (up (up x)) = ap parity to in
      (p.0 ∙ r.0 ∙ sym l, omega (arith, p.1, pe, m, r.1)))

  pub passed_stands : StandsFor n up' entry' leader parity
  passed_stands =
      record {
        here = λ w k s.
            cases (eq_or w x)
            (λ q. let z : up' w ≡ up (up x) = ap up' q ∙ u.here in absurd (omega (arith, down (up x) (omega arith))))
            (λ d. let p = f.here w k (sym (u.there w k d) ∙ s) in (p.0, p.1 ∙ sym (e.there w k d)));
        onward = λ w k s.
            cases (eq_or w x)
            (λ q. rw q at_x)
            (λ d.
            let t = u.there w k d in
            let p = f.onward w k (λ q. s (t ∙ q)) in
            let l : leader (up' w) ≡ leader (up w) = ap leader t in
            let m : parity (up' w) ≡ parity (up w) = ap parity t in
            (p.0 ∙ sym l, omega (arith, p.1, m, e.there w k d)));
      }

-- (U3) A leader, high, is pointed to a lower one, low, with the turn q: the lines that high led have low for a leader and turn by q, and all others keep
-- theirs. A line and the line that it points to have one leader, before and after.
module _ {n : ℕ} {up entry leader parity up' entry' leader' parity' : ℕ → ℕ} (low high q : ℕ) (down : Down n up)
    (own : (w : ℕ) → w < n → up w ≡ w → Even (entry w)) (f : StandsFor n up entry leader parity) (f' : StandsFor n up' entry' leader' parity')
    (less : low < high) (h : high < n) (low_own : up low ≡ low) (high_own : up high ≡ high)
    (u : PutBelow n up high low up') (e : PutBelow n entry high q entry') where
  -- low leads itself still, and high is led by low
  at_low : (leader' low ≡ low) × (parity' low ≡ entry low)
  at_low =
      let d : low ≡ high → ⊥ = λ z. omega arith in
      let k : low < n = omega arith in
      let p = f'.here low k (u.there low k d ∙ low_own) in
      (p.0, p.1 ∙ e.there low k d)

  at_high : Relabel low high q (leader high) (parity high) (leader' high) (parity' high)
  at_high =
      let p = f.here high h high_own in
      let p' = f'.onward high h (λ z. omega (arith, u.here)) in
      let l : leader' (up' high) ≡ leader' low = ap leader' u.here in
      let m : parity' (up' high) ≡ parity' low = ap parity' u.here in
      record {
        moved = λ _. (
          p'.0 ∙ l ∙ at_low.0,
          omega (arith, p.1, p'.1, m, at_low.1, e.here, own high h high_own, own low (omega arith) low_own),
        );
        stays = λ d. absurd (d p.0);
      }

  pub given_over : Relabelled n low high q leader parity leader' parity'
  given_over = record { each = λ w k. below (suc w) w (omega arith) k }
    where
      below : (i w : ℕ) → w < i → w < n → Relabel low high q (leader w) (parity w) (leader' w) (parity' w)
      below zero w j k = absurd (omega arith)
      below (suc i) w j k =
          cases (eq_or w high)
          (λ z. rw z at_high)
          (λ d.
          let t = u.there w k d in
          let v = e.there w k d in
          cases (eq_or (up w) w)
          (λ s.
          let p = f.here w k s in
          let p' = f'.here w k (t ∙ s) in
          record { moved = λ z. absurd (d (sym p.0 ∙ z)); stays = λ _. (p'.0 ∙ sym p.0, p'.1 ∙ v ∙ sym p.1) })
          (λ s.
          let s' : up w ≢ w = s in
          let o : up w < w = omega (arith, down w k) in
          let p = f.onward w k s in
          let p' = f'.onward w k (λ z. s (sym t ∙ z)) in
          let l : leader' (up' w) ≡ leader' (up w) = ap leader' t in
          let m : parity' (up' w) ≡ parity' (up w) = ap parity' t in
          let r = below i (up w) (omega arith) (omega arith) in
          record {
            moved = λ z. let x = r.moved (sym p.0 ∙ z) in (p'.0 ∙ l ∙ x.0, omega (arith, p.1, p'.1, m, v, x.1));
            stays = λ z.
                let x = r.stays (λ c. z (p.0 ∙ c)) in
                (p'.0 ∙ l ∙ x.0 ∙ sym p.0, omega (arith, p.1, p'.1, m, v, x.1));
          }))

-- (U4) A pass that rises makes pointers flat. The line y that x points to is lower, so it was passed and has its leader and its parity already: drawn past y, the
-- pointer of x leads to the leader, and the turns are added to the parity.
module _ {n : ℕ} {up entry leader parity : ℕ → ℕ} (f : StandsFor n up entry leader parity) (x : ℕ) (h : x < n) where
  pub flat_passed : (up x ≡ x → ⊥) → (l p : ℕ) → l ≡ leader (up x) → p ≡ (entry x + parity (up x)) % 2 → (l ≡ leader x) × (p ≡ parity x)
  flat_passed d l p el ep = let q = f.onward x h d in (el ∙ sym q.0, ep ∙ sym q.1)

  pub flat_here : up x ≡ x → (up x ≡ leader x) × (entry x ≡ parity x)
  flat_here e = let q = f.here x h e in (e ∙ sym q.0, sym q.1)
