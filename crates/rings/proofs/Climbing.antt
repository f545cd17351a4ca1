-- Climbing back from a line that the flood reached: places in the queue fall, so the lines are different, and each has a joining to the next.
use mathlib.Core.List.{List}
use mathlib.Core.Logic.{◌≢◌}
use mathlib.Core.Path.{◌≡◌, sym, ◌∙◌, ap, subst}
use Prim.Native.Nat.{ℕ, suc, ◌+◌, ◌-◌, ◌≤◌, ◌<◌}
use native.Mathlib.Omega.{arith}
use lib.ListN.{set, length-set}
use Rattle.laws.specs.Lists.{at}
use Rattle.laws.proofs.Cases.{cases, eq_or, lt_or}
use Rattle.groups.specs.Groups.{columns}
use Rattle.groups.specs.declared.Groups.{Groups}
use Rattle.groups.proofs.Filling.{stored, beside}
use Rattle.rings.specs.Flooding.{Step, Found, Climbable, Trail, Reachable, SimpleWay}
use Rattle.rings.proofs.Flooding.{pigeon, queue_few}

-- n lines are written, the last of them x, at a place of the queue; those before stand at higher places
pub record Climb (lines b d n x : ℕ) (via chain : List ℕ) : Type 0 where
  pub base : Climbable lines b d via chain
  pub some : 0 < n
  pub few : n ≤ 2048
  pub small : x < 2048
  pub place : ℕ
  pub room : n + place ≤ base.size
  pub is_x : base.queue place ≡ x
  pub last : at chain (n - 1) ≡ x
  pub first : at chain 0 ≡ d
  pub above : (i : ℕ) → i < n → (q : ℕ) × (place ≤ q) × (q < base.size) × (at chain i ≡ base.queue q)
  pub apart : (i j : ℕ) → i < j → j < n → at chain i ≡ at chain j → ⊥
  pub along : (i : ℕ) → suc i < n → at chain (suc i) ≡ at via (at chain i)

-- a line is written
abbrev rebased : {lines b d : ℕ} {via chain : List ℕ} (i v : ℕ) → Climbable lines b d via chain → Climbable lines b d via (set chain i v)
rebased {chain = chain} i v a =
    record {
      few = a.few;
      long = length-set chain i v ∙ a.long;
      inside = a.inside;
      size = a.size;
      queue = a.queue;
      queued = a.queued;
      root = a.root;
      goal = a.goal;
    }

pub climb_start : (lines b d : ℕ) (via chain : List ℕ) → Climbable lines b d via chain → Climb lines b d 1 d via (set chain 0 d)
climb_start lines b d via chain a =
    let s = a.queued.spot d a.inside a.goal in
    let here = stored chain 0 d (omega (arith, a.long)) in
    record {
      base = rebased 0 d a;
      some = omega arith;
      few = omega arith;
      small = omega (arith, a.inside, a.few);
      place = s.0;
      room = omega (arith, s.1);
      is_x = s.2;
      last = here;
      first = here;
      above = λ i h. let e : i ≡ 0 = omega arith in (s.0, omega arith, s.1, ap (at (set chain 0 d)) e ∙ here ∙ sym s.2);
      apart = λ i j h o. absurd (omega arith);
      along = λ i h. absurd (omega arith);
    }

module _ (lines b d n x : ℕ) (via chain : List ℕ) (c : Climb lines b d n x via chain) where
  x_place : c.place < c.base.size
  x_place = omega (arith, c.room, c.some)

  module _ (far : x ≡ b → ⊥) where
    above_first : 0 < c.place
    above_first =
        cases (eq_or c.place 0)
        (λ e. absurd (far (sym c.is_x ∙ ap c.base.queue e ∙ c.base.root)))
        (λ e. let e' : c.place ≢ 0 = e in omega arith)

    pub climb_room : n < 2048
    climb_room = omega (arith, above_first, c.room, queue_few c.base.queued, c.base.few)

    pub climb_less : lines - (n + 1) < lines - n
    climb_less = omega (arith, above_first, c.room, queue_few c.base.queued)

    abbrev w : ℕ
    w = at via x

    before : (j : ℕ) × (j < c.place) × (at via (c.base.queue c.place) ≡ c.base.queue j)
    before = c.base.queued.earlier c.place above_first x_place

    w_is : w ≡ c.base.queue before.0
    w_is = ap (at via) (sym c.is_x) ∙ before.2

    new : at (set chain n w) n ≡ w
    new = stored chain n w (omega (arith, climb_room, c.base.long))

    old : (i : ℕ) → i < n → at (set chain n w) i ≡ at chain i
    old i h = beside chain n w i (λ e. omega arith)

    -- w stands lower than all lines before
    other : (i : ℕ) → i < n → at chain i ≡ w → ⊥
    other i h e =
        let q = c.above i h in
        omega (arith, before.1, q.1, c.base.queued.once q.0 before.0 q.2 (omega (arith, before.1, x_place)) (sym q.3 ∙ e ∙ w_is))

    pub climb_more : Climb lines b d (n + 1) w via (set chain n w)
    climb_more =
        let l = before.1 in
        let k = x_place in
        record {
          base = rebased n w c.base;
          some = omega arith;
          few = omega (arith, climb_room);
          small = omega (arith, c.base.queued.inside before.0 (omega arith), w_is, c.base.few);
          place = before.0;
          room = omega (arith, c.room);
          is_x = sym w_is;
          last = let z : n + 1 - 1 ≡ n = omega arith in ap (at (set chain n w)) z ∙ new;
          first = old 0 c.some ∙ c.first;
          above = λ i h.
              cases (lt_or i n)
              (λ o. let q = c.above i o in let r = q.1 in (q.0, omega arith, q.2, old i o ∙ q.3))
              (λ o. let e : i ≡ n = omega arith in (before.0, omega arith, omega arith, ap (at (set chain n w)) e ∙ new ∙ w_is));
          apart = λ i j h o e.
              let o' : i < n = omega arith in
              cases (lt_or j n)
              (λ k'. c.apart i j h k' (sym (old i o') ∙ e ∙ old j k'))
              (λ k'. let z : j ≡ n = omega arith in other i o' (sym (old i o') ∙ e ∙ ap (at (set chain n w)) z ∙ new));
          along = λ i h.
              let o : i < n = omega arith in
              cases (lt_or (suc i) n)
              (λ k'. old (suc i) k' ∙ c.along i k' ∙ ap (at via) (sym (old i o)))
              (λ k'.
              let z : suc i ≡ n = omega arith in
              let y : n - 1 ≡ i = omega arith in
              ap (at (set chain n w)) z ∙ new ∙ ap (at via) (sym c.last ∙ ap (at chain) y ∙ sym (old i o)));
        }

  pub climb_done : x ≡ b → Trail lines b d (at via) n chain
  climb_done e =
      record {
        some = c.some;
        first = c.first;
        last = λ i h. let z : i ≡ n - 1 = omega arith in ap (at chain) z ∙ c.last ∙ e;
        inside = λ i h. let q = c.above i h in rw q.3 (c.base.queued.inside q.0 q.2);
        met = λ i h. let q = c.above i h in rw q.3 (c.base.queued.met q.0 q.2);
        apart = c.apart;
        along = c.along;
      }

-- .. after a flood: different lines, each with a joining to the next

module _ (lines b d : ℕ) (g : Groups) (via : List ℕ) (f : Found lines b d g via) where
  pub rooted : (chain : List ℕ) → Reachable lines b d g chain → Climbable lines b d via chain
  rooted chain c =
      record {
        few = c.sound.few;
        long = c.long;
        inside = c.second;
        size = f.size;
        queue = at f.queue;
        queued = f.reach.queued;
        root = f.root;
        goal = f.goal;
      }

  pub simple_way : (n : ℕ) (chain : List ℕ) → Trail lines b d (at via) n chain → SimpleWay lines b d (columns g) n (at chain)
  simple_way n chain r =
      record {
        some = r.some;
        few = pigeon (at chain) n lines r.inside differ;
        first = r.first;
        last = r.last;
        inside = r.inside;
        apart = differ;
        steps = step;
      }
    where
      differ : (i j : ℕ) → i < n → j < n → at chain i ≡ at chain j → i ≡ j
      differ i j hi hj e =
          cases (lt_or i j) (λ o. absurd (r.apart i j o hj e))
          (λ o. cases (lt_or j i) (λ o'. absurd (r.apart j i o' hi (sym e))) (λ o'. omega arith))

      -- a line before the last is not b, so it is not the first of the queue
      step : (i : ℕ) → suc i < n → Step lines (columns g) (at chain (suc i)) (at chain i)
      step i h =
          let h' : i < n = omega arith in
          let q = f.reach.queued.spot (at chain i) (r.inside i h') (r.met i h') in
          let z : suc (n - 1) ≡ n = omega arith in
          let some : 0 < q.0 = cases (eq_or q.0 0)
          (λ e. absurd (r.apart i (n - 1) (omega arith) (omega arith) (sym q.2 ∙ ap (at f.queue) e ∙ f.root ∙ sym (r.last (n - 1) z))))
          (λ e. let e' : q.0 ≢ 0 = e in omega arith) in
          rw (r.along i h)
          (subst (λ (y : ℕ). Step lines (columns g) (at via y) y) q.2 (f.reach.twig q.0 some q.1))
