-- The flood from a line along half-steps: a new line behind the queue keeps it right; and when all half-steps that leave lines of the queue lead to
-- lines of the queue, every line that a way leads to is in it.
use mathlib.Core.Bool.{true, cond}
use mathlib.Core.List.{List}
use mathlib.Core.Path.{◌≡◌, refl, sym, ◌∙◌, ap}
use Prim.Native.Nat.{ℕ, suc, ◌+◌, ◌-◌, ◌*◌, ◌≤◌, ◌<◌}
use native.Mathlib.Omega.{arith}
use lib.Dec.{eqb}
use lib.ListN.{set, length-set}
use borrow.Author.Tests.{eq-eqb, ne_eqb}
use Rattle.laws.specs.Lists.{at}
use Rattle.laws.proofs.Cases.{cases, eq_or, lt_or}
use Rattle.laws.proofs.Counting.{count_le, count_all}
use Rattle.groups.specs.Groups.{columns}
use Rattle.groups.specs.declared.Groups.{Groups}
use Rattle.groups.proofs.Ways.{way_in}
use Rattle.groups.proofs.Filling.{stored, beside}
use Rattle.rings.specs.Flooding.{Step, leaves, arrives, Queued, Reach, Further, Spread, LookFrom, Looked, ScanFrom, Scanned, Unflooded}
use Rattle.rings.proofs.Halves.{half_step, half_of, arrives_inside}

-- different numbers below m are not more than m
pub pigeon : (f : ℕ → ℕ) (n m : ℕ) → ((i : ℕ) → i < n → f i < m) → ((i j : ℕ) → i < n → j < n → f i ≡ f j → i ≡ j) → n ≤ m
pigeon f n m below one =
    omega (
      arith,
      count_le (λ i x. f i ≡ x) (λ i. true) (λ i. true) n m (λ i h e. (f i, below i h, refl, refl)) (λ i j x h k p q. one i j h k (p ∙ sym q)),
      count_all n,
      count_all m,
    )

pub queue_few : {lines n : ℕ} {queue via : ℕ → ℕ} → Queued lines n queue via → n ≤ lines
queue_few {lines} {n} {queue} q = pigeon queue n lines q.inside q.once

-- One line more

-- f with v at i
put : ℕ → ℕ → (ℕ → ℕ) → ℕ → ℕ
put i v f j = cond (eqb j i) v (f j)

put_here : (i v : ℕ) (f : ℕ → ℕ) → put i v f i ≡ v
unfolding put
put_here i v f = rw (eq-eqb i i refl)

put_else : (i v : ℕ) (f : ℕ → ℕ) (j : ℕ) → (j ≡ i → ⊥) → put i v f j ≡ f j
unfolding put
put_else i v f j d = rw (ne_eqb j i d)

module _ (lines n : ℕ) (queue via : ℕ → ℕ) (q : Queued lines n queue via) (y : ℕ) (inside : y < lines) (new : lines ≤ via y) (p : ℕ) (hp : p < n) where
  pub not_yet : (i : ℕ) → i < n → queue i ≡ y → ⊥
  not_yet i h e = omega (arith, q.met i h, ap via e)

  -- y is put behind the queue, reached from the line at the place p
  module _ (queue' via' : ℕ → ℕ) (here : queue' n ≡ y) (there : (i : ℕ) → i < n → queue' i ≡ queue i)
      (mark : via' y ≡ queue p) (marks : (x : ℕ) → (x ≡ y → ⊥) → via' x ≡ via x) where
    old_via : (i : ℕ) → i < n → via' (queue' i) ≡ via (queue i)
    old_via i h = ap via' (there i h) ∙ marks (queue i) (not_yet i h)

    new_via : via' (queue' n) ≡ queue p
    new_via = ap via' here ∙ mark

    pub queue_more : Queued lines (suc n) queue' via'
    queue_more =
        record {
          some = omega arith;
          inside = λ i h. cases (lt_or i n) (λ o. rw (there i o) (q.inside i o)) (λ o. let e : i ≡ n = omega arith in rw (e, here) inside);
          once = λ i j hi hj e.
              cases (lt_or i n)
              (λ o.
              cases (lt_or j n)
              (λ o'. q.once i j o o' (sym (there i o) ∙ e ∙ there j o'))
              (λ o'. let z : j ≡ n = omega arith in absurd (not_yet i o (sym (there i o) ∙ e ∙ ap queue' z ∙ here))))
              (λ o.
              let z : i ≡ n = omega arith in
              cases (lt_or j n)
              (λ o'. absurd (not_yet j o' (sym (there j o') ∙ sym e ∙ ap queue' z ∙ here)))
              (λ o'. omega arith));
          met = λ i h.
              cases (lt_or i n)
              (λ o. rw (old_via i o) (q.met i o))
              (λ o. let e : i ≡ n = omega arith in rw (e, new_via) (q.inside p hp));
          spot = λ x h m.
              cases (eq_or x y)
              (λ e. (n, omega arith, here ∙ sym e))
              (λ d. let z = q.spot x h (omega (arith, marks x d)) in (z.0, omega (arith, z.1), there z.0 z.1 ∙ z.2));
          earlier = λ i k h.
              cases (lt_or i n)
              (λ o. let z = q.earlier i k o in let l = z.1 in (z.0, z.1, old_via i o ∙ z.2 ∙ sym (there z.0 (omega arith))))
              (λ o. let e : i ≡ n = omega arith in (p, omega arith, ap (λ (x : ℕ). via' (queue' x)) e ∙ new_via ∙ sym (there p hp)));
        }

  -- the queue has room for it: with it, too, it has no more lines than there are
  pub queue_room : n < lines
  queue_room =
      queue_few
      (queue_more (put n y queue) (put y (queue p) via) (put_here n y queue) (λ i h. put_else n y queue i (λ e. omega arith))
      (put_here y (queue p) via) (put_else y (queue p) via))

-- A look

module _ (lines x s n : ℕ) (g : Groups) (queue via : List ℕ) (l : LookFrom lines x s n g queue via) (y : ℕ) (is_y : (y ≡ arrives g s) × (y < 65536)) where
  y_inside : y < lines
  y_inside = rw is_y.0 (arrives_inside lines g l.standing.sound s l.below)

  pub y_small : y < 2048
  y_small = omega (arith, y_inside, l.standing.sound.few)

  module _ (new_y : lines ≤ at via y) where
    n_inside : n < lines
    n_inside = queue_room lines n (at queue) (at via) l.standing.reach.queued y y_inside new_y l.standing.place l.standing.within

    pub n_small : n < 2048
    n_small = omega (arith, n_inside, l.standing.sound.few)

    new_queue : at (set queue n y) n ≡ y
    new_queue = stored queue n y (omega (arith, n_small, l.standing.reach.queues))

    old_queue : (i : ℕ) → i < n → at (set queue n y) i ≡ at queue i
    old_queue i o = beside queue n y i (λ e. omega arith)

    new_via_y : at (set via y x) y ≡ x
    new_via_y = stored via y x (omega (arith, y_small, l.standing.reach.vias))

    old_via_of : (i : ℕ) → (i ≡ y → ⊥) → at (set via y x) i ≡ at via i
    old_via_of i d = beside via y x i d

    not_y : (i : ℕ) → i < n → at queue i ≡ y → ⊥
    not_y = not_yet lines n (at queue) (at via) l.standing.reach.queued y y_inside new_y l.standing.place l.standing.within

    step_y : Step lines (columns g) x y
    step_y = rw (is_y.0, ← l.here) (half_step lines g s l.below)

    pub look_new : Looked lines s n (n + 1) g queue via (set queue n y) (set via y x)
    look_new =
        let one : n + 1 ≡ suc n = omega arith in
        let r = l.standing.reach in
        let here = l.standing.inside in
        rw one
        (record {
          further = record {
            reach = record {
              queues = length-set queue n y ∙ r.queues;
              vias = length-set via y x ∙ r.vias;
              queued =
                  queue_more lines n (at queue) (at via) r.queued y y_inside new_y l.standing.place l.standing.within
                  (at (set queue n y)) (at (set via y x)) new_queue old_queue (new_via_y ∙ sym l.standing.is_x) old_via_of;
              twig = λ i k h.
                  cases (lt_or i n)
                  (λ o. rw (old_queue i o, old_via_of (at queue i) (not_y i o)) (r.twig i k o))
                  (λ o. let e : i ≡ n = omega arith in rw (e, new_queue, new_via_y) step_y);
            };
            more = omega arith;
            same = old_queue;
            still = λ w o. cases (eq_or w y) (λ e. rw (e, new_via_y) here) (λ d. rw (old_via_of w d) o);
          };
          met = rw (← is_y.0, new_via_y) here;
        })

-- Looks along the chain of x

-- the half-steps below s are looked along, and s is the next one of x
pub record Along (lines x n k s : ℕ) (g : Groups) (queue₀ via₀ queue via : List ℕ) : Type 0 where
  pub further : Further lines g n k queue₀ via₀ queue via
  pub few : lines ≤ 2048
  pub upto : s ≤ 2 * lines
  pub here : s < 2 * lines → leaves g s ≡ x
  pub spread : Spread lines g s (at via) x

module _ (lines x n : ℕ) (g : Groups) (heads nexts queue₀ via₀ : List ℕ) (a : ScanFrom lines x n g heads nexts queue₀ via₀) where
  module _ (k s : ℕ) (queue via : List ℕ) (o : Along lines x n k s g queue₀ via₀ queue via) where
    pub along_looking : s < 2 * lines → LookFrom lines x s k g queue via
    along_looking h =
        let w = a.standing in
        let p = w.within in
        record {
          standing = record {
            sound = w.sound;
            inside = w.inside;
            most = queue_few o.further.reach.queued;
            reach = o.further.reach;
            place = w.place;
            within = omega (arith, o.further.more);
            is_x = o.further.same w.place w.within ∙ w.is_x;
          };
          below = h;
          here = o.here h;
        }

-- Looks from one line of the queue after the other

-- from the places before `head` all half-steps are looked along
pub record Flood (lines b head n : ℕ) (g : Groups) (queue via : List ℕ) : Type 0 where
  pub few : lines ≤ 2048
  pub most : n ≤ lines
  pub reach : Reach lines g n queue via
  pub root : at queue 0 ≡ b
  pub ahead : head ≤ n
  pub spread : (i : ℕ) → i < head → Spread lines g (2 * lines) (at via) (at queue i)

module _ {lines b d : ℕ} {g : Groups} {heads nexts via₀ : List ℕ} (a : Unflooded lines b d g heads nexts via₀) where
  module _ {head n : ℕ} {queue via : List ℕ} (f : Flood lines b head n g queue via) where
    -- no half_step leads out of the queue: then all that a way leads to is reached
    all_reached : n ≤ head → at via d < lines
    all_reached h = (way_in (λ x. (x < lines) × (at via x < lines)) (a.root, start) further a.way).1
      where
        start : at via b < lines
        start = let m = f.reach.queued.met 0 f.reach.queued.some in rw f.root at m

        further : (u v : ℕ) → (u < lines) × (at via u < lines) → Step lines (columns g) u v → (v < lines) × (at via v < lines)
        further u v (hu, mu) j =
            let s = half_of lines g u v j in
            let p = f.reach.queued.spot u hu mu in
            let q = p.1 in (
              rw (← s.3) (arrives_inside lines g a.sound s.0 s.1),
              rw (← s.3) (f.spread p.0 (omega arith) s.0 s.1 (s.2 ∙ sym p.2)),
            )

    module _ (un : lines ≤ at via d) where
      -- so a place is left
      left : head < n
      left = cases (lt_or head n) (λ h. h) (λ h. absurd (omega (arith, all_reached h)))

      pub head_small : head < 2048
      head_small = omega (arith, left, f.most, f.few)

      pub flood_less : lines - (head + 1) < lines - head
      flood_less = omega (arith, left, f.most)

      pub flood_scanning : ScanFrom lines (at queue head) n g heads nexts queue via
      flood_scanning =
          record {
            standing = record {
              sound = a.sound;
              inside = f.reach.queued.inside head left;
              most = queue_few f.reach.queued;
              reach = f.reach;
              place = head;
              within = left;
              is_x = refl;
            };
            chains = a.chains;
          }

      pub flood_more : {n' : ℕ} {queue' via' : List ℕ} → Scanned lines (at queue head) n n' g queue via queue' via' → Flood lines b (head + 1) n' g queue' via'
      flood_more {n'} {queue'} w =
          let l = left in
          let k = w.further in
          record {
            few = f.few;
            most = queue_few k.reach.queued;
            reach = k.reach;
            root = k.same 0 f.reach.queued.some ∙ f.root;
            ahead = omega (arith, k.more);
            spread = λ i h s o e.
                cases (lt_or i head)
                (λ q. k.still (arrives g s) (f.spread i q s o (e ∙ k.same i (omega arith))))
                (λ q. let y : i ≡ head = omega arith in w.spread s o (e ∙ ap (at queue') y ∙ k.same head l));
          }
