-- The tables stay right: at the start, where no constraint is taken in; when a constraint joins two groups; when one agrees with the parities.
-- And a constraint that does not agree can be kept by no choice.
use mathlib.Core.Bool.{Bool, true, false}
use mathlib.Core.Logic.{◌⊎◌, inl, inr}
use mathlib.Core.Path.{◌≡◌, refl, sym, ◌∙◌, ap, subst}
use Prim.Native.Nat.{ℕ, ◌+◌, ◌%◌, ◌≤◌, ◌<◌}
use native.Mathlib.Omega.{arith}
use Rattle.laws.proofs.Cases.{cases, true_false, eq_or}
use Rattle.groups.specs.Constraints.{Constraints, More, Even, Keeps, Sided}
use Rattle.groups.specs.Groups.{Tables, Joins, Way, stay, onward, Grouped, Merged}
use Rattle.groups.proofs.Ways.{way_append, way_turn, way_map}

-- The start

-- each line leads itself
pub record Begun (lines : ℕ) (back : ℕ → Bool) (t : Tables) : Type 0 where
  pub alone : (b : ℕ) → b < lines → (t.leader b ≡ b) × (t.from b ≡ b) × (t.to b ≡ b)
  pub backs : (b : ℕ) → b < lines → back b ≡ true → t.parity b ≡ 0
  pub trees : (b : ℕ) → b < lines → back b ≡ false → t.parity b ≡ 2

abbrev pub None : Constraints
None b d k = ⊥

pub grouped_none : (lines : ℕ) (back : ℕ → Bool) (t : Tables) → Begun lines back t → Grouped lines back None t
grouped_none lines back t s =
    record {
      low = λ b h. omega (arith, (s.alone b h).0);
      home = λ b h. ap t.leader (s.alone b h).0;
      tree = λ b h f. ((s.alone b h).0, s.trees b h f);
      kin = λ b h. subst (λ (x : ℕ). Sided lines back x) (sym (s.alone b h.within).0) h;
      side = λ b h. omega (arith, s.backs b h.within h.is_back);
      base = λ b h e. s.backs b h.within h.is_back;
      ends = λ b d k p. absurd p;
      closed = λ b d k p. absurd p;
      told = λ c q b h.
          let e : c (t.leader b) ≡ c b = ap c (s.alone b h.within).0 in
          omega (arith, s.backs b h.within h.is_back);
      inside = λ x h. (omega (arith, (s.alone x h).1), omega (arith, (s.alone x h).2));
      idle = λ x h e. (s.alone x h).1 ∙ sym (s.alone x h).2;
      taken = λ x h. inl ((s.alone x h).1 ∙ sym (s.alone x h).2);
      way = λ b h. subst (λ (x : ℕ). Way (Joins lines t.from t.to) x b) (sym (s.alone b h.within).0) stay;
    }

module _ (lines : ℕ) (back : ℕ → Bool) (P : Constraints) (t : Tables) (g : Grouped lines back P t)
    (b d k : ℕ) (hb : Sided lines back b) (hd : Sided lines back d) where
  keeps_old : (s : ℕ → ℕ) → Keeps (More P b d k) s → Keeps P s
  keeps_old s q x y z p = q x y z (inl p)

  keeps_new : (s : ℕ → ℕ) → Keeps (More P b d k) s → Even (s b + s d + k)
  keeps_new s q = q b d k (inr (refl, refl, refl))

  more_ends : (x y z : ℕ) → More P b d k x y z → Sided lines back x × Sided lines back y
  more_ends x y z m =
      cases m (g.ends x y z)
      (λ e. (subst (λ (w : ℕ). Sided lines back w) (sym e.0) hb, subst (λ (w : ℕ). Sided lines back w) (sym e.1) hd))

  -- a constraint that agrees, or that no choice can keep
  pub grouped_agrees : t.leader b ≡ t.leader d → Even (t.parity b + t.parity d + k) → Grouped lines back (More P b d k) t
  grouped_agrees l e =
      record {
        low = g.low;
        home = g.home;
        tree = g.tree;
        kin = g.kin;
        side = g.side;
        base = g.base;
        ends = more_ends;
        closed = λ x y z m. cases m (g.closed x y z) (λ q. rw (q.0, q.1, q.2) (l, e));
        told = λ s q. g.told s (keeps_old s q);
        inside = g.inside;
        idle = g.idle;
        taken = λ x h. cases (g.taken x h) inl (λ p. inr (inl p));
        way = g.way;
      }

  pub conflict : t.leader b ≡ t.leader d → (t.parity b + t.parity d + k) % 2 ≡ 1 → (s : ℕ → ℕ) → Keeps (More P b d k) s → ⊥
  conflict l o s q =
      let e : s (t.leader b) ≡ s (t.leader d) = ap s l in
      omega (arith, keeps_new s q, g.told s (keeps_old s q) b hb, g.told s (keeps_old s q) d hd)

  -- two groups are joined: the one led by `high` goes over to `low`
  module _ (small : k ≤ 1) (low high : ℕ) (less : low < high)
      (who : ((t.leader b ≡ low) × (t.leader d ≡ high)) ⊎ ((t.leader b ≡ high) × (t.leader d ≡ low)))
      (t' : Tables) (m : Merged lines low high ((t.parity b + t.parity d + k) % 2) b d t t') where
    turn : ℕ
    turn = (t.parity b + t.parity d + k) % 2

    -- the two leaders
    low_led : (t.leader low ≡ low) × Sided lines back low
    low_led =
        cases who
        (λ w. (rw (← w.0) (g.home b hb.within), rw (← w.0) (g.kin b hb)))
        (λ w. (rw (← w.1) (g.home d hd.within), rw (← w.1) (g.kin d hd)))

    high_led : (t.leader high ≡ high) × Sided lines back high
    high_led =
        cases who
        (λ w. (rw (← w.1) (g.home d hd.within), rw (← w.1) (g.kin d hd)))
        (λ w. (rw (← w.0) (g.home b hb.within), rw (← w.0) (g.kin b hb)))

    low_stays : t'.leader low ≡ low
    low_stays = ((m.groups.each low low_led.1.within).stays (λ e. omega (arith, low_led.0))).0 ∙ low_led.0

    -- a line goes over, or stays
    pub record Over (x : ℕ) : Type 0 where
      pub was : t.leader x ≡ high
      pub now : t'.leader x ≡ low
      pub turned : t'.parity x ≡ (t.parity x + (t.parity b + t.parity d + k) % 2) % 2

    pub record Stays (x : ℕ) : Type 0 where
      pub was : t.leader x ≡ high → ⊥
      pub now : t'.leader x ≡ t.leader x
      pub parity : t'.parity x ≡ t.parity x

    over_or : (x : ℕ) → x < lines → Over x ⊎ Stays x
    over_or x h =
        cases (eq_or (t.leader x) high)
        (λ e. let q = (m.groups.each x h).moved e in inl (record { was = e; now = q.0; turned = q.1 }))
        (λ n. let q = (m.groups.each x h).stays n in inr (record { was = n; now = q.0; parity = q.1 }))

    joined_low : (x : ℕ) → x < lines → t'.leader x ≤ x
    joined_low x h = cases (over_or x h) (λ o. omega (arith, o.was, o.now, g.low x h)) (λ o. omega (arith, o.now, g.low x h))

    joined_home : (x : ℕ) → x < lines → t'.leader (t'.leader x) ≡ t'.leader x
    joined_home x h =
        cases (over_or x h) (λ o. rw o.now low_stays)
        (λ o. rw o.now (((m.groups.each (t.leader x) (omega (arith, g.low x h))).stays (λ e. o.was (sym (g.home x h) ∙ e))).0 ∙ g.home x h))

    joined_tree : (x : ℕ) → x < lines → back x ≡ false → (t'.leader x ≡ x) × (t'.parity x ≡ 2)
    joined_tree x h f =
        let q = g.tree x h f in
        cases (over_or x h)
        (λ o. true_false high_led.1.is_back (ap back (sym o.was ∙ q.0) ∙ f))
        (λ o. (o.now ∙ q.0, o.parity ∙ q.1))

    joined_kin : (x : ℕ) → Sided lines back x → Sided lines back (t'.leader x)
    joined_kin x h = cases (over_or x h.within) (λ o. rw o.now low_led.1) (λ o. rw o.now (g.kin x h))

    joined_side : (x : ℕ) → Sided lines back x → t'.parity x ≤ 1
    joined_side x h = cases (over_or x h.within) (λ o. omega (arith, o.turned)) (λ o. omega (arith, o.parity, g.side x h))

    joined_base : (x : ℕ) → Sided lines back x → t'.leader x ≡ x → t'.parity x ≡ 0
    joined_base x h e =
        cases (over_or x h.within)
        (λ o. absurd (omega (arith, ap t.leader (sym o.now ∙ e), low_led.0, o.was)))
        (λ o. o.parity ∙ g.base x h (sym o.now ∙ e))

    joined_told : (s : ℕ → ℕ) → Keeps (More P b d k) s → (x : ℕ) → Sided lines back x → Even (s (t'.leader x) + s x + t'.parity x)
    joined_told s q x h =
        let old = keeps_old s q in
        let new = keeps_new s q in
        let tb = g.told s old b hb in
        let td = g.told s old d hd in
        let tx = g.told s old x h in
        cases (over_or x h.within)
        (λ o.
        let e₁ : s (t.leader x) ≡ s high = ap s o.was in
        let e₂ : s (t'.leader x) ≡ s low = ap s o.now in
        cases who
        (λ w. omega (arith, ap s w.0, ap s w.1, o.turned))
        (λ w. omega (arith, ap s w.0, ap s w.1, o.turned)))
        (λ o. omega (arith, ap s o.now, o.parity))

    -- two lines of one group, old or new
    together : (x y z : ℕ) → Sided lines back x → Sided lines back y → t.leader x ≡ t.leader y → Even (t.parity x + t.parity y + z)
        → (t'.leader x ≡ t'.leader y) × Even (t'.parity x + t'.parity y + z)
    together x y z hx hy l e =
        cases (over_or x hx.within)
        (λ o.
        cases (over_or y hy.within)
        (λ o'. (o.now ∙ sym o'.now, omega (arith, o.turned, o'.turned)))
        (λ o'. absurd (o'.was (sym l ∙ o.was))))
        (λ o.
        cases (over_or y hy.within)
        (λ o'. absurd (o.was (l ∙ o'.was)))
        (λ o'. (o.now ∙ l ∙ sym o'.now, omega (arith, o.parity, o'.parity))))

    between : (t'.leader b ≡ t'.leader d) × Even (t'.parity b + t'.parity d + k)
    between =
        cases who
        (λ w.
        let ob = (m.groups.each b hb.within).stays (λ e. omega (arith, w.0)) in
        let od = (m.groups.each d hd.within).moved w.1 in
        (ob.0 ∙ w.0 ∙ sym od.0, omega (arith, ob.1, od.1)))
        (λ w.
        let ob = (m.groups.each b hb.within).moved w.0 in
        let od = (m.groups.each d hd.within).stays (λ e. omega (arith, w.1)) in
        (ob.0 ∙ sym w.1 ∙ sym od.0, omega (arith, ob.1, od.1)))

    joined_closed : (x y z : ℕ) → More P b d k x y z → (t'.leader x ≡ t'.leader y) × Even (t'.parity x + t'.parity y + z)
    joined_closed x y z p =
        cases p
        (λ o. let q = g.ends x y z o in let c = g.closed x y z o in together x y z q.0 q.1 c.0 c.1)
        (λ e. rw (e.0, e.1, e.2) between)

    joined_inside : (x : ℕ) → x < lines → (t'.from x < lines) × (t'.to x < lines)
    joined_inside x h =
        cases (eq_or x high)
        (λ e. (omega (arith, ap t'.from e, m.from.here, hb.within), omega (arith, ap t'.to e, m.to.here, hd.within)))
        (λ n. (omega (arith, m.from.there x h n, g.inside x h), omega (arith, m.to.there x h n, g.inside x h)))

    joined_idle : (x : ℕ) → x < lines → t'.leader x ≡ x → t'.from x ≡ t'.to x
    joined_idle x h e =
        cases (over_or x h)
        (λ o. absurd (omega (arith, ap t.leader (sym o.now ∙ e), low_led.0, o.was)))
        (λ o.
        let n : x ≡ high → ⊥ = λ q. o.was (ap t.leader q ∙ high_led.0) in
        m.from.there x h n ∙ g.idle x h (sym o.now ∙ e) ∙ sym (m.to.there x h n))

    -- a constraint that joined groups is of the kind that the parities, old and new, say
    joined_taken : (x : ℕ) → x < lines
        → (t'.from x ≡ t'.to x) ⊎ More P b d k (t'.from x) (t'.to x) ((t'.parity (t'.from x) + t'.parity (t'.to x)) % 2)
    joined_taken x h =
        cases (eq_or x high)
        (λ e.
        let kind : (t'.parity b + t'.parity d) % 2 ≡ k = omega (arith, between.1) in
        inr (rw (e, m.from.here, m.to.here) (inr (refl, refl, kind))))
        (λ n.
        rw (m.from.there x h n, m.to.there x h n)
        (cases (g.taken x h) inl
        (λ p.
        let q = g.ends _ _ _ p in
        let c = g.closed _ _ _ p in
        let kind : (t.parity (t.from x) + t.parity (t.to x)) % 2 ≡ (t'.parity (t.from x) + t'.parity (t.to x)) % 2 =
        omega (arith, (together (t.from x) (t.to x) _ q.0 q.1 c.0 c.1).1) in
        inr (inl (subst (λ (z : ℕ). P (t.from x) (t.to x) z) kind p)))))

    old_step : (u v : ℕ) → Joins lines t.from t.to u v → (u ≡ v) ⊎ Joins lines t'.from t'.to u v
    old_step u v j =
        cases (eq_or j.place high)
        (λ e. inl (sym j.is_from ∙ g.idle j.place j.within (ap t.leader e ∙ high_led.0 ∙ sym e) ∙ j.is_to))
        (λ n.
        inr (record {
          place = j.place;
          within = j.within;
          is_from = m.from.there j.place j.within n ∙ j.is_from;
          is_to = m.to.there j.place j.within n ∙ j.is_to;
        }))

    new_step : Joins lines t'.from t'.to b d
    new_step = record { place = high; within = high_led.1.within; is_from = m.from.here; is_to = m.to.here }

    old_way : (x : ℕ) → Sided lines back x → Way (Joins lines t'.from t'.to) (t.leader x) x
    old_way x h = way_map old_step (g.way x h)

    -- from `low` by the new step to `high`
    bridge : Way (Joins lines t'.from t'.to) low high
    bridge =
        cases who
        (λ w. rw (← w.0, ← w.1) (way_append (onward (old_way b hb) (inl new_step)) (way_turn (old_way d hd))))
        (λ w. rw (← w.0, ← w.1) (way_append (onward (old_way d hd) (inr new_step)) (way_turn (old_way b hb))))

    joined_way : (x : ℕ) → Sided lines back x → Way (Joins lines t'.from t'.to) (t'.leader x) x
    joined_way x h =
        cases (over_or x h.within)
        (λ o. rw o.now (way_append bridge (rw o.was at (old_way x h))))
        (λ o. rw o.now (old_way x h))

    pub grouped_joined : Grouped lines back (More P b d k) t'
    grouped_joined =
        record {
          low = joined_low;
          home = joined_home;
          tree = joined_tree;
          kin = joined_kin;
          side = joined_side;
          base = joined_base;
          ends = more_ends;
          closed = joined_closed;
          told = joined_told;
          inside = joined_inside;
          idle = joined_idle;
          taken = joined_taken;
          way = joined_way;
        }
