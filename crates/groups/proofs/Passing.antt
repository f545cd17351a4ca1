-- A pointer drawn past the line that it leads to, as the code does it; and the two functions that do so along a way: the look up of a leader, and the
-- pass that makes all pointers flat. What the table stands for stays, by the laws of pointers.
use mathlib.Core.Logic.{◌≢◌}
use mathlib.Core.Path.{◌≡◌, refl, sym, ◌∙◌, ap}
use Prim.Native.Nat.{ℕ, ◌+◌, ◌%◌, ◌≤◌, ◌<◌}
use native.Mathlib.Omega.{arith}
use lib.ListN.{set}
use Rattle.laws.specs.Lists.{at}
use Rattle.laws.proofs.Cases.{cases, eq_or}
use Rattle.groups.specs.Constraints.{Even}
use Rattle.groups.specs.Groups.{columns, pointed, PutBelow}
use Rattle.groups.specs.Pointers.{Long, PointsDown, OwnSide}
use Rattle.groups.specs.Calls.{Alike, Passable, PassedBy, LookedUp, Flattened}
use Rattle.groups.specs.declared.Groups.{Groups}
use Rattle.groups.proofs.Filling.{put_below}
use Rattle.groups.proofs.Alike.{alike_same, alike_then}
use Rattle.groups.proofs.Pointers.{pointed_stands, from_pointed, to_pointed, one_stands, passed_stands, flat_passed, flat_here}

-- A pointer drawn past a line

module _ (x y : ℕ) (g : Groups) (p : Passable x y g) (t : ℕ) (is_turn : t ≡ (at g.parity x + at g.parity y + 0) % 2) where
  leaders_noted : PutBelow 2048 (at g.leader) x (at g.leader y) (at (set g.leader x (at g.leader y)))
  leaders_noted = put_below 2048 g.leader x (at g.leader y) (omega (arith, g.long.0, p.within))

  parities_noted : PutBelow 2048 (at g.parity) x t (at (set g.parity x t))
  parities_noted = put_below 2048 g.parity x t (omega (arith, g.long.1, p.within))

  -- what y's place has is what stands where x points
  to_next : at g.leader y ≡ at g.leader (at g.leader x)
  to_next = ap (at g.leader) p.next

  new_leaders : PutBelow 2048 (at g.leader) x (at g.leader (at g.leader x)) (at (set g.leader x (at g.leader y)))
  new_leaders = record { here = leaders_noted.here ∙ to_next; there = leaders_noted.there }

  new_parities : PutBelow 2048 (at g.parity) x ((at g.parity x + at g.parity (at g.leader x)) % 2) (at (set g.parity x t))
  new_parities =
      let e : at g.parity y ≡ at g.parity (at g.leader x) = ap (at g.parity) p.next in
      record { here = omega (arith, parities_noted.here, is_turn); there = parities_noted.there }

  lower : at g.leader x < x
  lower = omega (arith, p.less, p.next)

  module _ (long : Long (set g.leader x (at g.leader y)) (set g.parity x t) g.from g.to) (down : PointsDown (set g.leader x (at g.leader y)))
      (own : OwnSide (set g.leader x (at g.leader y)) (set g.parity x t)) where
    abbrev new : Groups
    new =
        record {
          leader = set g.leader x (at g.leader y);
          parity = set g.parity x t;
          from = g.from;
          to = g.to;
          long = long;
          down = down;
          own = own;
        }

    new_alike : Alike 2048 (pointed g) (pointed new)
    new_alike =
        let f = passed_stands x g.down g.own (pointed_stands g) p.within lower new_leaders new_parities in
        let one : (w : ℕ) → w < 2048 → ((pointed new).leader w ≡ (pointed g).leader w) × ((pointed new).parity w ≡ (pointed g).parity w) =
        one_stands down (pointed_stands new) f in
        record {
          leaders = λ w h. (one w h).0;
          parities = λ w h. (one w h).1;
          froms = λ w h. from_pointed new w ∙ sym (from_pointed g w);
          tos = λ w h. to_pointed new w ∙ sym (to_pointed g w);
        }

    pub passed_by : PassedBy x y g new
    passed_by =
        record {
          alike = new_alike;
          next = leaders_noted.here;
          turn = omega (arith, parities_noted.here, is_turn);
          leaders = leaders_noted.there;
          parities = parities_noted.there;
        }

-- The look up: the line that is left to go from has b's leader, and the turns add up to b's parity

pub record Climbing (b : ℕ) (g₀ g : Groups) (x turn y : ℕ) : Type 0 where
  pub within : x < 2048
  pub next : y ≡ at g.leader x
  pub not_above : y ≤ x
  pub alike : Alike 2048 (pointed g₀) (pointed g)
  pub leader : (pointed g₀).leader b ≡ (pointed g₀).leader x
  pub turned : Even (turn + (pointed g₀).parity x + (pointed g₀).parity b)

pub climb_start : (b : ℕ) (g : Groups) → b < 2048 → Climbing b g g b 0 (at g.leader b)
climb_start b g h =
    record {
      within = h;
      next = refl;
      not_above = g.down b h;
      alike = alike_same 2048 (pointed g);
      leader = refl;
      turned = omega arith;
    }

module _ (b : ℕ) (g₀ g : Groups) (x turn y : ℕ) (c : Climbing b g₀ g x turn y) (d : y ≡ x → ⊥) where
  module _ (g' : Groups) (p : PassedBy x y g g') where
    abbrev x' : ℕ
    x' = at g'.leader x

    pub climb_less : x' < x
    climb_less =
        let d' : y ≢ x = d in
        let l : y < x = omega (arith, c.not_above) in
        omega (arith, p.next, g.down y (omega (arith, c.within)))

    pub climb_within : x' < 2048
    climb_within = omega (arith, climb_less, c.within)

    pub climb_more : (t : ℕ) → t ≡ (turn + at g'.parity x + 0) % 2 → Climbing b g₀ g' x' t (at g'.leader x')
    climb_more t e =
        let l = climb_less in
        let k = c.within in
        let k' = climb_within in
        let a = alike_then c.alike p.alike in
        let f = (pointed_stands g').onward x k (λ z. omega arith) in
        record {
          within = k';
          next = refl;
          not_above = g'.down x' k';
          alike = a;
          leader = c.leader ∙ sym (a.leaders x k) ∙ f.0 ∙ a.leaders x' k';
          turned = omega (arith, c.turned, e, f.1, a.parities x k, a.parities x' k');
        }

pub climbed : (b : ℕ) (g₀ g : Groups) (x turn y : ℕ) → Climbing b g₀ g x turn y → y ≡ x → LookedUp b g₀ g x turn
climbed b g₀ g x turn y c e =
    let k = c.within in
    let s : at g.leader x ≡ x = sym c.next ∙ e in
    let f = (pointed_stands g).here x k s in
    let l : (pointed g₀).leader x ≡ x = sym (c.alike.leaders x k) ∙ f.0 in
    record {
      alike = c.alike;
      leader = c.leader ∙ l;
      within = k;
      leads = l;
      turned = omega (arith, c.turned, c.alike.parities x k, f.1, g.own x k s);
    }

-- The pass that makes pointers flat: the lines passed have their leader and their parity

pub record Flattening (lines : ℕ) (g₀ g : Groups) (b : ℕ) : Type 0 where
  pub few : lines ≤ 2048
  pub upto : b ≤ lines
  pub alike : Alike 2048 (pointed g₀) (pointed g)
  pub leaders : (w : ℕ) → w < b → at g.leader w ≡ (pointed g₀).leader w
  pub parities : (w : ℕ) → w < b → (columns g).parity w ≡ (pointed g₀).parity w

module _ (lines : ℕ) (g₀ g : Groups) (b : ℕ) (s : Flattening lines g₀ g b) where
  module _ (h : b < lines) where
    within : b < 2048
    within = omega (arith, s.few)

    -- one line more
    flat_more : (g' : Groups) → Alike 2048 (pointed g) (pointed g')
        → ((w : ℕ) → w < 2048 → (w ≡ b → ⊥) → at g'.leader w ≡ at g.leader w) → ((w : ℕ) → w < 2048 → (w ≡ b → ⊥) → (columns g').parity w ≡ (columns g).parity w)
        → (at g'.leader b ≡ (pointed g).leader b) × ((columns g').parity b ≡ (pointed g).parity b) → Flattening lines g₀ g' (b + 1)
    flat_more g' a ls ps q =
        let k = within in
        record {
          few = s.few;
          upto = omega arith;
          alike = alike_then s.alike a;
          leaders = λ w j.
              cases (eq_or w b)
              (λ e. rw e (q.0 ∙ s.alike.leaders b k))
              (λ d. let d' : w ≢ b = d in ls w (omega arith) d ∙ s.leaders w (omega arith));
          parities = λ w j.
              cases (eq_or w b)
              (λ e. rw e (q.1 ∙ s.alike.parities b k))
              (λ d. let d' : w ≢ b = d in ps w (omega arith) d ∙ s.parities w (omega arith));
        }

    pub flat_kept : at g.leader b ≡ b → Flattening lines g₀ g (b + 1)
    flat_kept e =
        flat_more g (alike_same 2048 (pointed g)) (λ w k d. refl) (λ w k d. refl) (flat_here (pointed_stands g) b within e)

    module _ (d : at g.leader b ≡ b → ⊥) where
      abbrev l : ℕ
      l = at g.leader b

      lower_line : l < b
      lower_line = let d' : l ≢ b = d in omega (arith, g.down b within)

      pub flat_drawn : (g' : Groups) → PassedBy b l g g' → Flattening lines g₀ g' (b + 1)
      flat_drawn g' p =
          let k = within in
          let o = lower_line in
          let el : at g.leader l ≡ (pointed g).leader l = s.leaders l o ∙ sym (s.alike.leaders l (omega arith)) in
          let ep : at g.parity l ≡ (pointed g).parity l = s.parities l o ∙ sym (s.alike.parities l (omega arith)) in
          flat_more g' p.alike p.leaders p.parities
          (flat_passed (pointed_stands g) b k d (at g'.leader b) (at g'.parity b) (p.next ∙ el)
          (p.turn ∙ ap (λ (z : ℕ). (at g.parity b + z) % 2) ep))

  pub flattened : lines ≤ b → Flattened lines g₀ g
  flattened h =
      let k = s.few in
      record {
        alike = record {
          leaders = λ w o. s.leaders w (omega arith);
          parities = λ w o. s.parities w (omega arith);
          froms = λ w o. sym (from_pointed g w) ∙ s.alike.froms w (omega arith);
          tos = λ w o. sym (to_pointed g w) ∙ s.alike.tos w (omega arith);
        };
      }
