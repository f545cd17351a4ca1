-- Tables that agree on the lines are groups under the same constraints.
use mathlib.Core.Bool.{Bool}
use mathlib.Core.Logic.{inr}
use mathlib.Core.Path.{◌≡◌, refl, sym, ap, ◌∙◌, subst}
use Prim.Native.Nat.{ℕ, ◌≤◌, ◌<◌}
use native.Mathlib.Omega.{arith}
use Rattle.groups.specs.Constraints.{Constraints, More, Sided}
use Rattle.groups.specs.Groups.{Tables, Grouped, Joins}
use Rattle.groups.specs.Calls.{Alike, Joined, JoiningGives}
use Rattle.groups.specs.declared.Joining.TheVariants.{Agrees}
use Rattle.groups.proofs.Ways.{way_map}
use Rattle.groups.proofs.Grouped.{grouped_agrees, grouped_joined}

pub alike_same : (n : ℕ) (t : Tables) → Alike n t t
alike_same n t = record { leaders = λ x h. refl; parities = λ x h. refl; froms = λ x h. refl; tos = λ x h. refl }

pub alike_then : {n : ℕ} {t u v : Tables} → Alike n t u → Alike n u v → Alike n t v
alike_then a b =
    record {
      leaders = λ x h. b.leaders x h ∙ a.leaders x h;
      parities = λ x h. b.parities x h ∙ a.parities x h;
      froms = λ x h. b.froms x h ∙ a.froms x h;
      tos = λ x h. b.tos x h ∙ a.tos x h;
    }

module _ (lines : ℕ) (back : ℕ → Bool) (P : Constraints) (n : ℕ) (few : lines ≤ n) (t t' : Tables) (a : Alike n t t') (g : Grouped lines back P t) where
  led : (b : ℕ) → b < lines → t'.leader b ≡ t.leader b
  led b h = a.leaders b (omega arith)

  sided : (b : ℕ) → b < lines → t'.parity b ≡ t.parity b
  sided b h = a.parities b (omega arith)

  step : (u v : ℕ) → Joins lines t.from t.to u v → Joins lines t'.from t'.to u v
  step u v j =
      record {
        place = j.place;
        within = j.within;
        is_from = a.froms j.place (omega (arith, j.within)) ∙ j.is_from;
        is_to = a.tos j.place (omega (arith, j.within)) ∙ j.is_to;
      }

  pub grouped_alike : Grouped lines back P t'
  grouped_alike =
      record {
        low = λ b h. omega (arith, led b h, g.low b h);
        home = λ b h. ap t'.leader (led b h) ∙ led (t.leader b) (omega (arith, g.low b h)) ∙ g.home b h ∙ sym (led b h);
        tree = λ b h f. let q = g.tree b h f in (led b h ∙ q.0, sided b h ∙ q.1);
        kin = λ b h. subst (λ (x : ℕ). Sided lines back x) (sym (led b h.within)) (g.kin b h);
        side = λ b h. omega (arith, sided b h.within, g.side b h);
        base = λ b h e. sided b h.within ∙ g.base b h (sym (led b h.within) ∙ e);
        ends = g.ends;
        closed = λ b d k p.
            let q = g.ends b d k p in
            let c = g.closed b d k p in
            (led b q.0.within ∙ c.0 ∙ sym (led d q.1.within), omega (arith, c.1, sided b q.0.within, sided d q.1.within));
        told = λ s q b h. let e : s (t'.leader b) ≡ s (t.leader b) = ap s (led b h.within) in omega (arith, g.told s q b h, sided b h.within);
        inside = λ x h. (omega (arith, a.froms x (omega arith), (g.inside x h).0), omega (arith, a.tos x (omega arith), (g.inside x h).1));
        idle = λ x h e. a.froms x (omega arith) ∙ g.idle x h (sym (led x h) ∙ e) ∙ sym (a.tos x (omega arith));
        taken = λ x h.
            let i = g.inside x h in
            rw (a.froms x (omega arith), a.tos x (omega arith), sided (t.from x) i.0, sided (t.to x) i.1) (g.taken x h);
        way = λ b h. rw (led b h.within) (way_map (λ u v j. inr (step u v j)) (g.way b h));
      }

-- Taking in a constraint

module _ (lines : ℕ) (back : ℕ → Bool) (P : Constraints) (b d kind : ℕ) (hb : Sided lines back b) (hd : Sided lines back d) (few : lines ≤ 2048)
    (t t' : Tables) (g : Grouped lines back P t) where
  pub after_agreeing : JoiningGives b d kind t t' Agrees → Grouped lines back (More P b d kind) t'
  after_agreeing j = grouped_alike lines back (More P b d kind) 2048 few t t' j.2 (grouped_agrees lines back P t g b d kind hb hd j.0 j.1)

  pub after_joining : kind ≤ 1 → Joined 2048 b d kind t t' → Grouped lines back (More P b d kind) t'
  after_joining small j =
      grouped_joined lines back P t g b d kind hb hd small j.low j.high j.less j.who t'
      (record {
        groups = record { each = λ x h. j.merged.groups.each x (omega arith) };
        from = record { here = j.merged.from.here; there = λ x h. j.merged.from.there x (omega arith) };
        to = record { here = j.merged.to.here; there = λ x h. j.merged.to.there x (omega arith) };
      })
