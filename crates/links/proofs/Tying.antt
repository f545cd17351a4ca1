-- One link taken in. The tables are groups under the links that they obey; taking in one more keeps them so, and obeys it too, or shows that nothing
-- can.
use mathlib.Core.Logic.{inl, inr}
use mathlib.Core.Path.{◌≡◌, refl, sym, ◌∙◌}
use Prim.Native.Nat.{ℕ, ◌≤◌}
use native.Mathlib.Omega.{arith}
use Rattle.std.specs.Prelude.{Ok, Err}
use Rattle.laws.proofs.Cases.{cases}
use Rattle.side.specs.Sides.{code}
use Rattle.side.specs.declared.Wants.{Wants}
use Rattle.tree.specs.Tree.{Tree}
use Rattle.tree.specs.Returns.{backb}
use Rattle.fork.specs.Link.{Link}
use Rattle.fork.proofs.Rule.{back_yes}
use Rattle.fork.proofs.Links.{link_ends}
use Rattle.groups.specs.Constraints.{Constraints, More, Sided}
use Rattle.groups.specs.Groups.{Tables, Grouped, pointed}
use Rattle.groups.specs.Calls.{Alike, Joinable, Replied, JoiningGives}
use Rattle.groups.specs.declared.Groups.{Groups}
use Rattle.groups.specs.declared.Joining.{Joining}
use Rattle.groups.specs.declared.Joining.TheVariants.{Agrees, Conflicts, Joins}
use Rattle.groups.proofs.Grouped.{None}
use Rattle.groups.proofs.Alike.{after_agreeing, after_joining, grouped_alike}
use Rattle.links.specs.Inside.{Closed, Taken, Together, Unkept, Outcome, obeyed, unkept, Tieable}
use Rattle.links.proofs.Closing.{closed_alike, closed_joined}

module _ (S : Tree) where
  pub link_sided : {b d k : ℕ} → Link S b d k → Sided S.lines (backb S) b × Sided S.lines (backb S) d
  link_sided {b} {d} {k} l =
      let q = link_ends S l in
      (record { within = q.0.0.below; is_back = back_yes S b q.0 }, record { within = q.1.0.below; is_back = back_yes S d q.1 })

  -- more links may be counted in, as long as the tables obey them
  widen : (P : Constraints) (t : Tables) → Grouped S.lines (backb S) P t → ((b d k : ℕ) → P b d k → Link S b d k) → Together S t
  widen P t g f =
      record {
        low = g.low;
        home = g.home;
        tree = g.tree;
        kin = g.kin;
        side = g.side;
        base = g.base;
        ends = λ b d k q. link_sided q.0;
        closed = λ b d k q. (q.1.together, q.1.even);
        told = λ c q. g.told c (λ b d k p. let x = g.closed b d k p in q b d k (f b d k p, record { together = x.0; even = x.1 }));
        inside = g.inside;
        idle = g.idle;
        taken = λ x h. cases (g.taken x h) inl (λ p. let y = g.closed _ _ _ p in inr (f _ _ _ p, record { together = y.0; even = y.1 }));
        way = g.way;
      }

  -- tables that agree on the lines are groups under the links too
  pub together_alike : {n : ℕ} {t t' : Tables} → S.lines ≤ n → Alike n t t' → Together S t → Together S t'
  together_alike {n} {t} {t'} few a g =
      widen (Taken S t) t' (grouped_alike S.lines (backb S) (Taken S t) n few t t' a g) (λ b d k q. q.0)

  pub unkept_alike : {n : ℕ} {t t' : Tables} → S.lines ≤ n → Alike n t t' → {b d k : ℕ} → Unkept S t b d k → Unkept S t' b d k
  unkept_alike few a {b} {d} u =
      let e = link_sided u.link in
      let hb = e.0.within in
      let hd = e.1.within in
      record {
        link = u.link;
        together = a.leaders b (omega arith) ∙ u.together ∙ sym (a.leaders d (omega arith));
        odd = omega (arith, u.odd, a.parities b (omega arith), a.parities d (omega arith));
      }

  pub none_together : (t : Tables) → Grouped S.lines (backb S) None t → Together S t
  none_together t g = widen None t g (λ b d k x. absurd x)

pub take_joinable : {S : Tree} {b d k : ℕ} {g : Groups} → Tieable S b d k g → Joinable b d
take_joinable {S} t =
    let e = link_sided S t.link in
    record { first = omega (arith, e.0.within, t.sound.few); second = omega (arith, e.1.within, t.sound.few) }

module _ (S : Tree) (b d : ℕ) (wants : Wants) (g g' : Groups) (t : Tieable S b d (code wants) g) where
  abbrev k : ℕ
  k = code wants

  few : S.lines ≤ 2048
  few = t.sound.few

  b_side : Sided S.lines (backb S) b
  b_side = (link_sided S t.link).0

  d_side : Sided S.lines (backb S) d
  d_side = (link_sided S t.link).1

  more_links : (x y z : ℕ) → More (Taken S (pointed g)) b d k x y z → Link S x y z
  more_links x y z m = cases m (λ p. p.0) (λ e. rw (e.0, e.1, e.2) t.link)

  sound_more : Grouped S.lines (backb S) (More (Taken S (pointed g)) b d k) (pointed g') → Together S (pointed g') × Closed (pointed g') b d k
  sound_more q = (
    widen S (More (Taken S (pointed g)) b d k) (pointed g') q more_links,
    (let c = q.closed b d k (inr (refl, refl, refl)) in record { together = c.0; even = c.1 }),
  )

  pub take_agreed : (r : Joining) → Replied b d k g g' r → r ≡ Agrees → Outcome S g g' (Closed (pointed g') b d k) (Ok tt)
  take_agreed r a e =
      let j : JoiningGives b d k (pointed g) (pointed g') Agrees = rw e at a.answer in
      let s = sound_more (after_agreeing S.lines (backb S) (Taken S (pointed g)) b d k b_side d_side few (pointed g) (pointed g') t.sound.together j) in
      obeyed (record { few = few; together = s.0 }) (λ x y z hx hy c. let f = few in closed_alike j.2 x y z (omega arith) (omega arith) c) s.1

  pub take_joined : (r : Joining) → Replied b d k g g' r → r ≡ Joins → Outcome S g g' (Closed (pointed g') b d k) (Ok tt)
  take_joined r a e =
      let j : JoiningGives b d k (pointed g) (pointed g') Joins = rw e at a.answer in
      let s = sound_more (after_joining S.lines (backb S) (Taken S (pointed g)) b d k b_side d_side few (pointed g) (pointed g') t.sound.together t.small j) in
      obeyed (record { few = few; together = s.0 }) (λ x y z hx hy c. let f = few in closed_joined j x y z (omega arith) (omega arith) c) s.1

  pub take_torn : (r : Joining) → Replied b d k g g' r → r ≡ Conflicts → Outcome S g g' (Closed (pointed g') b d k) (Err (record { one = b; two = d; wants = wants }))
  take_torn r a e =
      let j : JoiningGives b d k (pointed g) (pointed g') Conflicts = rw e at a.answer in
      unkept (record { few = few; together = together_alike S few j.2 t.sound.together })
      (unkept_alike S few j.2 (record { link = t.link; together = j.0; odd = j.1 }))
