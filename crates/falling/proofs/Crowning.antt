-- A tree line that nothing has passed: the back line that comes is its top. The line meets what was met at its fork, is kept there, and its top and its
-- height are written down; with its own top it is a stretch of one.
use mathlib.Core.Bool.{false}
use mathlib.Core.List.{List}
use mathlib.Core.Logic.{◌⊎◌, inl, inr}
use mathlib.Core.Path.{◌≡◌, refl, sym, ◌∙◌, ap, subst}
use Prim.Native.Nat.{ℕ, suc, ◌<◌}
use native.Mathlib.Omega.{arith}
use lib.ListN.{set, length-set}
use lib.Seq.{get_or-set_same, get_or-set_other}
use Rattle.std.specs.Prelude.{Ok}
use Rattle.laws.specs.Lists.{at}
use Rattle.laws.proofs.Cases.{cases, eq_or, lt_or, true_false}
use Rattle.network.specs.Marks.{absent}
use Rattle.tree.specs.Tree.{Tree}
use Rattle.tree.specs.Returns.{low}
use Rattle.tree.specs.Words.{TreeLine, BackLine, Return, Above}
use Rattle.tree.specs.Searched.{Searched}
use Rattle.tree.proofs.Returns.{low_most}
use Rattle.fork.specs.Ends.{high, top}
use Rattle.fork.specs.Link.{Overlap}
use Rattle.fork.proofs.Found.{way_only}
use Rattle.fork.proofs.Links.{overlap_turned}
use Rattle.groups.specs.Groups.{pointed}
use Rattle.groups.specs.declared.Groups.{Groups}
use Rattle.links.specs.Inside.{Closed, Outcome, obeyed}
use Rattle.links.proofs.Closing.{closed_self, closed_same}
use Rattle.meeting.specs.Inside.{Met, KeptAt, ApartAt, Arriving, Meeting, MetApart, Inserted, Insertable}
use Rattle.meeting.proofs.Keeping.{Newly, kept_more, kept_elsewhere}
use Rattle.meeting.proofs.Staying.{apart_more, apart_elsewhere}
use Rattle.meeting.proofs.Overlapping.{back_overlaps_none}
use Rattle.fork.specs.declared.Forks.{Forks}
use Rattle.spans.specs.declared.Jumps.{Jumps}
use Rattle.meeting.specs.declared.Pairs.{Pairs}
use Rattle.falling.specs.Down.{FallsBefore, Overtook, Worn, Bare, Joint, Stretch, IdleJump, Segment, Midway, Landing, Passed, Crowned}
use Rattle.falling.proofs.Stretching.{topped}
use Rattle.falling.proofs.Overtaking.{first_is_top, landing_tied, v_line, v_up}

module _ {S : Tree} {b x v : ℕ} {parents : List ℕ} {jumps : Jumps} {pairs : Pairs} {forks : Forks} {g : Groups}
    (P : Landing S b x v parents jumps pairs forks g) (free : at jumps.held v ≡ absent) where
  F : Midway S x b (S.height v) (suc b) jumps pairs forks g
  F = P.state

  X : Searched S
  X = F.finished.searched

  abbrev f : ℕ
  f = S.parent v

  abbrev u : ℕ
  u = at jumps.onward v

  fresh : IdleJump S forks v (at jumps.onward v) (at jumps.least v) (at jumps.held v)
  fresh =
      cases (F.segments v P.inside (omega (arith, P.over)))
      (λ z. z)
      (λ s. let few = F.finished.few_lines in absurd (omega (arith, s.line, free)))

  bare : Bare S x b (S.height v) forks f
  bare = cases (F.crowns f (v_line P).0) (λ w. absurd (fresh.unmet ((v_line P).0, omega (arith, w.named, w.return.is_back.0.below)))) (λ z. z)

  crown : (top S f ≡ b) × (high S f ≡ x)
  crown = first_is_top S x b f P.its_end (v_line P).2 (λ c r t. bare.unpassed c r (inl t))

  below_v : S.height v ≡ suc (S.height u)
  below_v = let z : S.height u ≡ S.height (S.source f) = ap S.height fresh.next in omega (arith, (v_line P).1)

  u_in : u < S.vertices
  u_in = subst (λ (y : ℕ). y < S.vertices) (sym fresh.next) (X.source_in f (v_line P).0.0)

  pub arriving : Arriving S b x (low S f) u f
  arriving =
      record { line = (v_line P).0.0; leaves = sym fresh.next; return = (v_line P).2; its_top = crown.0; its_high = crown.1; its_low = refl }

  pub crown_meeting : Meeting S b x (low S f) u forks pairs g
  crown_meeting =
      record {
        finished = F.finished;
        spans = F.spans;
        pairs_long = F.pairs_long;
        vertex = u_in;
        arriving = (f, arriving, fresh.unmet);
        topped = topped F P.back_line P.its_end;
        kept = F.kept u u_in;
        apart = F.apart u u_in;
        sound = F.sound;
      }

  low_small : low S f < 512
  low_small = let few = F.finished.few_vertices in let i = X.source_in f (v_line P).0.0 in omega (arith, low_most S f, X.height_small (S.source f) i)

  pub crown_insertable : Insertable b (low S f) u pairs
  crown_insertable =
      let few = F.finished.few_vertices in
      record { long = F.pairs_long; vertex = omega (arith, u_in); line = omega (arith, P.back_line.0.below, F.finished.few_lines); height = low_small }

  -- The tables after

  abbrev forks' : Forks
  forks' = record forks { high = set forks.high f x; top = set forks.top f b }

  abbrev jumps' : Jumps
  jumps' = record jumps { held = set jumps.held v b }

  module _ (apart : MetApart S b x (low S f) u forks g) {pairs' : Pairs} (I : Inserted b (low S f) u pairs pairs') where
    top_at : at forks'.top f ≡ b
    top_at = get_or-set_same forks.top f b 0 (omega (arith, (v_line P).0.0.below, F.finished.few_lines, F.spans.long.tops))

    high_at : at forks'.high f ≡ x
    high_at = get_or-set_same forks.high f x 0 (omega (arith, (v_line P).0.0.below, F.finished.few_lines, F.spans.long.highs))

    top_rest : (k : ℕ) → (k ≡ f → ⊥) → at forks'.top k ≡ at forks.top k
    top_rest k d = get_or-set_other forks.top f k b 0 d

    high_rest : (k : ℕ) → (k ≡ f → ⊥) → at forks'.high k ≡ at forks.high k
    high_rest k d = get_or-set_other forks.high f k x 0 d

    held_at : at jumps'.held v ≡ b
    held_at = get_or-set_same jumps.held v b 0 (omega (arith, P.inside, F.finished.few_vertices, F.jumps_long.helds))

    held_rest : (w : ℕ) → (w ≡ v → ⊥) → at jumps'.held w ≡ at jumps.held w
    held_rest w d = get_or-set_other jumps.held v w b 0 d

    met_here : Met S forks' f
    met_here = ((v_line P).0, omega (arith, top_at, P.back_line.0.below))

    not_f : (k : ℕ) → Met S forks k → k ≡ f → ⊥
    not_f k m e = fresh.unmet (subst (λ (y : ℕ). Met S forks y) e m)

    met_still : (k : ℕ) → Met S forks k → Met S forks' k
    met_still k m = (m.0, omega (arith, top_rest k (not_f k m), m.1))

    met_only : (k : ℕ) → Met S forks' k → (k ≡ f) ⊎ Met S forks k
    met_only k m = cases (eq_or k f) (λ e. inl e) (λ d. inr (m.0, omega (arith, top_rest k d, m.1)))

    new_line : Newly S forks forks' b (low S f) u f
    new_line =
        record {
          leaves = sym fresh.next;
          its_low = refl;
          its_top = crown.0;
          height = low_small;
          unmet = fresh.unmet;
          met = met_here;
          still = met_still;
          only = met_only;
        }

    -- the line alone
    alone : Stretch S x forks' g v u (at jumps.least v) (at jumps'.held v)
    alone =
        let s = below_v in
        rw held_at
        (record {
          inside = u_in;
          below = rw fresh.next (subst (λ (y : ℕ). Above S (S.source f) y) (X.parent v P.inside (omega (arith, P.over))).1 (X.above_line f (v_line P).0));
          lower = omega arith;
          line = P.back_line.0.below;
          each = λ w j a q.
              let e : w ≡ v = X.above_level w v v a (X.above_self v) (omega (arith, X.above_height w v a)) in
              subst (λ (y : ℕ). Joint S x forks' g (at jumps.least v) b y) (sym e)
              (record {
                met = met_here;
                no_less = omega (arith, fresh.rival_is);
                tied = λ z. subst (λ (y : ℕ). Closed (pointed g) y b 0) (sym crown.0) (closed_self b);
              });
          place = v;
          place_in = P.inside;
          place_on = X.above_self v;
          place_over = omega arith;
          place_rival = sym fresh.rival_is;
          place_top = crown.0;
        })

    stretch_still : {w d r t : ℕ} → Stretch S x forks g w d r t → Stretch S x forks' g w d r t
    stretch_still s =
        record {
          inside = s.inside;
          below = s.below;
          lower = s.lower;
          line = s.line;
          each = λ y i a q. let j = s.each y i a q in record { met = met_still _ j.met; no_less = j.no_less; tied = j.tied };
          place = s.place;
          place_in = s.place_in;
          place_on = s.place_on;
          place_over = s.place_over;
          place_rival = s.place_rival;
          place_top = s.place_top;
        }

    fresh_still : {w d r t : ℕ} → w < S.vertices → 0 < S.height w → (w ≡ v → ⊥) → IdleJump S forks w d r t → IdleJump S forks' w d r t
    fresh_still {w} {d} {r} {t} i q n z =
        record {
          unheld = z.unheld;
          next = z.next;
          rival_is = z.rival_is;
          unmet = λ m.
              cases (met_only (S.parent w) m)
              (λ e. n (sym (X.parent w i q).1 ∙ ap S.target e ∙ (X.parent v P.inside (omega (arith, P.over))).1))
              (λ m'. z.unmet m');
        }

    segment : (w : ℕ) → w < S.vertices → 0 < S.height w → Segment S x jumps' forks' g w
    segment w i q =
        cases (eq_or w v)
        (λ e. subst (λ (y : ℕ). Segment S x jumps' forks' g y) (sym e) (inr alone))
        (λ d.
        rw (held_rest w d)
        (cases (F.segments w i q) (λ z. inl (fresh_still i q d z)) (λ z. inr (stretch_still z))))

    -- what b has passed now it had passed before, or it is f
    newly : (k c : ℕ) → TreeLine S k → Return S k c → Overtook S x b (S.height u) k c → Overtook S x b (S.height v) k c ⊎ ((c ≡ b) × (k ≡ f))
    newly k c l r (inl p) = inl (inl p)
    newly k c l r (inr (e, q)) =
        cases (lt_or (S.height v) (S.height (S.target k)))
        (λ y. inl (inr (e, y)))
        (λ y.
        let s = below_v in
        inr (e, way_only S X b P.back_line k v l (subst (λ (z : ℕ). Return S k z) e r) P.inside P.on_way (omega arith)))

    crowned : (k : ℕ) → TreeLine S k → Worn S x b (S.height u) forks' k ⊎ Bare S x b (S.height u) forks' k
    crowned k l =
        let s = below_v in
        cases (eq_or k f)
        (λ e.
        inl (subst (λ (y : ℕ). Worn S x b (S.height u) forks' y) (sym e)
        (record {
          named = top_at ∙ sym crown.0;
          height = high_at ∙ sym crown.1;
          return = subst (λ (y : ℕ). Return S f y) (sym crown.0) (v_line P).2;
          past = inr (crown.0, omega (arith, v_up P));
        })))
        (λ d.
        cases (F.crowns k l)
        (λ w.
        inl (record {
          named = top_rest k d ∙ w.named;
          height = high_rest k d ∙ w.height;
          return = w.return;
          past = cases w.past (λ q. inl q) (λ q. inr (q.0, omega (arith, q.1)));
        }))
        (λ n.
        inr (record {
          unnamed = top_rest k d ∙ n.unnamed;
          height = high_rest k d ∙ n.height;
          unpassed = λ c r p. cases (newly k c l r p) (λ q. n.unpassed c r q) (λ q. d q.1);
        })))

    parted : (w : ℕ) → w < S.vertices → ApartAt S forks' g w
    parted w i =
        let t = topped F P.back_line P.its_end in
        let same = closed_same S g in
        cases (eq_or w u)
        (λ e. subst (λ (y : ℕ). ApartAt S forks' g y) (sym e) (apart_more t new_line g g same arriving apart (F.apart u u_in)))
        (λ d. apart_elsewhere t new_line g g same d (F.apart w i))

    -- a back line that came before overlaps nothing that comes later: it ends no lower than x
    beside_none : (c : ℕ) → BackLine S c → FallsBefore S x (suc b) c → Overlap S f c → ⊥
    beside_none c l t o =
        back_overlaps_none X l (cases t (λ p. omega (arith, crown.1)) (λ p. omega (arith, crown.1, p.0))) (overlap_turned S f c o)

    pub state_crowned : Midway S x b (S.height u) (suc b) jumps' pairs' forks' g
    state_crowned =
        record {
          finished = F.finished;
          spans = record {
            long = record {
              sources = F.spans.long.sources;
              stops = F.spans.long.stops;
              lows = F.spans.long.lows;
              highs = length-set forks.high f x ∙ F.spans.long.highs;
              tops = length-set forks.top f b ∙ F.spans.long.tops;
            };
            sources = F.spans.sources;
            stops = F.spans.stops;
            no_stops = F.spans.no_stops;
          };
          lows = record { each = F.lows.each };
          jumps_long = record {
            onwards = F.jumps_long.onwards;
            leasts = F.jumps_long.leasts;
            helds = length-set jumps.held v b ∙ F.jumps_long.helds;
          };
          pairs_long = I.long;
          back_highs = λ c l. high_rest c (back_not c l) ∙ F.back_highs c l;
          back_tops = λ c l. top_rest c (back_not c l) ∙ F.back_tops c l;
          crowns = crowned;
          segments = segment;
          held = λ k c l p q.
              cases (newly k c l q.return p)
              (λ z. F.held k c l z q)
              (λ z. subst (λ (y : ℕ). Closed (pointed g) c y 0) (sym (ap (top S) z.1 ∙ crown.0)) (subst (λ (y : ℕ). Closed (pointed g) y b 0) (sym z.0) (closed_self b)));
          kept = λ w j.
              cases (eq_or w u)
              (λ e. subst (λ (y : ℕ). KeptAt S forks' pairs' y) (sym e) (kept_more new_line I (F.kept u u_in)))
              (λ d. kept_elsewhere new_line I (omega (arith, F.finished.few_vertices)) d (F.kept w j));
          apart = parted;
          beside = λ k c m l t e o.
              cases (met_only k m)
              (λ z. absurd (beside_none c l t (subst (λ (y : ℕ). Overlap S y c) z o)))
              (λ z. F.beside k c z l t e o);
          sound = F.sound;
        }
      where
        back_not : (c : ℕ) → BackLine S c → c ≡ f → ⊥
        back_not c l e = true_false (v_line P).0.1 (subst (λ (y : ℕ). S.tree y ≡ false) e l.1)

  -- In the code's terms: f' is the line up to v

  abbrev f' : ℕ
  f' = at parents v

  f_is : f' ≡ f
  f_is = P.each_parent.each v P.inside

  low_is : at forks.low f' ≡ low S f
  low_is = ap (at forks.low) f_is ∙ F.lows.each f (v_line P).0.0.below

  pub crown_meets : Meeting S b x (at forks.low f') u forks pairs g
  crown_meets = rw low_is crown_meeting

  pub crown_keeps : Insertable b (at forks.low f') u pairs
  crown_keeps = rw low_is crown_insertable

  crown_end : MetApart S b x (at forks.low f') u forks g → {pairs' : Pairs} → Inserted b (at forks.low f') u pairs pairs' → {forks'' : Forks} {jumps'' : Jumps}
      → Crowned b x f' v forks forks'' jumps jumps'' → Passed S b x v jumps jumps'' pairs' forks'' g
  crown_end m {pairs'} i {forks''} {jumps''} c =
      let m' : MetApart S b x (low S f) u forks g = rw low_is at m in
      let i' : Inserted b (low S f) u pairs pairs' = rw low_is at i in
      let c' : Crowned b x f v forks forks'' jumps jumps'' = subst (λ (y : ℕ). Crowned b x y v forks forks'' jumps jumps'') f_is c in
      rw (c'.forks_are, c'.jumps_are) (record { state = state_crowned m' i'; onwards = λ w h. refl })

pub crown_done : {S : Tree} {b x v : ℕ} {parents : List ℕ} {jumps jumps' : Jumps} {pairs pairs' : Pairs} {forks forks' : Forks} {g g' : Groups}
    → Landing S b x v parents jumps pairs forks g
    → at jumps.held v ≡ absent → Outcome S g g' (MetApart S b x (at forks.low (at parents v)) (at jumps.onward v) forks g') (Ok tt)
    → Inserted b (at forks.low (at parents v)) (at jumps.onward v) pairs pairs' → Crowned b x (at parents v) v forks forks' jumps jumps'
    → Outcome S g g' (Passed S b x v jumps jumps' pairs' forks' g') (Ok tt)
crown_done P free (obeyed s on a) i c = obeyed s on (crown_end (landing_tied P s on) free a i c)
