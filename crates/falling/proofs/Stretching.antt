-- Segments (Q2): all that a back line has passed on its way down is one stretch, since the line is tied to each top there that still holds something. So a
-- jump may go on over whatever the line that comes down has passed.
use mathlib.Core.Logic.{inr}
use mathlib.Core.Path.{◌≡◌, refl, sym, ap, subst}
use Prim.Native.Nat.{ℕ, suc, ◌≤◌, ◌<◌}
use native.Mathlib.Omega.{arith}
use Rattle.laws.specs.Lists.{at}
use Rattle.laws.proofs.Cases.{cases, eq_or, lt_or}
use Rattle.tree.specs.Tree.{Tree}
use Rattle.tree.specs.Returns.{end}
use Rattle.tree.specs.Words.{TreeLine, BackLine, Return, Above}
use Rattle.tree.specs.Searched.{Searched}
use Rattle.fork.specs.Ends.{top}
use Rattle.fork.specs.Link.{rival}
use Rattle.fork.proofs.Ends.{top_is}
use Rattle.fork.proofs.Found.{way_return}
use Rattle.groups.specs.Groups.{pointed}
use Rattle.groups.specs.declared.Groups.{Groups}
use Rattle.links.specs.Inside.{Closed}
use Rattle.links.proofs.Closing.{closed_turned, closed_then}
use Rattle.meeting.specs.Inside.{Met, Topped}
use Rattle.fork.specs.declared.Forks.{Forks}
use Rattle.spans.specs.declared.Jumps.{Jumps}
use Rattle.meeting.specs.declared.Pairs.{Pairs}
use Rattle.falling.specs.Down.{Overtook, Stretch, Segment, Midway, Extended}
use Rattle.falling.proofs.Moving.{worn_of, top_line, past_end}

module _ {S : Tree} {x b h o : ℕ} {jumps : Jumps} {pairs : Pairs} {forks : Forks} {g : Groups} (F : Midway S x b h o jumps pairs forks g) (l : BackLine S b)
    (e : end S b ≡ x) where
  X : Searched S
  X = F.finished.searched

  -- What has been met ends no lower than x, so that b is a return of it if its way leads there

  pub topped : (f : ℕ) → Met S forks f → Topped S x forks f
  topped f m =
      let w = worn_of F f m in
      record {
        named = w.named;
        return = w.return;
        no_lower = omega (arith, past_end S x b h f (top S f) e w.past, (top_is S f (top S f) w.return).at_high);
      }

  met_over : (w : ℕ) → w < S.vertices → 0 < S.height w → Met S forks (S.parent w) → suc x < S.height w
  met_over w i q m =
      let P = X.parent w i q in
      let z : S.height (S.target (S.parent w)) ≡ S.height w = ap S.height P.1 in
      let t = worn_of F (S.parent w) m in
      omega (arith, X.rise (S.parent w) P.0, t.return.below, past_end S x b h (S.parent w) (top S (S.parent w)) e t.past)

  -- a jump goes down
  pub jump_lower : (v : ℕ) → v < S.vertices → 0 < S.height v
      → (at jumps.onward v < S.vertices) × Above S (at jumps.onward v) v × (S.height (at jumps.onward v) < S.height v)
  jump_lower v i q =
      cases (F.segments v i q)
      (λ z.
      let P = X.parent v i q in
      let n : S.height (S.target (S.parent v)) ≡ S.height v = ap S.height P.1 in
      rw z.next (X.source_in (S.parent v) P.0.0, subst (λ (y : ℕ). Above S (S.source (S.parent v)) y) P.1 (X.above_line (S.parent v) P.0), omega (arith, X.rise (S.parent v) P.0)))
      (λ z. (z.inside, z.below, z.lower))

  -- On the way of b, as far as it has come

  module _ (w : ℕ) (i : w < S.vertices) (a : Above S w (S.source b)) (over : suc x < S.height w) (q : h < S.height w) where
    pub way_back : TreeLine S (S.parent w) × (S.height w ≡ suc (S.height (S.source (S.parent w)))) × Return S (S.parent w) b
    way_back = way_return S X b l w i a (omega arith)

    way_past : Overtook S x b h (S.parent w) b
    way_past = let z : S.height (S.target (S.parent w)) ≡ S.height w = ap S.height (X.parent w i (omega arith)).1 in inr (refl, omega arith)

    pub way_met : Met S forks (S.parent w)
    way_met =
        let y = way_back in
        cases (F.crowns (S.parent w) y.0)
        (λ z. (y.0, omega (arith, z.named, z.return.is_back.0.below)))
        (λ z. absurd (z.unpassed b y.2 way_past))

    way_tied : rival S (S.parent w) < x → Closed (pointed g) b (top S (S.parent w)) 0
    way_tied z = let y = way_back in F.held (S.parent w) b y.0 way_past (record { return = y.2; higher = omega arith })

    pub way_stretch : Stretch S x forks g w (at jumps.onward w) (at jumps.least w) (at jumps.held w)
    way_stretch = cases (F.segments w i (omega arith)) (λ z. absurd (z.unmet way_met)) (λ z. z)

  -- A stretch of what b has passed

  module _ (v u r t : ℕ) (i : v < S.vertices) (a : Above S v (S.source b)) (inside : u < S.vertices) (below : Above S u v) (lower : S.height u < S.height v)
      (q : h ≤ S.height u)
      (each : (w : ℕ) → w < S.vertices → Above S w v → S.height u < S.height w → Met S forks (S.parent w) × (r ≤ rival S (S.parent w)))
      (place : ℕ) (place_in : place < S.vertices) (place_on : Above S place v) (place_over : S.height u < S.height place)
      (place_rival : rival S (S.parent place) ≡ r) (place_top : top S (S.parent place) ≡ t) where
    on_way : (w : ℕ) → Above S w v → Above S w (S.source b)
    on_way w c = X.above_trans w v (S.source b) c a

    to_b : (w : ℕ) → w < S.vertices → Above S w v → S.height u < S.height w → rival S (S.parent w) < x → Closed (pointed g) b (top S (S.parent w)) 0
    to_b w j c k z = way_tied w j (on_way w c) (met_over w j (omega arith) (each w j c k).0) (omega arith) z

    -- (Q2) whatever b has passed in a row is a stretch, under the top of a line there with the least rival: lines with rivals below x have tops tied to b
    pub stretch_by : Stretch S x forks g v u r t
    stretch_by =
        record {
          inside = inside;
          below = below;
          lower = lower;
          line = subst (λ (y : ℕ). y < S.lines) place_top (top_line F (S.parent place) (each place place_in place_on place_over).0);
          each = λ w j c k.
              let m = each w j c k in
              record {
                met = m.0;
                no_less = m.1;
                tied = λ z.
                    subst (λ (y : ℕ). Closed (pointed g) (top S (S.parent w)) y 0) place_top
                    (closed_then 0 (closed_turned (to_b w j c k z)) (to_b place place_in place_on place_over (omega (arith, m.1))));
              };
          place = place;
          place_in = place_in;
          place_on = place_on;
          place_over = place_over;
          place_rival = place_rival;
          place_top = place_top;
        }

  -- Two that follow each other, or the second of which ends the first, are one

  module _ (p v d u r₁ t₁ r₂ t₂ : ℕ) (i : p < S.vertices) (a : Above S p (S.source b)) (c : Above S v p)
      (s : Stretch S x forks g p d r₁ t₁) (z : Stretch S x forks g v u r₂ t₂) (near : S.height d ≤ S.height v) (far : S.height u ≤ S.height d)
      (q : h ≤ S.height u) where
    lower_one : S.height u < S.height p
    lower_one = omega (arith, z.lower, X.above_height v p c)

    on_one : (w : ℕ) → Above S w v → Above S w p
    on_one w k = X.above_trans w v p k c

    one_each : (r : ℕ) → r ≤ r₁ → r ≤ r₂ → (w : ℕ) → w < S.vertices → Above S w p → S.height u < S.height w
        → Met S forks (S.parent w) × (r ≤ rival S (S.parent w))
    one_each r le₁ le₂ w j k m =
        cases (lt_or (S.height d) (S.height w))
        (λ y. let n = s.each w j k y in (n.met, omega (arith, n.no_less)))
        (λ y. let n = z.each w j (X.above_between w v p k c (omega arith)) m in (n.met, omega (arith, n.no_less)))

    pub one_less : r₂ < r₁ → Stretch S x forks g p u r₂ t₂
    one_less y =
        stretch_by p u r₂ t₂ i a z.inside (on_one u z.below) lower_one q (one_each r₂ (omega arith) (omega arith)) z.place z.place_in (on_one z.place z.place_on) z.place_over
        z.place_rival z.place_top

    pub one_no_less : r₁ ≤ r₂ → Stretch S x forks g p u r₁ t₁
    one_no_less y =
        stretch_by p u r₁ t₁ i a z.inside (on_one u z.below) lower_one q (one_each r₁ (omega arith) (omega arith)) s.place s.place_in s.place_on (omega (arith, s.place_over))
        s.place_rival s.place_top

  -- The jump from p goes on

  module _ (p v : ℕ) (i : p < S.vertices) (a : Above S p (S.source b)) (j : v < S.vertices) (c : Above S v p) (over : suc x < S.height v)
      (near : S.height (at jumps.onward p) ≤ S.height v) (far : S.height (at jumps.onward v) ≤ S.height (at jumps.onward p))
      (q : h ≤ S.height (at jumps.onward v))
      {jumps' : Jumps} (E : Extended p v jumps jumps') where
    v_way : Above S v (S.source b)
    v_way = X.above_trans v p (S.source b) c a

    extended_here : Stretch S x forks g p (at jumps'.onward p) (at jumps'.least p) (at jumps'.held p)
    extended_here =
        let hp = X.above_height v p c in
        let k = (jump_lower v j (omega arith)).2 in
        let z = way_stretch v j v_way over (omega arith) in
        let s = way_stretch p i a (omega arith) (omega arith) in
        let o = E.onward in
        cases (lt_or (at jumps.least v) (at jumps.least p))
        (λ y. let n = E.less y in rw (o, n.0, n.1) (one_less p v _ _ _ _ _ _ i a c s z near far q y))
        (λ y. let n = E.no_less y in rw (o, n.0, n.1) (one_no_less p v _ _ _ _ _ _ i a c s z near far q y))

    pub state_extended : Midway S x b h o jumps' pairs forks g
    state_extended =
        record {
          finished = F.finished;
          spans = F.spans;
          lows = F.lows;
          jumps_long = E.long;
          pairs_long = F.pairs_long;
          back_highs = F.back_highs;
          back_tops = F.back_tops;
          crowns = F.crowns;
          segments = λ w k m.
              cases (eq_or w p)
              (λ y. subst (λ (n : ℕ). Segment S x jumps' forks g n) (sym y) (inr extended_here))
              (λ y. let few = F.finished.few_vertices in let n = E.elsewhere w (omega arith) y in rw (n.0, n.1, n.2) (F.segments w k m));
          held = F.held;
          kept = F.kept;
          apart = F.apart;
          beside = F.beside;
          sound = F.sound;
        }
