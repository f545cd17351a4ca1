-- A back line comes to a vertex. Where something has passed the line up to it, all of the stretch below is passed at once: one tie to the top that stands
-- for it is enough (Q3). Where nothing has, the back line is the line's top (Q1), and the line meets its fork.
use mathlib.Core.Bool.{false}
use mathlib.Core.List.{List}
use mathlib.Core.Logic.{◌⊎◌, inl, inr}
use mathlib.Core.Path.{◌≡◌, refl, sym, ap, subst}
use Prim.Native.Nat.{ℕ, suc, ◌≤◌, ◌<◌}
use native.Mathlib.Omega.{arith}
use Rattle.std.specs.Prelude.{Result, Ok, ⊤}
use Rattle.laws.specs.Lists.{at}
use Rattle.laws.proofs.Cases.{cases, lt_or, true_false}
use Rattle.network.specs.Marks.{absent}
use Rattle.tree.specs.Tree.{Tree}
use Rattle.tree.specs.Returns.{end}
use Rattle.tree.specs.Words.{TreeLine, Return, Above}
use Rattle.tree.specs.Searched.{Searched}
use Rattle.fork.specs.Ends.{high, top}
use Rattle.fork.specs.Link.{rival, Link, to_top}
use Rattle.fork.proofs.Ends.{top_is, top_first, high_most, highest_yes}
use Rattle.fork.proofs.Found.{way_return}
use Rattle.groups.specs.Groups.{pointed}
use Rattle.groups.specs.declared.Groups.{Groups}
use Rattle.links.specs.Inside.{Closed, Sound, StillClosed, Outcome, obeyed, unkept, Tieable}
use Rattle.links.specs.declared.Tear.{Tear}
use Rattle.links.proofs.Closing.{closed_turned, closed_then, closed_same}
use Rattle.meeting.specs.Inside.{Met}
use Rattle.fork.specs.declared.Forks.{Forks}
use Rattle.spans.specs.declared.Jumps.{Jumps}
use Rattle.meeting.specs.declared.Pairs.{Pairs}
use Rattle.falling.specs.Down.{FallsBefore, Overtook, Joint, Stretch, Midway, Landing, Passed}
use Rattle.falling.proofs.Moving.{worn_of, state_tied}
use Rattle.falling.proofs.Stretching.{topped}

-- (Q1) By falling ends, and rising numbers where ends are level, the first return of a tree line to come is its top.
pub first_is_top : (S : Tree) (x b f : ℕ) → end S b ≡ x → Return S f b → ((c : ℕ) → Return S f c → FallsBefore S x b c → ⊥) → (top S f ≡ b) × (high S f ≡ x)
first_is_top S x b f e r none =
    let T = top_is S f b r in
    let most = high_most S f b r in
    let same : end S (top S f) ≡ x =
    cases (lt_or x (end S (top S f))) (λ q. absurd (none (top S f) T.return (inl q))) (λ q. omega (arith, T.at_high)) in
    let is_high : high S f ≡ x = omega (arith, T.at_high) in (
      cases (lt_or (top S f) b)
          (λ q. absurd (none (top S f) T.return (inr (same, q))))
          (λ q.
          cases (lt_or b (top S f))
          (λ k. true_false (highest_yes S f b (record { return = r; at_high = omega arith })) ((top_first S f b r).before b k))
          (λ k. omega arith)),
      is_high,
    )

-- more tied
pub landing_tied : {S : Tree} {b x v : ℕ} {parents : List ℕ} {jumps : Jumps} {pairs : Pairs} {forks : Forks} {g g' : Groups}
    → Landing S b x v parents jumps pairs forks g → Sound S g' → StillClosed S g g'
    → Landing S b x v parents jumps pairs forks g'
landing_tied P s on =
    record {
      each_parent = P.each_parent;
      back_line = P.back_line;
      its_end = P.its_end;
      inside = P.inside;
      on_way = P.on_way;
      over = P.over;
      state = state_tied P.state s on;
    }

module _ {S : Tree} {b x v : ℕ} {parents : List ℕ} {jumps : Jumps} {pairs : Pairs} {forks : Forks} {g : Groups}
    (P : Landing S b x v parents jumps pairs forks g) where
  F : Midway S x b (S.height v) (suc b) jumps pairs forks g
  F = P.state

  X : Searched S
  X = F.finished.searched

  pub v_line : TreeLine S (S.parent v) × (S.height v ≡ suc (S.height (S.source (S.parent v)))) × Return S (S.parent v) b
  v_line = let e = P.its_end in way_return S X b P.back_line v P.inside P.on_way (omega (arith, P.over))

  pub v_up : S.height (S.target (S.parent v)) ≡ S.height v
  v_up = ap S.height (X.parent v P.inside (omega (arith, P.over))).1

  -- the vertex that a line leads up to has that line as its parent
  pub line_up : (f : ℕ) → TreeLine S f → S.parent (S.target f) ≡ f
  line_up f l = let Q = X.parent (S.target f) (X.target_in f l.0) (omega (arith, X.rise f l)) in X.one_parent (S.parent (S.target f)) f Q.0 l Q.1

  -- where b passes a line, the vertex that it leads up to is on its way
  pub up_way : (f : ℕ) → TreeLine S f → Return S f b → Above S (S.target f) (S.source b)
  up_way f l r = cases r.via (λ z. true_false l.1 (subst (λ (y : ℕ). S.tree y ≡ false) z P.back_line.1)) (λ q. q.1)

  -- A stretch passed at once

  module _ (s : Stretch S x forks g v (at jumps.onward v) (at jumps.least v) (at jumps.held v)) where
    joint_at : (f : ℕ) → TreeLine S f → Return S f b → S.height (at jumps.onward v) < S.height (S.target f) → S.height (S.target f) ≤ S.height v
        → Joint S x forks g (at jumps.least v) (at jumps.held v) (S.target f)
    joint_at f l r q k = s.each (S.target f) (X.target_in f l.0) (X.above_between (S.target f) v (S.source b) (up_way f l r) P.on_way k) q

    -- what b has passed now it had passed before, or it is in the stretch
    newly : (f c : ℕ) → TreeLine S f → Return S f c → Overtook S x b (S.height (at jumps.onward v)) f c
        → Overtook S x b (S.height v) f c ⊎ ((c ≡ b) × Joint S x forks g (at jumps.least v) (at jumps.held v) (S.target f))
    newly f c l r (inl p) = inl (inl p)
    newly f c l r (inr (e, q)) =
        cases (lt_or (S.height v) (S.height (S.target f)))
        (λ k. inl (inr (e, k)))
        (λ k. inr (e, joint_at f l (subst (λ (y : ℕ). Return S f y) e r) q k))

    -- (Q3) b has passed the whole stretch from v: where a line of it holds b, the line's top is tied to the top that stands for the stretch, and b is tied to
    -- that one
    pub state_overtaken : (at jumps.least v < x → Closed (pointed g) b (at jumps.held v) 0)
        → Midway S x b (S.height (at jumps.onward v)) (suc b) jumps pairs forks g
    state_overtaken tie =
        record {
          finished = F.finished;
          spans = F.spans;
          lows = F.lows;
          jumps_long = F.jumps_long;
          pairs_long = F.pairs_long;
          back_highs = F.back_highs;
          back_tops = F.back_tops;
          crowns = λ f l.
              cases (F.crowns f l)
              (λ w.
              inl (record {
                named = w.named;
                height = w.height;
                return = w.return;
                past = cases w.past (λ q. inl q) (λ q. inr (q.0, omega (arith, s.lower, q.1)));
              }))
              (λ n.
              inr (record {
                unnamed = n.unnamed;
                height = n.height;
                unpassed = λ c r p.
                    cases (newly f c l r p)
                    (λ q. n.unpassed c r q)
                    (λ q. let m : Met S forks f = subst (λ (y : ℕ). Met S forks y) (line_up f l) q.1.met in omega (arith, n.unnamed, m.1));
              }));
          segments = F.segments;
          held = λ f c l p q.
              cases (newly f c l q.return p)
              (λ k. F.held f c l k q)
              (λ k.
              let e = P.its_end in
              let z : end S c ≡ end S b = ap (end S) k.0 in
              let y : rival S (S.parent (S.target f)) ≡ rival S f = ap (rival S) (line_up f l) in
              let top_is_tied : Closed (pointed g) (top S f) (at jumps.held v) 0 =
              subst (λ (y : ℕ). Closed (pointed g) (top S y) (at jumps.held v) 0) (line_up f l) (k.1.tied (omega (arith, q.higher))) in
              subst (λ (y : ℕ). Closed (pointed g) y (top S f) 0) (sym k.0)
              (closed_then 0 (tie (omega (arith, k.1.no_less, q.higher))) (closed_turned top_is_tied)));
          kept = F.kept;
          apart = F.apart;
          beside = F.beside;
          sound = F.sound;
        }

    -- the tie is a link: the top stands for a line that holds b, and b comes later than it
    pub tie_link : at jumps.least v < x → Tieable S b (at jumps.held v) 0 g
    tie_link q =
        let w = s.place in
        let f = S.parent w in
        let e = P.its_end in
        let Q = X.parent w s.place_in (omega (arith, s.place_over)) in
        let up : S.height (S.target f) ≡ S.height w = ap S.height Q.1 in
        let m = (s.each w s.place_in s.place_on s.place_over).met in
        let n = worn_of F f m in
        let t = topped F P.back_line e f m in
        let rise = X.rise f Q.0 in
        let over : suc (end S b) < S.height w = omega (arith, t.no_lower, n.return.below, (top_is S f (top S f) n.return).at_high) in
        let r = (way_return S X b P.back_line w s.place_in (X.above_trans w v (S.source b) s.place_on P.on_way) over).2 in
        let other : b ≡ top S f → ⊥ = λ z.
        cases n.past
        (λ k. cases k (λ p. let y : end S b ≡ end S (top S f) = ap (end S) z in omega arith) (λ p. omega (arith, p.1)))
        (λ k. omega (arith, k.1, X.above_height w v s.place_on)) in
        record {
          link =
              subst (λ (y : ℕ). Link S b y 0) s.place_top
              (to_top f b Q.0 (record { return = r; higher = omega (arith, s.place_rival) }) other);
          small = omega arith;
          sound = F.sound;
        }

    overtaken : {jumps' : Jumps} → jumps' ≡ jumps → (at jumps.least v < x → Closed (pointed g) b (at jumps.held v) 0)
        → Passed S b x v jumps jumps' pairs forks g
    overtaken e tie = rw e (record { state = state_overtaken tie; onwards = λ w h. refl })

  -- In the code's terms: something has passed the line up to v

  module _ (some : at jumps.held v ≡ absent → ⊥) where
    stretch_here : Stretch S x forks g v (at jumps.onward v) (at jumps.least v) (at jumps.held v)
    stretch_here = cases (F.segments v P.inside (omega (arith, P.over))) (λ z. absurd (some z.unheld)) (λ z. z)

    -- no line of the stretch holds b
    pub pass_idle : x ≤ at jumps.least v → Outcome S g g (Passed S b x v jumps jumps pairs forks g) (Ok tt)
    pass_idle h = obeyed F.sound (closed_same S g) (overtaken stretch_here refl (λ q. absurd (omega arith)))

    pub pass_tieable : at jumps.least v < x → Tieable S b (at jumps.held v) 0 g
    pass_tieable h = tie_link stretch_here h

pub pass_tied : {S : Tree} {b x v : ℕ} {parents : List ℕ} {jumps : Jumps} {pairs : Pairs} {forks : Forks} {g g' : Groups}
    → Landing S b x v parents jumps pairs forks g
    → (at jumps.held v ≡ absent → ⊥) → {q : Result ⊤ Tear} → Outcome S g g' (Closed (pointed g') b (at jumps.held v) 0) q
    → Outcome S g g' (Passed S b x v jumps jumps pairs forks g') q
pass_tied P some (unkept s k) = unkept s k
pass_tied {S} {b} {x} {v} {parents} {jumps} {pairs} {forks} {g} {g'} P some (obeyed s on c) =
    let P' = landing_tied P s on in
    obeyed s on (overtaken P' (stretch_here P' some) refl (λ _. c))
