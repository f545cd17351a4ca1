-- The way of one back line: it meets the fork that it leaves, then goes down jump by jump. What it has passed are the lines whose upper ends stand above
-- the vertex that it has come to; the jump from its source reaches to there, and so does the jump before.
use mathlib.Core.List.{List}
use mathlib.Core.Logic.{◌⊎◌, inl, inr, ◌≢◌}
use mathlib.Core.Path.{◌≡◌, refl, sym, ◌∙◌, ap, subst}
use Prim.Native.Nat.{ℕ, suc, ◌+◌, ◌≤◌, ◌<◌}
use native.Mathlib.Omega.{arith}
use Rattle.std.specs.Prelude.{Ok}
use Rattle.laws.specs.Lists.{at}
use Rattle.laws.proofs.Cases.{cases, eq_or}
use Rattle.tree.specs.Tree.{Tree}
use Rattle.tree.specs.Returns.{end}
use Rattle.tree.specs.Words.{TreeLine, Return, Above}
use Rattle.tree.specs.Searched.{Searched}
use Rattle.tree.proofs.Returns.{return_self}
use Rattle.fork.specs.Ends.{top}
use Rattle.fork.specs.Link.{Overlap}
use Rattle.fork.proofs.Ends.{top_back}
use Rattle.fork.proofs.Found.{way_high, way_low}
use Rattle.fork.proofs.Links.{low_back, high_back}
use Rattle.groups.specs.Groups.{pointed}
use Rattle.groups.specs.declared.Groups.{Groups}
use Rattle.links.specs.Inside.{Closed, StillClosed, Outcome, obeyed}
use Rattle.links.proofs.Closing.{closed_same, closed_after}
use Rattle.links.proofs.Outcomes.{holds_of}
use Rattle.laws.proofs.Cases.{true_false}
use Rattle.meeting.specs.Inside.{Arriving, Meeting, MetApart}
use Rattle.fork.specs.declared.Forks.{Forks}
use Rattle.spans.specs.declared.Jumps.{Jumps}
use Rattle.meeting.specs.declared.Pairs.{Pairs}
use Rattle.falling.specs.Down.{Overtook, Midway, Coming, Sinking, Landing, Passed, Placed, Extended, Lengthened}
use Rattle.falling.proofs.Moving.{state_tied, state_moved}
use Rattle.falling.proofs.Stretching.{topped, jump_lower, state_extended}

-- A back line at its fork

module _ {S : Tree} {b x : ℕ} {heights parents : List ℕ} {jumps : Jumps} {pairs : Pairs} {forks : Forks} {g : Groups}
    (C : Coming S b x heights parents jumps pairs forks g) where
  F : Midway S x b 512 b jumps pairs forks g
  F = C.state

  X : Searched S
  X = F.finished.searched

  own : Arriving S b x x (S.source b) b
  own =
      record {
        line = C.back_line.0;
        leaves = refl;
        return = return_self S X b C.back_line;
        its_top = top_back S X b C.back_line;
        its_high = high_back S X b C.back_line ∙ C.its_end;
        its_low = low_back S X b C.back_line ∙ C.its_end;
      }

  abbrev s : ℕ
  s = at forks.source b

  s_is : s ≡ S.source b
  s_is = F.spans.sources b C.back_line.0.below

  s_in : s < S.vertices
  s_in = subst (λ (y : ℕ). y < S.vertices) (sym s_is) (X.source_in b C.back_line.0)

  pub own_meeting : Meeting S b x x s forks pairs g
  own_meeting =
      record {
        finished = F.finished;
        spans = F.spans;
        pairs_long = F.pairs_long;
        vertex = s_in;
        arriving = (b, subst (λ (y : ℕ). Arriving S b x x y b) (sym s_is) own, λ m. true_false m.0.1 C.back_line.1);
        topped = topped F C.back_line C.its_end;
        kept = F.kept s s_in;
        apart = F.apart s s_in;
        sound = F.sound;
      }

  pub own_met : {g' : Groups} → Outcome S g g' (MetApart S b x x s forks g') (Ok tt) → Sinking S b x heights parents jumps pairs forks g'
  own_met {g'} (obeyed z on apart) =
      let F' = state_tied F z on in
      record {
        each_height = C.each_height;
        each_parent = C.each_parent;
        back_line = C.back_line;
        its_end = C.its_end;
        state = record {
          finished = F'.finished;
          spans = F'.spans;
          lows = F'.lows;
          jumps_long = F'.jumps_long;
          pairs_long = F'.pairs_long;
          back_highs = F'.back_highs;
          back_tops = F'.back_tops;
          crowns = F'.crowns;
          segments = F'.segments;
          held = F'.held;
          kept = F'.kept;
          apart = F'.apart;
          beside = λ f c m l t e o.
              cases (eq_or c b)
              (λ q.
              subst (λ (y : ℕ). Closed (pointed g') (top S f) y 1) (sym q)
              (apart b (subst (λ (y : ℕ). Arriving S b x x y b) (sym s_is) own) f m (e ∙ ap S.source q ∙ sym s_is) (subst (λ (y : ℕ). Overlap S f y) q o)))
              (λ d.
              let d' : c ≢ b = d in
              F'.beside f c m l (cases t (λ p. inl p) (λ p. inr (p.0, omega (arith, p.1)))) e o);
          sound = F'.sound;
        };
      }

-- The way down

-- from p a jump reaches to v, or v is p
pub record Trail (S : Tree) (b p v : ℕ) (jumps : Jumps) : Type 0 where
  pub inside : p < S.vertices
  pub on_way : Above S p (S.source b)
  pub over : Above S v p
  pub reach : (p ≡ v) ⊎ (at jumps.onward p ≡ v)

pub record Descent (S : Tree) (b x s p v steps : ℕ) (g₀ : Groups) (jumps : Jumps) (pairs : Pairs) (forks : Forks) (g : Groups) : Type 0 where
  pub inside : v < S.vertices
  pub on_way : Above S v (S.source b)
  pub state : Midway S x b (S.height v) (suc b) jumps pairs forks g
  pub onward : StillClosed S g₀ g
  pub first : Trail S b s v jumps
  pub before : Trail S b p v jumps
  pub short : steps + S.height v ≤ 512

module _ {S : Tree} {b x : ℕ} {heights parents : List ℕ} {jumps₀ : Jumps} {pairs₀ : Pairs} {forks₀ : Forks} {g₀ : Groups}
    (C : Sinking S b x heights parents jumps₀ pairs₀ forks₀ g₀) where
  Y : Searched S
  Y = C.state.finished.searched

  up_small : (f : ℕ) → TreeLine S f → S.height (S.target f) < 512
  up_small f l = omega (arith, Y.height_small (S.target f) (Y.target_in f l.0), C.state.finished.few_vertices)

  pub descent_start : let s = at forks₀.source b in Descent S b x s s s 0 g₀ jumps₀ pairs₀ forks₀ g₀
  descent_start =
      let e : at forks₀.source b ≡ S.source b = C.state.spans.sources b C.back_line.0.below in
      let i = Y.source_in b C.back_line.0 in
      let t : Trail S b (S.source b) (S.source b) jumps₀ =
      record { inside = i; on_way = Y.above_self (S.source b); over = Y.above_self (S.source b); reach = inl refl } in
      subst (λ (y : ℕ). Descent S b x y y y 0 g₀ jumps₀ pairs₀ forks₀ g₀) (sym e)
      (record {
        inside = i;
        on_way = Y.above_self (S.source b);
        state =
            state_moved C.state
            (record {
              no_higher = omega arith;
              there = λ f c l r p. cases p (λ q. inl q) (λ q. absurd (omega (arith, q.1, up_small f l)));
              back = λ f c l r p.
                  cases p (λ q. inl q)
                  (λ q. absurd (omega (arith, q.1, way_low S Y b C.back_line f l (subst (λ (y : ℕ). Return S f y) q.0 r))));
              earlier = λ c l t. t;
            });
        onward = closed_same S g₀;
        first = t;
        before = t;
        short = omega (arith, Y.height_small (S.source b) i, C.state.finished.few_vertices);
      })

  module _ {s p v steps : ℕ} {jumps : Jumps} {pairs : Pairs} {forks : Forks} {g : Groups} (D : Descent S b x s p v steps g₀ jumps pairs forks g) where
    height_is : at heights v ≡ S.height v
    height_is = C.each_height.each v D.inside

    pub descent_done : at heights v ≤ x + 1 → Outcome S g₀ g (Midway S x (suc b) 512 (suc b) jumps pairs forks g) (Ok tt)
    descent_done h =
        obeyed D.state.sound D.onward
        (state_moved D.state (record { no_higher = omega arith; there = there; back = back; earlier = λ c l t. t }))
      where
        there : (f c : ℕ) → TreeLine S f → Return S f c → Overtook S x b (S.height v) f c → Overtook S x (suc b) 512 f c
        there f c l r (inl (inl q)) = inl (inl q)
        there f c l r (inl (inr q)) = inl (inr (q.0, omega (arith, q.1)))
        there f c l r (inr q) = inl (inr (ap (end S) q.0 ∙ C.its_end, omega (arith, q.0)))

        back : (f c : ℕ) → TreeLine S f → Return S f c → Overtook S x (suc b) 512 f c → Overtook S x b (S.height v) f c
        back f c l r (inl (inl q)) = inl (inl q)
        back f c l r (inl (inr q)) =
            cases (eq_or c b)
            (λ e.
            let z = C.its_end in
            inr (e, omega (arith, height_is, way_high S Y b C.back_line f l (subst (λ (y : ℕ). Return S f y) e r))))
            (λ d. let d' : c ≢ b = d in inl (inr (q.0, omega (arith, q.1))))
        back f c l r (inr q) = absurd (omega (arith, q.1, up_small f l))

    module _ (high : x + 1 < at heights v) where
      pub descent_landing : Landing S b x v parents jumps pairs forks g
      descent_landing =
          record {
            each_parent = C.each_parent;
            back_line = C.back_line;
            its_end = C.its_end;
            inside = D.inside;
            on_way = D.on_way;
            over = omega (arith, height_is);
            state = D.state;
          }

      over : suc x < S.height v
      over = omega (arith, height_is)

      abbrev u : ℕ
      u = at jumps.onward v

      lower : (u < S.vertices) × Above S u v × (S.height u < S.height v)
      lower = jump_lower D.state C.back_line C.its_end v D.inside (omega (arith, over))

      -- the tables after b has passed the jump
      module _ {jumps' : Jumps} {pairs' : Pairs} {forks' : Forks} {g' : Groups}
          (passed : Outcome S g g' (Passed S b x v jumps jumps' pairs' forks' g') (Ok tt)) where
        N : Passed S b x v jumps jumps' pairs' forks' g'
        N = (holds_of passed refl).2

        small : (w : ℕ) → w < S.vertices → w < 512
        small w i = omega (arith, C.state.finished.few_vertices)

        pub first_placed : Placed s v jumps'
        first_placed = record { long = N.state.jumps_long; first = small s D.first.inside; second = small v D.inside }

        pub before_placed : Placed p v jumps'
        before_placed = record { long = N.state.jumps_long; first = small p D.before.inside; second = small v D.inside }

        -- a jump that reached to v may go on to u, and when all have gone on each reaches to u
        Reach : Jumps → ℕ → Type 0
        Reach l w = (at l.onward w ≡ v) ⊎ (at l.onward w ≡ u)

        trail_reach : {w : ℕ} → Trail S b w v jumps → Reach jumps' w
        unfolding Reach
        trail_reach {w} t =
            let e = N.onwards w (small w t.inside) in
            cases t.reach (λ q. inr (e ∙ ap (at jumps.onward) q)) (λ q. inl (e ∙ q))

        here : at jumps'.onward v ≡ u
        here = N.onwards v (small v D.inside)

        module _ {l l' : Jumps} {w : ℕ} (i : w < S.vertices) (a : Above S w (S.source b)) (c : Above S v w) (r : Reach l w) (at_v : at l.onward v ≡ u)
            (F : Midway S x b (S.height u) (suc b) l pairs' forks' g') (E : Extended w v l l') where
          near_far : (S.height (at l.onward w) ≤ S.height v) × (S.height (at l.onward v) ≤ S.height (at l.onward w))
          unfolding Reach
          near_far =
              let z : S.height (at l.onward v) ≡ S.height u = ap S.height at_v in
              let y = lower.2 in
              cases r
              (λ q. let k : S.height (at l.onward w) ≡ S.height v = ap S.height q in (omega arith, omega arith))
              (λ q. let k : S.height (at l.onward w) ≡ S.height u = ap S.height q in (omega arith, omega arith))

          goes_on : Midway S x b (S.height u) (suc b) l' pairs' forks' g'
          goes_on =
              let z : S.height (at l.onward v) ≡ S.height u = ap S.height at_v in
              state_extended F C.back_line C.its_end w v i a D.inside c over near_far.0 near_far.1 (omega arith) E

          now_there : at l'.onward w ≡ u
          now_there = E.onward ∙ at_v

          -- .. and a jump that went to u does so still
          still_there : (y : ℕ) → y < S.vertices → at l.onward y ≡ u → at l'.onward y ≡ u
          still_there y j e = cases (eq_or y w) (λ q. ap (at l'.onward) q ∙ now_there) (λ d. (E.elsewhere y (small y j) d).0 ∙ e)

          still_reach : (y : ℕ) → y < S.vertices → Reach l y → Reach l' y
          unfolding Reach
          still_reach y j k =
              cases k
              (λ e. cases (eq_or y w) (λ q. inr (ap (at l'.onward) q ∙ now_there)) (λ d. inl ((E.elsewhere y (small y j) d).0 ∙ e)))
              (λ e. inr (still_there y j e))

        -- the jumps after
        gone : {jumps'' : Jumps} → Lengthened s p v jumps' jumps''
            → Midway S x b (S.height u) (suc b) jumps'' pairs' forks' g' × (at jumps''.onward v ≡ u) × (at jumps''.onward s ≡ u)
        gone {jumps''} L =
            let T = D.first in
            let B = D.before in
            let r = trail_reach T in
            let F₁ = goes_on T.inside T.on_way T.over r here N.state L.first in
            let s₁ = now_there T.inside T.on_way T.over r here N.state L.first in
            let v₁ = still_there T.inside T.on_way T.over r here N.state L.first v D.inside here in
            let p₁ = still_reach T.inside T.on_way T.over r here N.state L.first p B.inside (trail_reach B) in
            cases L.second
            (λ e. rw e (F₁, v₁, s₁))
            (λ E. (
              goes_on B.inside B.on_way B.over p₁ v₁ F₁ E,
              still_there B.inside B.on_way B.over p₁ v₁ F₁ E v D.inside v₁,
              still_there B.inside B.on_way B.over p₁ v₁ F₁ E s T.inside s₁,
            ))

        module _ {jumps'' : Jumps} (L : Lengthened s p v jumps' jumps'') where
          abbrev w : ℕ
          w = at jumps''.onward v

          w_is : w ≡ u
          w_is = (gone L).1

          pub descent_less : at heights w < at heights v
          descent_less =
              let i : w < S.vertices = subst (λ (y : ℕ). y < S.vertices) (sym w_is) lower.0 in
              let z : S.height w ≡ S.height u = ap S.height w_is in
              omega (arith, C.each_height.each w i, height_is, lower.2)

          pub descent_more : Descent S b x s v w (steps + 1) g₀ jumps'' pairs' forks' g'
          descent_more =
              let G = gone L in
              let y = lower.2 in
              subst (λ (k : ℕ). Descent S b x s v k (steps + 1) g₀ jumps'' pairs' forks' g') (sym w_is)
              (record {
                inside = lower.0;
                on_way = Y.above_trans u v (S.source b) lower.1 D.on_way;
                state = G.0;
                onward = closed_after S g₀ g g' D.onward (holds_of passed refl).1;
                first = record {
                  inside = D.first.inside;
                  on_way = D.first.on_way;
                  over = Y.above_trans u v s lower.1 D.first.over;
                  reach = inr G.2;
                };
                before = record { inside = D.inside; on_way = D.on_way; over = lower.1; reach = inr G.1 };
                short = omega (arith, D.short);
              })
