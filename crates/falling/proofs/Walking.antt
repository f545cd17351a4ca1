-- All the ways, by falling ends and rising numbers. The chain of a height has the back lines that end there, rising, so that each comes after those that
-- are to come before it. At the end all have come, and every link of a top is obeyed.
use mathlib.Core.List.{List}
use mathlib.Core.Logic.{inl, inr, ◌≢◌}
use mathlib.Core.Path.{◌≡◌, refl, sym, ◌∙◌, subst}
use Prim.Native.Nat.{ℕ, suc, ◌+◌, ◌-◌, ◌≤◌, ◌<◌}
use native.Mathlib.Omega.{arith}
use lib.ListN.{replicate, length-replicate}
use Rattle.std.specs.Prelude.{Ok}
use Rattle.laws.specs.Lists.{at}
use Rattle.laws.specs.Chains.{Follows}
use Rattle.laws.proofs.Cases.{cases, bool, eq_or, lt_or}
use Rattle.laws.proofs.Tests.{least_none}
use Rattle.network.specs.Marks.{absent}
use Rattle.tree.specs.Tree.{Tree}
use Rattle.tree.specs.Returns.{end}
use Rattle.tree.specs.Words.{TreeLine, BackLine, Return}
use Rattle.tree.specs.Searched.{Searched}
use Rattle.fork.specs.Ends.{high, top, highestb}
use Rattle.fork.specs.Fork.{Fork}
use Rattle.fork.specs.Link.{Overlap}
use Rattle.fork.proofs.Ends.{high_some, highest_of, top_back}
use Rattle.fork.proofs.Links.{high_back}
use Rattle.groups.specs.Groups.{pointed}
use Rattle.groups.specs.declared.Groups.{Groups}
use Rattle.links.specs.Inside.{Closed, StillClosed, Outcome, obeyed}
use Rattle.links.proofs.Closing.{closed_same, closed_after}
use Rattle.meeting.specs.Inside.{kept, Met}
use Rattle.meeting.proofs.Keeping.{kept_filled}
use Rattle.fork.specs.declared.Forks.{Forks}
use Rattle.spans.specs.declared.Jumps.{Jumps}
use Rattle.meeting.specs.declared.Pairs.{Pairs}
use Rattle.falling.specs.Inside.{Falling, Fallen}
use Rattle.falling.specs.Down.{FallsBefore, Overtook, Midway, Coming}
use Rattle.falling.proofs.Moving.{state_moved}

-- the table of pairs as the walk begins
abbrev pub nothing_met : Pairs
nothing_met = record { first = replicate 512 (kept absent absent); second = replicate 512 (kept absent absent) }

-- Of the back lines that end at y, k is the first with a number from i on, or there is none and k is the number of lines.
pub record Nearest (S : Tree) (y i k : ℕ) : Type 0 where
  pub from : i ≤ k
  pub upto : k ≤ S.lines
  pub back_line : k < S.lines → BackLine S k × (end S k ≡ y)
  pub between : (j : ℕ) → i ≤ j → j < k → BackLine S j → end S j ≡ y → ⊥

-- all that come before x, b have come
pub record Walk (S : Tree) (x b : ℕ) (g₀ : Groups) (jumps : Jumps) (pairs : Pairs) (forks : Forks) (g : Groups) : Type 0 where
  pub no_higher : x ≤ S.vertices
  pub state : Midway S x b 512 b jumps pairs forks g
  pub onward : StillClosed S g₀ g

-- .. and b is the next of the chain of x, or the chain has ended
pub record Turn (S : Tree) (x b : ℕ) (g₀ : Groups) (jumps : Jumps) (pairs : Pairs) (forks : Forks) (g : Groups) : Type 0 where
  pub level : x < S.vertices
  pub upto : b ≤ S.lines
  pub next : b < S.lines → BackLine S b × (end S b ≡ x)
  pub walk : Walk S x b g₀ jumps pairs forks g

-- the place of the walk told otherwise: the same lines have been taken
pub walk_moved : {S : Tree} {x b x' b' : ℕ} {g₀ : Groups} {jumps : Jumps} {pairs : Pairs} {forks : Forks} {g : Groups} → Walk S x b g₀ jumps pairs forks g
    → x' ≤ x
    → ((c : ℕ) → BackLine S c → FallsBefore S x b c → FallsBefore S x' b' c) → ((c : ℕ) → BackLine S c → FallsBefore S x' b' c → FallsBefore S x b c)
    → Walk S x' b' g₀ jumps pairs forks g
walk_moved {S} {x} {b} {x'} {b'} W le there back =
    record {
      no_higher = omega (arith, W.no_higher);
      state =
          state_moved W.state
          (record {
            no_higher = le;
            there = λ f c l r p. cases p (λ q. inl (there c r.is_back q)) (λ q. absurd (never f l q.1));
            back = λ f c l r p. cases p (λ q. inl (back c r.is_back q)) (λ q. absurd (never f l q.1));
            earlier = back;
          });
      onward = W.onward;
    }
  where
    never : (f : ℕ) → TreeLine S f → 512 < S.height (S.target f) → ⊥
    never f l h =
        let X = W.state.finished.searched in
        omega (arith, X.height_small (S.target f) (X.target_in f l.0), W.state.finished.few_vertices)

module _ {S : Tree} {vertices : ℕ} {heights parents heads nexts : List ℕ} {jumps₀ : Jumps} {forks₀ : Forks} {g₀ : Groups}
    (A : Falling S vertices heights parents heads nexts jumps₀ forks₀ g₀) where
  X : Searched S
  X = A.finished.searched

  end_small : (c : ℕ) → BackLine S c → suc (end S c) < S.vertices
  end_small c l = let i = X.source_in c l.0 in omega (arith, X.fall c l, X.height_small (S.source c) i)

  -- The chains

  -- what stands in the chain of a height is a back line that ends there
  keyed : (k y : ℕ) → k < S.lines → y < 512 → at forks₀.stop k ≡ y → BackLine S k × (end S k ≡ y)
  keyed k y h q e =
      let l = A.finished.every k h in
      cases (bool (S.tree k))
      (λ t. absurd (omega (arith, A.spans.no_stops k (l, t))))
      (λ t. ((l, t), sym (A.spans.stops k (l, t)) ∙ e))

  key_of : (c y : ℕ) → BackLine S c → end S c ≡ y → at forks₀.stop c ≡ y
  key_of c y l e = A.spans.stops c l ∙ e

  nearest : {y i k : ℕ} → y < 512 → Follows S.lines (at forks₀.stop) y i k → Nearest S y i k
  nearest {y} {i} {k} h F =
      record {
        from = F.from;
        upto = F.upto;
        back_line = λ q. keyed k y q h (F.at q);
        between = λ j a q l e. F.between j a q (key_of j y l e);
      }

  heads_are : (y : ℕ) → y < 512 → Nearest S y 0 (at heads y)
  heads_are y h = nearest h (A.buckets.heads_are y (omega arith))

  nexts_are : (b : ℕ) → BackLine S b → Nearest S (end S b) (b + 1) (at nexts b)
  nexts_are b l =
      nearest (omega (arith, end_small b l, A.finished.few_vertices))
      (subst (λ (y : ℕ). Follows S.lines (at forks₀.stop) y (b + 1) (at nexts b)) (A.spans.stops b l) (A.buckets.nexts_are b l.0.below))

  -- nothing ends at 511, so that this chain begins with its end
  lines_are : at heads 511 ≡ S.lines
  lines_are =
      let N = heads_are 511 (omega arith) in
      let k = at heads 511 in
      cases (lt_or k S.lines)
      (λ h. let q = N.back_line h in absurd (omega (arith, q.1, end_small k q.0, A.finished.few_vertices)))
      (λ h. omega (arith, N.upto))

  -- The start: nothing has come

  never_met : (f : ℕ) → Met S forks₀ f → ⊥
  never_met f m = omega (arith, m.1, A.untopped.tree_tops f m.0)

  none_earlier : (c : ℕ) → BackLine S c → FallsBefore S S.vertices S.lines c → ⊥
  none_earlier c l (inl q) = omega (arith, end_small c l)
  none_earlier c l (inr q) = omega (arith, end_small c l, q.0)

  never_past : (f c : ℕ) → Return S f c → Overtook S S.vertices S.lines 512 f c → ⊥
  never_past f c r (inl q) = none_earlier c r.is_back q
  never_past f c r (inr q) = omega (arith, q.0, r.is_back.0.below)

  start : Walk S S.vertices S.lines g₀ jumps₀ nothing_met forks₀ g₀
  start =
      record {
        no_higher = omega arith;
        state = record {
          finished = A.finished;
          spans = A.spans;
          lows = A.lows;
          jumps_long = A.below.long;
          pairs_long = record { firsts = length-replicate 512 (kept absent absent); seconds = length-replicate 512 (kept absent absent) };
          back_highs = A.untopped.back_highs;
          back_tops = A.untopped.back_tops;
          crowns = λ f l. inr (record { unnamed = A.untopped.tree_tops f l; height = A.untopped.tree_highs f l; unpassed = λ c r p. never_past f c r p });
          segments = λ v i q.
              inl (record {
                unheld = A.unheld.each v i;
                next = A.below.each v i q;
                rival_is = A.least.each v i q;
                unmet = λ m. never_met (S.parent v) m;
              });
          held = λ f c l p q. absurd (never_past f c q.return p);
          kept = λ u i. kept_filled refl refl (omega (arith, A.finished.few_vertices)) (λ h m e. never_met h m);
          apart = λ u i f h m n e d k o. absurd (never_met f m);
          beside = λ f c m l t e o. absurd (never_met f m);
          sound = A.sound;
        };
        onward = closed_same S g₀;
      }

  pub walk_start : Walk S vertices S.lines g₀ jumps₀ nothing_met forks₀ g₀
  walk_start = subst (λ (y : ℕ). Walk S y S.lines g₀ jumps₀ nothing_met forks₀ g₀) A.same_vertices start

  -- A chain begins

  pub turn_first : {x : ℕ} {jumps : Jumps} {pairs : Pairs} {forks : Forks} {g : Groups} → Walk S x S.lines g₀ jumps pairs forks g → 0 < x
      → Turn S (x - 1) (at heads (x - 1)) g₀ jumps pairs forks g
  turn_first {x} W some =
      let N = heads_are (x - 1) (omega (arith, W.no_higher, A.finished.few_vertices)) in
      record {
        level = omega (arith, W.no_higher);
        upto = N.upto;
        next = N.back_line;
        walk =
            walk_moved W (omega arith)
            (λ c l t. cases t (λ q. inl (omega arith)) (λ q. inl (omega (arith, q.0))))
            (λ c l t.
            cases t
            (λ q.
            cases (eq_or (end S c) x)
            (λ e. inr (e, l.0.below))
            (λ d. let d' : end S c ≢ x = d in inl (omega arith)))
            (λ q. absurd (N.between c (omega arith) q.1 l q.0)));
      }

  -- A line of a chain

  module _ {x b : ℕ} {jumps : Jumps} {pairs : Pairs} {forks : Forks} {g : Groups} (T : Turn S x b g₀ jumps pairs forks g) where
    pub turn_done : at heads 511 ≤ b → Walk S x S.lines g₀ jumps pairs forks g
    turn_done h = let e : b ≡ S.lines = omega (arith, lines_are, T.upto) in subst (λ (y : ℕ). Walk S x y g₀ jumps pairs forks g) e T.walk

    module _ (more : b < at heads 511) where
      its_line : BackLine S b × (end S b ≡ x)
      its_line = T.next (omega (arith, lines_are))

      pub turn_coming : Coming S b x heights parents jumps pairs forks g
      turn_coming =
          record { each_height = A.each_height; each_parent = A.each_parent; back_line = its_line.0; its_end = its_line.1; state = T.walk.state }

      after : Nearest S x (b + 1) (at nexts b)
      after = subst (λ (y : ℕ). Nearest S y (b + 1) (at nexts b)) its_line.1 (nexts_are b its_line.0)

      pub turn_next : {jumps' : Jumps} {pairs' : Pairs} {forks' : Forks} {g' : Groups}
          → Outcome S g g' (Midway S x (suc b) 512 (suc b) jumps' pairs' forks' g') (Ok tt)
          → Turn S x (at nexts b) g₀ jumps' pairs' forks' g'
      turn_next {jumps'} {pairs'} {forks'} {g'} (obeyed s on N) =
          let W : Walk S x (suc b) g₀ jumps' pairs' forks' g' =
          record { no_higher = T.walk.no_higher; state = N; onward = closed_after S g₀ g g' T.walk.onward on } in
          record {
            level = T.level;
            upto = after.upto;
            next = after.back_line;
            walk =
                walk_moved W (omega arith)
                (λ d l t. cases t (λ q. inl q) (λ q. inr (q.0, omega (arith, q.1, after.from))))
                (λ d l t.
                cases t (λ q. inl q)
                (λ q.
                cases (lt_or d (suc b))
                (λ h. inr (q.0, h))
                (λ h. absurd (after.between d (omega arith) q.1 l q.0))));
          }

  -- The end: all have come

  module _ {x : ℕ} {jumps : Jumps} {pairs : Pairs} {forks : Forks} {g : Groups} (W : Walk S x S.lines g₀ jumps pairs forks g) (none : x ≤ 0) where
    F : Midway S x S.lines 512 S.lines jumps pairs forks g
    F = W.state

    all_earlier : (c : ℕ) → BackLine S c → FallsBefore S x S.lines c
    all_earlier c l = cases (lt_or x (end S c)) (λ q. inl q) (λ q. inr (omega arith, l.0.below))

    none_high : (f : ℕ) → ((c : ℕ) → Return S f c → ⊥) → high S f ≡ 0
    none_high f n = cases (lt_or 0 (high S f)) (λ q. let r = high_some S f q in absurd (n r.0 r.1)) (λ q. omega arith)

    none_top : (f : ℕ) → ((c : ℕ) → Return S f c → ⊥) → top S f ≡ S.lines
    unfolding top
    none_top f n =
        least_none (highestb S f) S.lines
        (λ j h. cases (bool (highestb S f j)) (λ t. absurd (n j (highest_of S f j h t).return)) (λ t. t))

    high_is : (k : ℕ) → k < S.lines → at forks.high k ≡ high S k
    high_is k h =
        let l = A.finished.every k h in
        cases (bool (S.tree k))
        (λ t.
        cases (F.crowns k (l, t))
        (λ w. w.height)
        (λ n. n.height ∙ sym (none_high k (λ c r. n.unpassed c r (inl (all_earlier c r.is_back))))))
        (λ t. F.back_highs k (l, t) ∙ sym (high_back S X k (l, t)))

    top_is_named : (k : ℕ) → k < S.lines → at forks.top k ≡ top S k
    top_is_named k h =
        let l = A.finished.every k h in
        cases (bool (S.tree k))
        (λ t.
        cases (F.crowns k (l, t))
        (λ w. w.named)
        (λ n. n.unnamed ∙ sym (none_top k (λ c r. n.unpassed c r (inl (all_earlier c r.is_back))))))
        (λ t. F.back_tops k (l, t) ∙ sym (top_back S X k (l, t)))

    -- a tree line with a return has been met
    met : (f : ℕ) → TreeLine S f → 0 < high S f → Met S forks f
    met f l h =
        let r = high_some S f h in
        cases (F.crowns f l)
        (λ w. (l, omega (arith, w.named, w.return.is_back.0.below)))
        (λ n. absurd (n.unpassed r.0 r.1 (inl (all_earlier r.0 r.1.is_back))))

    apart : (f k : ℕ) → TreeLine S f → Fork S f k → Overlap S f k → Closed (pointed g) (top S f) (top S k) 1
    apart f k l a o =
        let m = met f l (omega (arith, o.over)) in
        cases (bool (S.tree k))
        (λ t.
        F.apart (S.source f) (X.source_in f l.0) f k m (met k (a.second, t) (omega (arith, o.under))) refl (sym a.one_vertex) a.apart o)
        (λ t.
        let b : BackLine S k = (a.second, t) in
        subst (λ (y : ℕ). Closed (pointed g) (top S f) y 1) (sym (top_back S X k b)) (F.beside f k m b (all_earlier k b) a.one_vertex o))

    pub walk_done : Outcome S g₀ g (Fallen S forks g) (Ok tt)
    walk_done =
        obeyed F.sound W.onward
        (record {
          tabled = record { spans = F.spans; lows = F.lows; tops = record { highs = high_is; tops = top_is_named } };
          held = λ f b l q d. F.held f b l (inl (all_earlier b q.return.is_back)) q;
          apart = apart;
        })
