-- (R1) The rival of a tree line, from two values for each vertex: the least and the next of the lows of the lines that leave it, with its height taken
-- twice. The loop over the lines keeps for each line f how the two values of its vertex stand to the least of the lows of f's rivals so far: while the
-- loop has yet to come to f that is the first; after, it is the second where f's low is the first, and else the first.
use mathlib.Core.Bool.{true, false, not}
use mathlib.Core.List.{List}
use mathlib.Core.Logic.{◌≢◌}
use mathlib.Core.Path.{◌≡◌, refl, sym, ◌∙◌, ap, subst}
use Prim.Native.Nat.{ℕ, min, max, ◌+◌, ◌≤◌, ◌<◌}
use native.Mathlib.Numerals.{add-one}
use native.Mathlib.Omega.{arith}
use lib.ListN.{length, set, length-set}
use lib.Seq.{get_or-set_same, get_or-set_other}
use borrow.Author.Tests.{eq-eqb, ne_eqb}
use Rattle.laws.specs.Lists.{at}
use Rattle.laws.specs.Running.{minimum}
use Rattle.laws.proofs.Cases.{cases, eq_or, lt_or}
use Rattle.laws.proofs.Tests.{both_yes, both_no_first, both_no_second}
use Rattle.laws.proofs.Running.{minimum_yes, minimum_no}
use Rattle.tree.specs.Tree.{Tree}
use Rattle.tree.specs.Returns.{low}
use Rattle.fork.specs.Fork.{forkb}
use Rattle.fork.specs.Link.{rival}
use Rattle.fork.specs.declared.Forks.{Forks}
use Rattle.fork.proofs.Found.{rival_found}
use Rattle.lows.specs.Inside.{Weighable, Weighed}

module _ (S : Tree) (f g : ℕ) where
  fork_yes : S.live f ≡ true → S.live g ≡ true → S.source f ≡ S.source g → (f ≡ g → ⊥) → forkb S f g ≡ true
  unfolding forkb
  fork_yes lf lg e d = both_yes (both_yes lf lg) (both_yes (eq-eqb (S.source f) (S.source g) e) (ap not (ne_eqb f g d)))

  fork_own : f ≡ g → forkb S f g ≡ false
  unfolding forkb
  fork_own e = both_no_second _ _ (both_no_second _ _ (ap not (eq-eqb f g e)))

  fork_elsewhere : (S.source f ≡ S.source g → ⊥) → forkb S f g ≡ false
  unfolding forkb
  fork_elsewhere d = both_no_second _ _ (both_no_first _ _ (ne_eqb (S.source f) (S.source g) d))

-- the least low of the rivals of f among the lines below k
abbrev pub among : Tree → ℕ → ℕ → ℕ
among S f k = minimum (forkb S f) (low S) (S.height (S.source f)) k

-- What the two values a and b of its vertex are to line f, after the lines below k
pub record Share (S : Tree) (f k a b : ℕ) : Type 0 where
  pub ordered : a ≤ b
  pub ahead : k ≤ f → a ≡ among S f k
  pub weighed : f < k → a ≤ low S f
  pub own : f < k → low S f ≡ a → b ≡ among S f k
  pub other : f < k → low S f ≢ a → a ≡ among S f k

module _ (S : Tree) (f k : ℕ) where
  among_no : forkb S f k ≡ false → among S f (k + 1) ≡ among S f k
  among_no no_fork = rw (add-one k) (minimum_no (forkb S f) (low S) (S.height (S.source f)) k no_fork)

  among_yes : forkb S f k ≡ true → among S f (k + 1) ≡ min (low S k) (among S f k)
  among_yes fork = rw (add-one k) (minimum_yes (forkb S f) (low S) (S.height (S.source f)) k fork)

  module _ (a b : ℕ) (s : Share S f k a b) where
    -- a line that leaves another vertex
    share_pass : (S.source f ≡ S.source k → ⊥) → Share S f (k + 1) a b
    share_pass d =
        let e = among_no (fork_elsewhere S f k d) in
        let d' : f ≢ k = λ z. d (ap S.source z) in
        record {
          ordered = s.ordered;
          ahead = λ h. omega (arith, s.ahead (omega arith));
          weighed = λ h. s.weighed (omega arith);
          own = λ h q. omega (arith, s.own (omega arith) q);
          other = λ h q. omega (arith, s.other (omega arith) q);
        }

    -- a line that leaves the same vertex: f itself, or a rival of f
    module _ (live_f : S.live f ≡ true) (live_k : S.live k ≡ true) (same : S.source f ≡ S.source k) (x : ℕ) (is : x ≡ low S k) where
      rival_now : f ≢ k → among S f (k + 1) ≡ min x (among S f k)
      rival_now d = rw is (among_yes (fork_yes S f k live_f live_k same d))

      itself : f ≡ k → (a ≡ among S f (k + 1)) × (low S f ≡ x)
      itself e = (s.ahead (omega arith) ∙ sym (among_no (fork_own S f k e)), ap (low S) e ∙ sym is)

      share_first : x < a → Share S f (k + 1) x a
      share_first l =
          cases (eq_or f k)
          (λ e.
          let q = itself e in
          record {
            ordered = omega arith;
            ahead = λ h. absurd (omega arith);
            weighed = λ h. omega (arith, q.1);
            own = λ h z. q.0;
            other = λ h z. absurd (z q.1);
          })
          (λ d.
          let d' : f ≢ k = d in
          let e = rival_now d' in
          record {
            ordered = omega arith;
            ahead = λ h. omega (arith, s.ahead (omega arith));
            weighed = λ h. omega (arith, s.weighed (omega arith));
            own = λ h z. absurd (omega (arith, s.weighed (omega arith)));
            other = λ h z.
                cases (eq_or (low S f) a)
                (λ y. omega (arith, s.own (omega arith) y, s.ordered))
                (λ n. omega (arith, s.other (omega arith) n));
          })

      -- .. where the first value stays, the second gets the line's low weighed in
      share_second : (b' : ℕ) → a ≤ x → b' ≡ min x b → Share S f (k + 1) a b'
      share_second b' l is_b' =
          let o = s.ordered in
          cases (eq_or f k)
          (λ e.
          let q = itself e in
          record {
            ordered = omega arith;
            ahead = λ h. absurd (omega arith);
            weighed = λ h. omega (arith, q.1);
            own = λ h z. omega (arith, q.0, q.1);
            other = λ h z. q.0;
          })
          (λ d.
          let d' : f ≢ k = d in
          let e = rival_now d' in
          record {
            ordered = omega arith;
            ahead = λ h. omega (arith, s.ahead (omega arith));
            weighed = λ h. s.weighed (omega arith);
            own = λ h z. omega (arith, s.own (omega arith) z);
            other = λ h z. omega (arith, s.other (omega arith) z);
          })

      -- the two values with the line's low weighed in
      share_more : Share S f (k + 1) (min x a) (min (max x a) b)
      share_more =
          let o = s.ordered in
          cases (lt_or x a)
          (λ l. subst (λ (y : ℕ). Share S f (k + 1) (min x a) y) (omega arith) (subst (λ (y : ℕ). Share S f (k + 1) y a) (omega arith) (share_first l)))
          (λ l.
          subst (λ (y : ℕ). Share S f (k + 1) (min x a) y) (omega arith)
          (subst (λ (y : ℕ). Share S f (k + 1) y (min x b)) (omega arith) (share_second (min x b) l refl)))

-- The two tables after the lines below k
pub record Lessening (S : Tree) (k : ℕ) (firsts seconds : List ℕ) : Type 0 where
  pub upto : k ≤ S.lines
  pub firsts_long : length firsts ≡ 512
  pub seconds_long : length seconds ≡ 512
  pub each : (f : ℕ) → f < S.lines → Share S f k (at firsts (S.source f)) (at seconds (S.source f))

module _ {S : Tree} {lines : ℕ} {forks : Forks} {firsts₀ seconds₀ : List ℕ} (s : Weighable S lines forks firsts₀ seconds₀) where
  live : (k : ℕ) → k < S.lines → S.live k ≡ true
  live k h = (s.finished.every k h).yes

  leaves : (k : ℕ) → k < S.lines → S.source k < S.vertices
  leaves k h = s.finished.searched.source_in k (s.finished.every k h)

  pub lessening_start : Lessening S 0 firsts₀ seconds₀
  unfolding minimum
  lessening_start =
      record {
        upto = omega arith;
        firsts_long = s.each_first.long;
        seconds_long = s.each_second.long;
        each = λ f h.
            let p = s.each_first.each (S.source f) (leaves f h) in
            let q = s.each_second.each (S.source f) (leaves f h) in
            record {
              ordered = omega arith;
              ahead = λ z. p;
              weighed = λ z. absurd (omega arith);
              own = λ z y. absurd (omega arith);
              other = λ z y. absurd (omega arith);
            };
      }

  module _ {k : ℕ} {firsts seconds : List ℕ} (r : Lessening S k firsts seconds) where
    -- (R1) after all lines: the second value is the rival of a line whose low is the first, and the first value that of any other
    pub lessening_done : lines ≤ k → Weighed S firsts seconds
    lessening_done h =
        record {
          firsts_long = r.firsts_long;
          seconds_long = r.seconds_long;
          own = λ f q z. (r.each f q).own (omega (arith, s.same_lines)) z ∙ all f;
          other = λ f q z. (r.each f q).other (omega (arith, s.same_lines)) z ∙ all f;
        }
      where
        all : (f : ℕ) → among S f k ≡ rival S f
        all f = let e : k ≡ S.lines = omega (arith, r.upto, s.same_lines) in ap (among S f) e ∙ sym (rival_found S f)

    module _ (k_below : k < lines) where
      k_in : k < S.lines
      k_in = omega (arith, s.same_lines)

      abbrev v : ℕ
      v = at forks.source k

      v_source : v ≡ S.source k
      v_source = s.spans.sources k k_in

      pub lessening_vertex : v < 512
      lessening_vertex = omega (arith, v_source, leaves k k_in, s.finished.few_vertices)

      -- the two values of the line's own vertex change, told for each line that leaves it
      pub lessening_more : {a' b' m : ℕ} → a' ≡ min (at forks.low k) (at firsts v) → m ≡ max (at forks.low k) (at firsts v) → b' ≡ min m (at seconds v)
          → Lessening S (k + 1) (set firsts v a') (set seconds v b')
      lessening_more {a'} {b'} is_a is_m is_b =
          let place = lessening_vertex in
          record {
            upto = omega (arith, k_in);
            firsts_long = length-set firsts v a' ∙ r.firsts_long;
            seconds_long = length-set seconds v b' ∙ r.seconds_long;
            each = λ f h.
                let old = r.each f h in
                cases (eq_or (S.source f) v)
                (λ e.
                let here = subst (λ (u : ℕ). Share S f k (at firsts u) (at seconds u)) e old in
                let new =
                share_more S f k (at firsts v) (at seconds v) here (live f h) (live k k_in) (e ∙ v_source) (at forks.low k) (s.lows.each k k_in) in
                rw (
                  e,
                  get_or-set_same firsts v a' 0 (omega (arith, r.firsts_long)),
                  get_or-set_same seconds v b' 0 (omega (arith, r.seconds_long)),
                  is_a,
                  is_b,
                  is_m,
                ) new)
                (λ d.
                rw (get_or-set_other firsts v (S.source f) a' 0 d, get_or-set_other seconds v (S.source f) b' 0 d)
                (share_pass S f k (at firsts (S.source f)) (at seconds (S.source f)) old (λ z. d (z ∙ sym v_source))));
          }
