-- Where each line leaves and how high it ends, filled in line by line.
use mathlib.Core.Bool.{Bool, cond, beq}
use mathlib.Core.List.{List}
use mathlib.Core.Logic.{◌≢◌}
use mathlib.Core.Path.{◌≡◌, sym, ◌∙◌, ap}
use Prim.Native.Nat.{ℕ, ◌+◌, ◌≤◌, ◌<◌}
use native.Mathlib.Omega.{arith}
use lib.Dec.{eqb, ltb}
use lib.ListN.{length, set, length-set}
use lib.Seq.{get_or-set_same, get_or-set_other}
use borrow.Author.Tests.{eq-eqb, ne_eqb}
use Rattle.laws.specs.Lists.{at}
use Rattle.laws.proofs.Cases.{cases, bool, eq_or, true_false}
use Rattle.network.specs.Network.{first, second}
use Rattle.tree.specs.Tree.{Tree, higher, lower}
use Rattle.tree.specs.Returns.{end}
use Rattle.tree.specs.Words.{TreeLine, BackLine}
use Rattle.fork.specs.Inside.{LongForks}
use Rattle.fork.specs.declared.Forks.{Forks}
use Rattle.spans.specs.Inside.{Spannable, Spanned}

-- a column is written at line k, and not at another
module _ (column : List ℕ) (k x : ℕ) (long : length column ≡ 2048) where
  same_long : length (set column k x) ≡ 2048
  same_long = length-set column k x ∙ long

  here : k < 2048 → at (set column k x) k ≡ x
  here h = get_or-set_same column k x 0 (omega arith)

  there : (j : ℕ) → (j ≡ k → ⊥) → at (set column k x) j ≡ at column j
  there j d = get_or-set_other column k j x 0 d

-- what the columns are to have for line j
pub record Told (S : Tree) (j leaves stop low high top : ℕ) : Type 0 where
  pub source : leaves ≡ S.source j
  pub tree : TreeLine S j → (stop ≡ 512) × (high ≡ 0) × (top ≡ S.lines)
  pub back : BackLine S j → (stop ≡ end S j) × (high ≡ end S j) × (top ≡ j) × (low ≡ end S j)

-- the lines before k have theirs
pub record Spanning (S : Tree) (t : Forks) (k : ℕ) : Type 0 where
  pub long : LongForks t
  pub each : (j : ℕ) → j < k → Told S j (at t.source j) (at t.stop j) (at t.low j) (at t.high j) (at t.top j)

module _ {S : Tree} {lines : ℕ} {ends kinds heights : List ℕ} {forks₀ : Forks} (s : Spannable S lines ends kinds heights forks₀) where
  module _ {t : Forks} {k : ℕ} (w : Spanning S t k) where
    pub spanning_done : lines ≤ k → Spanned S t
    spanning_done h =
        let e = s.same_lines in
        record {
          spans = record {
            long = w.long;
            sources = λ j i. (w.each j (omega arith)).source;
            stops = λ j l. ((w.each j (omega (arith, l.0.below))).back l).0;
            no_stops = λ j l. ((w.each j (omega (arith, l.0.below))).tree l).0;
          };
          unlowed = record { back_lows = λ j l. ((w.each j (omega (arith, l.0.below))).back l).3 };
          untopped = record {
            back_highs = λ j l. ((w.each j (omega (arith, l.0.below))).back l).1;
            back_tops = λ j l. ((w.each j (omega (arith, l.0.below))).back l).2;
            tree_highs = λ j l. ((w.each j (omega (arith, l.0.below))).tree l).1;
            tree_tops = λ j l. ((w.each j (omega (arith, l.0.below))).tree l).2;
          };
        }

    module _ (k_in : k < lines) where
      place_in : k < 2048
      place_in = omega (arith, s.same_lines, s.finished.few_lines)

      inside : k < S.lines
      inside = omega (arith, s.same_lines)

      abbrev forward : Bool
      forward = beq (ltb (at heights (first ends k)) (at heights (second ends k))) (eqb (at kinds k) 0)

      module _ {o l p h q : ℕ} (is_o : o ≡ cond forward (at heights (second ends k)) (at heights (first ends k))) (is_l : l ≡ cond forward (first ends k) (second ends k))
          (is_p : p ≡ cond (eqb (at kinds k) 0) 512 o) (is_h : h ≡ cond (eqb (at kinds k) 0) 0 o) (is_q : q ≡ cond (eqb (at kinds k) 0) lines k) where
        -- the line runs from its first end to its second where it is a tree line with the second higher, or a back line without
        tree_source : at kinds k ≡ 0 → l ≡ lower ends heights k
        unfolding lower
        tree_source e =
            cases (bool (ltb (at heights (first ends k)) (at heights (second ends k))))
            (λ b. is_l ∙ (rw (eq-eqb (at kinds k) 0 e, b)))
            (λ b. is_l ∙ (rw (eq-eqb (at kinds k) 0 e, b)))

        back_source : (at kinds k ≡ 0 → ⊥) → l ≡ higher ends heights k
        unfolding higher
        back_source d =
            cases (bool (ltb (at heights (first ends k)) (at heights (second ends k))))
            (λ b. is_l ∙ (rw (ne_eqb (at kinds k) 0 d, b)))
            (λ b. is_l ∙ (rw (ne_eqb (at kinds k) 0 d, b)))

        back_end : (at kinds k ≡ 0 → ⊥) → o ≡ at heights (lower ends heights k)
        unfolding lower
        back_end d =
            cases (bool (ltb (at heights (first ends k)) (at heights (second ends k))))
            (λ b. is_o ∙ (rw (ne_eqb (at kinds k) 0 d, b)))
            (λ b. is_o ∙ (rw (ne_eqb (at kinds k) 0 d, b)))

        told : Told S k l p o h q
        told =
            cases (eq_or (at kinds k) 0)
            (λ e.
            let line = s.each_kind.tree k inside e in
            record {
              source = tree_source e ∙ sym (s.ended.tree_source k line);
              tree = λ z. (
                is_p ∙ (rw (eq-eqb (at kinds k) 0 e)),
                is_h ∙ (rw (eq-eqb (at kinds k) 0 e)),
                is_q ∙ (rw (eq-eqb (at kinds k) 0 e) (sym s.same_lines)),
              );
              back = λ z. true_false line.1 z.1;
            })
            (λ d.
            let line = s.each_kind.back k inside d in
            let stop : o ≡ end S k =
            back_end d ∙ ap (at heights) (sym (s.ended.back_target k line))
            ∙ s.each_height.each (S.target k) (s.finished.searched.target_in k line.0) in
            record {
              source = back_source d ∙ sym (s.ended.back_source k line);
              tree = λ z. true_false z.1 line.1;
              back = λ z. (
                is_p ∙ (rw (ne_eqb (at kinds k) 0 d) stop),
                is_h ∙ (rw (ne_eqb (at kinds k) 0 d) stop),
                is_q ∙ (rw (ne_eqb (at kinds k) 0 d)),
                stop,
              );
            })

        abbrev next : Forks
        next = record { source = set t.source k l; stop = set t.stop k p; low = set t.low k o; high = set t.high k h; top = set t.top k q }

        pub spanning_more : Spanning S next (k + 1)
        spanning_more =
            let small = place_in in
            let long = w.long in
            record {
              long = record {
                sources = same_long t.source k l long.sources;
                stops = same_long t.stop k p long.stops;
                lows = same_long t.low k o long.lows;
                highs = same_long t.high k h long.highs;
                tops = same_long t.top k q long.tops;
              };
              each = λ j i.
                  cases (eq_or j k)
                  (λ e.
                  rw (
                    e,
                    here t.source k l long.sources small,
                    here t.stop k p long.stops small,
                    here t.low k o long.lows small,
                    here t.high k h long.highs small,
                    here t.top k q long.tops small,
                  )
                  told)
                  (λ d.
                  let d' : j ≢ k = d in
                  rw (
                    there t.source k l long.sources j d,
                    there t.stop k p long.stops j d,
                    there t.low k o long.lows j d,
                    there t.high k h long.highs j d,
                    there t.top k q long.tops j d,
                  )
                  (w.each j (omega arith)));
            }
