-- The turns one after the other: along the chains of the back lines by rising ends, every one is taken once all earlier ones are.
use mathlib.Core.List.{List}
use mathlib.Core.Logic.{inl, inr}
use mathlib.Core.Path.{◌≡◌, ◌∙◌, subst}
use Prim.Native.Nat.{ℕ, ◌+◌, ◌-◌, ◌≤◌, ◌<◌}
use native.Mathlib.Omega.{arith}
use Rattle.std.specs.Prelude.{Result, Ok, Err, ⊤}
use Rattle.laws.specs.Lists.{at}
use Rattle.laws.specs.Chains.{Follows}
use Rattle.laws.proofs.Cases.{cases, lt_or}
use Rattle.tree.specs.Tree.{Tree}
use Rattle.tree.specs.Returns.{end}
use Rattle.tree.specs.Words.{BackLine}
use Rattle.tree.specs.Searched.{Searched}
use Rattle.groups.specs.declared.Groups.{Groups}
use Rattle.links.specs.Inside.{Sound, StillClosed, Outcome, obeyed}
use Rattle.links.specs.declared.Tear.{Tear}
use Rattle.links.proofs.Closing.{closed_same, closed_after}
use Rattle.links.proofs.Outcomes.{torn, holds_of}
use Rattle.spans.proofs.Buckets.{chain_line, chain_between, last_empty}
use Rattle.fork.specs.declared.Forks.{Forks}
use Rattle.spans.specs.declared.Jumps.{Jumps}
use Rattle.rising.specs.Inside.{Rising, Risen, RisesBefore, Raised}

-- the tables tell the same of two places in the order with the same back lines before them
raised_same : {S : Tree} {x b y d : ℕ} {bottoms : List ℕ} {g : Groups} → ((c : ℕ) → BackLine S c → RisesBefore S x b c → RisesBefore S y d c)
    → ((c : ℕ) → BackLine S c → RisesBefore S y d c → RisesBefore S x b c) → Raised S x b bottoms g → Raised S y d bottoms g
raised_same there back r =
    record {
      long = r.long;
      each = λ v i h.
          cases (r.each v i h)
          (λ q. inl (q.0, λ e s p. q.1 e s (back e s.is_back p)))
          (λ q. inr (q.0, q.1, there _ q.1.is_back q.2));
      lowest = λ f c t l p n. r.lowest f c t l (back c l.return.is_back p) n;
    }

-- the back lines that end below x were taken
pub record Levelled (S : Tree) (x : ℕ) (bottoms : List ℕ) (g₀ g : Groups) : Type 0 where
  pub level : x ≤ S.vertices
  pub raised : Raised S x 0 bottoms g
  pub sound : Sound S g
  pub onward : StillClosed S g₀ g

-- the walk has come to b in the chain of x
pub record Upward (S : Tree) (x b : ℕ) (bottoms : List ℕ) (g₀ g : Groups) : Type 0 where
  pub upto : b ≤ S.lines
  pub line : b < S.lines → BackLine S b × (end S b ≡ x)
  pub raised : Raised S x b bottoms g
  pub sound : Sound S g
  pub onward : StillClosed S g₀ g

module _ {S : Tree} {vertices : ℕ} {heights : List ℕ} {jumps : Jumps} {heads nexts : List ℕ} {forks : Forks} {bottoms₀ : List ℕ} {g₀ : Groups}
    (s : Rising S vertices heights jumps heads nexts forks bottoms₀ g₀) where
  X : Searched S
  X = s.finished.searched

  few : (S.vertices ≤ 512) × (S.lines ≤ 2048)
  few = (s.finished.few_vertices, s.finished.few_lines)

  end_in : (c : ℕ) → BackLine S c → end S c < S.vertices
  end_in c l = X.height_small (S.target c) (X.target_in c l.0)

  -- What the walk leaves, once all back lines were taken
  risen : {x b : ℕ} {bottoms : List ℕ} {g : Groups} → vertices ≤ x → Raised S x b bottoms g → Risen S bottoms g
  risen {x = x} {b = b₀} h r =
      record {
        each_bottom = record {
          long = r.long;
          some = λ v b i p q. cases (r.each v i p) (λ z. absurd (z.1 b q (done b q.is_back))) (λ z. z.0);
          none = λ v i p q. cases (r.each v i p) (λ z. z.0) (λ z. absurd (q _ z.1));
        };
        lowest = λ f c t l n. r.lowest f c t l (done c l.return.is_back) n;
      }
    where
      done : (c : ℕ) → BackLine S c → RisesBefore S x b₀ c
      done c l = inl (omega (arith, end_in c l, s.same_vertices))

  nothing : {x b : ℕ} → ((c : ℕ) → BackLine S c → RisesBefore S x b c → ⊥) → Raised S x b bottoms₀ g₀
  nothing n =
      record {
        long = s.bottoms_long;
        each = λ v i h. inl (s.no_bottoms v (omega (arith, few.0)), λ d r p. n d r.is_back p);
        lowest = λ f c t l p q. absurd (n c l.return.is_back p);
      }

  -- without vertices there are no lines
  pub rise_empty : vertices ≡ 0 → Outcome S g₀ g₀ (Risen S bottoms₀ g₀) (Ok tt)
  rise_empty e =
      obeyed s.sound (closed_same S g₀)
      (risen {x = 0} {b = 0} (omega arith) (nothing (λ c l p. omega (arith, end_in c l, s.same_vertices))))

  -- the lines of a chain, where the chains before were taken
  module _ {x : ℕ} (x_in : x < vertices) where
    come_to : {i b : ℕ} → Follows S.lines (at forks.stop) x i b → b < S.lines → BackLine S b × (end S b ≡ x)
    come_to {i} {b} f h = chain_line S s.finished forks s.spans x i b (omega (arith, s.same_vertices)) f h

    between : {i b : ℕ} → Follows S.lines (at forks.stop) x i b → (c : ℕ) → BackLine S c → end S c ≡ x → i ≤ c → c < b → ⊥
    between {i} {b} f c l e = chain_between S s.finished forks s.spans x i b c f l e

    pub rise_chain : {bottoms : List ℕ} {g : Groups} → Levelled S x bottoms g₀ g → Upward S x (at heads x) bottoms g₀ g
    rise_chain w =
        let f = s.buckets.heads_are x (omega (arith, s.same_vertices, few.0)) in
        record {
          upto = f.upto;
          line = come_to f;
          raised =
              raised_same
              (λ c l p. cases p inl (λ q. absurd (omega (arith, q.1))))
              (λ c l p. cases p inl (λ q. absurd (between f c l q.0 (omega arith) q.1)))
              w.raised;
          sound = w.sound;
          onward = w.onward;
        }

    module _ {b : ℕ} {bottoms : List ℕ} {g : Groups} (w : Upward S x b bottoms g₀ g) where
      none_is : at heads (vertices - 1) ≡ S.lines
      none_is = last_empty S s.finished forks s.spans heads nexts s.buckets (vertices - 1) (omega (arith, s.same_vertices))

      -- the chain is at its end: on to the next
      pub rise_up : at heads (vertices - 1) ≤ b → Levelled S (x + 1) bottoms g₀ g
      rise_up over =
          record {
            level = omega (arith, s.same_vertices);
            raised =
                raised_same
                (λ c l p. inl (cases p (λ h. omega arith) (λ q. omega (arith, q.0))))
                (λ c l p.
                cases p
                (λ h.
                cases (lt_or (end S c) x)
                inl
                (λ k. inr (omega arith, omega (arith, none_is, l.0.below))))
                (λ q. absurd (omega (arith, q.1))))
                w.raised;
            sound = w.sound;
            onward = w.onward;
          }

      -- a line of the chain
      module _ (under : b < at heads (vertices - 1)) where
        b_in : b < S.lines
        b_in = omega (arith, none_is)

        own : BackLine S b × (end S b ≡ x)
        own = w.line b_in

        follows : Follows S.lines (at forks.stop) x (b + 1) (at nexts b)
        follows =
            subst (λ (y : ℕ). Follows S.lines (at forks.stop) y (b + 1) (at nexts b)) (s.spans.stops b own.0 ∙ own.1)
            (s.buckets.nexts_are b b_in)

        module _ {bottoms' : List ℕ} {g' : Groups} {r : Result ⊤ Tear}
            (settled : Outcome S g g' (Raised S (end S b) (b + 1) bottoms' g') r) where
          pub rise_torn : {t : Tear} → r ≡ Err t → Outcome S g₀ g' (Risen S bottoms' g') (Err t)
          rise_torn e = torn settled e

          pub rise_next : r ≡ Ok tt → Upward S x (at nexts b) bottoms' g₀ g'
          rise_next e =
              let h = holds_of settled e in
              record {
                upto = follows.upto;
                line = come_to follows;
                raised =
                    raised_same
                    (λ c l p. cases p inl (λ q. inr (q.0, omega (arith, q.1, follows.from))))
                    (λ c l p.
                    cases p
                    inl
                    (λ q. inr (q.0, cases (lt_or c (b + 1)) (λ h. h) (λ h. absurd (between follows c l q.0 h q.1)))))
                    (subst (λ (y : ℕ). Raised S y (b + 1) bottoms' g') own.1 h.2);
                sound = h.0;
                onward = closed_after S g₀ g g' w.onward h.1;
              }

  pub rise_done : {x : ℕ} {bottoms : List ℕ} {g : Groups} → Levelled S x bottoms g₀ g → vertices ≤ x → Outcome S g₀ g (Risen S bottoms g) (Ok tt)
  rise_done w h = obeyed w.sound w.onward (risen h w.raised)
