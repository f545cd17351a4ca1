-- The back lines chained by their ends: what the chains have.
use mathlib.Core.List.{List}
use mathlib.Core.Logic.{◌⊎◌, inl, inr}
use mathlib.Core.Path.{◌≡◌, ◌∙◌}
use Prim.Native.Nat.{ℕ, ◌+◌, ◌≤◌, ◌<◌}
use native.Mathlib.Omega.{arith}
use Rattle.laws.specs.Lists.{at}
use Rattle.laws.specs.Chains.{Follows, Chainable}
use Rattle.laws.proofs.Cases.{cases, bool, lt_or}
use Rattle.tree.specs.Tree.{Tree}
use Rattle.tree.specs.Returns.{end}
use Rattle.tree.specs.Words.{BackLine}
use Rattle.fork.specs.Inside.{Finished, Spans, Buckets}
use Rattle.fork.specs.declared.Forks.{Forks}

module _ (S : Tree) (fin : Finished S) (forks : Forks) (spans : Spans S forks) where
  -- a back line ends at a height, a tree line at none
  stop_cases : (k : ℕ) → k < S.lines → (BackLine S k × (at forks.stop k ≡ end S k) × (end S k < S.vertices)) ⊎ (at forks.stop k ≡ 512)
  stop_cases k h =
      let l = fin.every k h in
      cases (bool (S.tree k))
      (λ t. inr (spans.no_stops k (l, t)))
      (λ t. inl ((l, t), spans.stops k (l, t), fin.searched.height_small (S.target k) (fin.searched.target_in k l)))

  pub spans_chainable : Chainable 513 2048 S.lines (at forks.stop)
  spans_chainable =
      record {
        few = fin.few_lines;
        small = λ k h. cases (stop_cases k h) (λ q. omega (arith, q.1, q.2, fin.few_vertices)) (λ e. omega arith);
      }

  -- (B) the chain of x has the back lines that end at x, rising: what it comes to next is such a line, and there is none between
  pub chain_line : (x i k : ℕ) → x < S.vertices → Follows S.lines (at forks.stop) x i k → k < S.lines → BackLine S k × (end S k ≡ x)
  chain_line x i k x_in f h =
      let e = f.at h in
      let few = fin.few_vertices in
      cases (stop_cases k h) (λ q. (q.0, omega (arith, q.1))) (λ n. absurd (omega arith))

  pub chain_between : (x i k b : ℕ) → Follows S.lines (at forks.stop) x i k → BackLine S b → end S b ≡ x → i ≤ b → b < k → ⊥
  chain_between x i k b f l e h g = f.between b h g (spans.stops b l ∙ e)

  -- no back line ends as high as a vertex can stand: that chain is empty, and its head is the number of lines
  pub last_empty : (heads nexts : List ℕ) → Buckets S forks heads nexts → (x : ℕ) → x + 1 ≡ S.vertices → at heads x ≡ S.lines
  last_empty heads nexts chains x e =
      let few = fin.few_vertices in
      let f = chains.heads_are x (omega arith) in
      cases (lt_or (at heads x) S.lines)
      (λ h.
      let q = chain_line x 0 (at heads x) (omega arith) f h in
      let X = fin.searched in
      absurd (omega (arith, q.1, X.fall _ q.0, X.height_small (S.source (at heads x)) (X.source_in (at heads x) q.0.0))))
      (λ h. omega (arith, f.upto))
