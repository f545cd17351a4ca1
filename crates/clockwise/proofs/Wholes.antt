-- The order that any choice of sides gives, from the tables of a finished search, has each line once at each of its ends. So it has two places for each
-- line, which can be said of any finished search: its lines from source to target are a network.
use mathlib.Core.Bool.{true}
use mathlib.Core.List.{List, [], ◌∷◌}
use mathlib.Core.Logic.{◌⊎◌, inl, inr}
use mathlib.Core.Path.{◌≡◌, refl, sym, ◌∙◌, ap, subst}
use Prim.Native.Nat.{ℕ, zero, suc, ◌+◌, ◌*◌, ◌/◌, ◌<◌}
use native.Mathlib.Omega.{arith}
use lib.ListN.{length, get_or}
use Rattle.laws.proofs.Cases.{cases, bool}
use Rattle.network.specs.Network.{Network, network_of, touches}
use Rattle.network.specs.Inside.{Fit}
use Rattle.network.proofs.Lines.{touches_first, touches_second, touches_of}
use Rattle.tree.specs.Tree.{Tree, tree_of}
use Rattle.tree.specs.Grown.{Grown}
use Rattle.tree.proofs.Grown.{searched, directed}
use Rattle.tree.specs.Searched.{Searched}
use Rattle.fork.specs.Inside.{Finished}
use Rattle.meshes.specs.Inside.{Whole}
use Rattle.meshes.proofs.Directions.{parity}
use Rattle.clockwise.specs.Order.{order_at, flat}
use Rattle.clockwise.proofs.Leaving.{fanned}
use Rattle.clockwise.proofs.Flat.{flat_full}
use Rattle.clockwise.proofs.Clockwise.{holds, only}

module _ (n m : ℕ) (ends kind height parent : List ℕ) (G : Grown n m ends kind height parent) where
  abbrev S : Tree
  S = tree_of n m ends kind height parent

  end_of : (v k : ℕ) → touches ends v k ≡ true → (S.source k ≡ v) ⊎ (S.target k ≡ v)
  end_of v k t =
      cases (directed n m ends kind height parent G k)
      (λ d. cases (touches_of ends v k t) (λ e. inl (sym d.0 ∙ e)) (λ e. inr (sym d.1 ∙ e)))
      (λ d. cases (touches_of ends v k t) (λ e. inr (sym d.0 ∙ e)) (λ e. inl (sym d.1 ∙ e)))

  of_end : (v k : ℕ) → (S.source k ≡ v) ⊎ (S.target k ≡ v) → touches ends v k ≡ true
  of_end v k s =
      cases (directed n m ends kind height parent G k)
      (λ d. cases s (λ e. touches_first ends v k (d.0 ∙ e)) (λ e. touches_second ends v k (d.1 ∙ e)))
      (λ d. cases s (λ e. touches_second ends v k (d.1 ∙ e)) (λ e. touches_first ends v k (d.0 ∙ e)))

  pub drawn_whole : (side : ℕ → ℕ) → Whole (network_of n m ends) S.live (order_at S side)
  drawn_whole side =
      let X = searched n m ends kind height parent G in
      let F = fanned S side in
      record {
        holds = λ v k h l t e. holds S X _ F side v k h (record { below = l; yes = t }) (end_of v k e);
        only = λ v k h p.
            let q = only S X _ F side v k h p in
            (q.0.below, q.0.yes, of_end v k q.1);
      }

-- The ends of lines that go from s to t
ends_of : (ℕ → ℕ) → (ℕ → ℕ) → ℕ → List ℕ
ends_of s t zero = []
ends_of s t (suc m) = s 0 ∷ t 0 ∷ ends_of (λ k. s (suc k)) (λ k. t (suc k)) m

ends_long : (s t : ℕ → ℕ) (m : ℕ) → length (ends_of s t m) ≡ 2 * m
unfolding ends_of
ends_long s t zero = refl
ends_long s t (suc m) = omega (arith, ends_long (λ k. s (suc k)) (λ k. t (suc k)) m)

ends_first : (s t : ℕ → ℕ) (m k : ℕ) → k < m → get_or (ends_of s t m) (2 * k) 0 ≡ s k
unfolding ends_of
ends_first s t zero k h = absurd (omega arith)
ends_first s t (suc m) zero h = refl
ends_first s t (suc m) (suc k) h = let e : 2 * suc k ≡ suc (suc (2 * k)) = omega arith in rw e (ends_first (λ k. s (suc k)) (λ k. t (suc k)) m k (omega arith))

ends_second : (s t : ℕ → ℕ) (m k : ℕ) → k < m → get_or (ends_of s t m) (2 * k + 1) 0 ≡ t k
unfolding ends_of
ends_second s t zero k h = absurd (omega arith)
ends_second s t (suc m) zero h = refl
ends_second s t (suc m) (suc k) h = let e : 2 * suc k + 1 ≡ suc (suc (2 * k + 1)) = omega arith in rw e (ends_second (λ k. s (suc k)) (λ k. t (suc k)) m k (omega arith))

module _ (S : Tree) (F : Finished S) (some : 0 < S.vertices) where
  X : Searched S
  X = F.searched

  abbrev m : ℕ
  m = S.lines

  abbrev ends : List ℕ
  ends = ends_of S.source S.target S.lines

  abbrev net : Network
  net = network_of S.vertices S.lines (ends_of S.source S.target S.lines)

  starts : (k : ℕ) → k < m → get_or ends (2 * k) 0 ≡ S.source k
  starts = ends_first S.source S.target m

  stops : (k : ℕ) → k < m → get_or ends (2 * k + 1) 0 ≡ S.target k
  stops = ends_second S.source S.target m

  end_in : (i : ℕ) → i < 2 * m → get_or ends i 0 < S.vertices
  end_in i h =
      let k : i / 2 < m = omega arith in
      cases (parity i)
      (λ e. let q : 2 * (i / 2) ≡ i = omega arith in subst (λ (x : ℕ). get_or ends x 0 < S.vertices) q (rw (starts (i / 2) k) (X.source_in (i / 2) (F.every (i / 2) k))))
      (λ e. let q : 2 * (i / 2) + 1 ≡ i = omega arith in subst (λ (x : ℕ). get_or ends x 0 < S.vertices) q (rw (stops (i / 2) k) (X.target_in (i / 2) (F.every (i / 2) k))))

  apart : (k : ℕ) → k < m → get_or ends (2 * k) 0 ≡ get_or ends (2 * k + 1) 0 → ⊥
  apart k h e =
      let same : S.height (S.source k) ≡ S.height (S.target k) = ap S.height (sym (starts k h) ∙ e ∙ stops k h) in
      cases (bool (S.tree k)) (λ t. omega (arith, X.rise k (F.every k h, t))) (λ t. omega (arith, X.fall k (F.every k h, t)))

  fits : Fit net
  fits =
      record {
        some_vertex = some;
        few_vertices = F.few_vertices;
        few_lines = F.few_lines;
        ends_long = ends_long S.source S.target m;
        ends_in = end_in;
        apart = apart;
      }

  whole : (side : ℕ → ℕ) → Whole net S.live (order_at S side)
  whole side =
      let O = fanned S side in
      record {
        holds = λ v k h l t e.
            holds S X _ O side v k h (record { below = l; yes = t })
            (cases (touches_of ends v k e) (λ q. inl (sym (starts k l) ∙ q)) (λ q. inr (sym (stops k l) ∙ q)));
        only = λ v k h p.
            let q = only S X _ O side v k h p in
            let l = q.0.below in
            (l, q.0.yes, cases q.1 (λ e. touches_first ends v k (starts k l ∙ e)) (λ e. touches_second ends v k (stops k l ∙ e)));
      }

  pub order_full : (side : ℕ → ℕ) → length (flat S.vertices (order_at S side)) ≡ 2 * S.lines
  order_full side = flat_full net fits S.live (order_at S side) (whole side) (λ k h. (F.every k h).yes)
