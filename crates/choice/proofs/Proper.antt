-- Proper choices are those that keep every link: so what the tables of all links tell is told of them; and where one link tears, no choice is legal.
use mathlib.Core.Bool.{true}
use mathlib.Core.Path.{◌≡◌}
use Prim.Native.Nat.{ℕ, ◌%◌, ◌<◌}
use native.Mathlib.Omega.{arith}
use lib.Dec.{eqb}
use borrow.Author.Tests.{eqb-true}
use Rattle.laws.proofs.Cases.{cases}
use Rattle.laws.proofs.Counting.{count_some}
use Rattle.laws.proofs.Tests.{both_of}
use Rattle.tree.specs.Tree.{Tree}
use Rattle.tree.specs.Returns.{backb}
use Rattle.tree.specs.Searched.{Searched}
use Rattle.fork.specs.Fork.{Aligned, Constraint}
use Rattle.fork.specs.Link.{Link, turned}
use Rattle.fork.proofs.Rule.{back_yes, back_of}
use Rattle.fork.proofs.Aligning.{none_legal}
use Rattle.fork.proofs.Links.{aligned_links, links_aligned}
use Rattle.fork.proofs.Rings.{Tied, link_tied, ring_step, ring_close}
use Rattle.groups.specs.Constraints.{Between, More, Satisfies}
use Rattle.groups.specs.Groups.{Tables}
use Rattle.groups.proofs.Grouped.{conflict}
use Rattle.rings.specs.Ring.{Ring, oddb, ringb}
use Rattle.choice.specs.Choice.{Drawable, Proper}
use Rattle.links.specs.Inside.{Closed, Taken, Together, Unkept}
use Rattle.links.proofs.Tying.{link_sided}

-- a ring has a "different"
odd_of : (n : ℕ) (line kind : ℕ → ℕ) → ringb n line kind ≡ true → (j : ℕ) × (j < n) × (kind j ≡ 0 → ⊥)
unfolding ringb oddb
odd_of n line kind e =
    let o = (both_of (both_of (both_of e).1).1).0 in
    let q = count_some (λ i. eqb (kind i) 1) n (let z = eqb-true _ 1 o in some _ z) in
    (q.0, q.1, λ z. let y = eqb-true (kind q.0) 1 q.2 in omega arith)
  where
    some : (m : ℕ) → m % 2 ≡ 1 → 0 < m
    some m z = omega arith

module _ (S : Tree) (X : Searched S) (t : Tables) (g : Together S t) where
  -- All links are obeyed

  module _ (all : (b d k : ℕ) → Link S b d k → Closed t b d k) where
    pub proper_obeys : (c : ℕ → ℕ) → Proper S c → Satisfies S.lines (backb S) (Taken S t) c
    proper_obeys c p =
        record {
          tree = p.no_side;
          side = λ b h. p.aligned.legal.bits b (back_of S b h.within h.is_back);
          kept = λ b d k q. aligned_links S c p.aligned b d k q.0;
        }

    pub obeys_proper : (c : ℕ → ℕ) → Satisfies S.lines (backb S) (Taken S t) c → Proper S c
    obeys_proper c o =
        record {
          no_side = o.tree;
          aligned = links_aligned S X c (λ b h. o.side b (record { within = h.0.below; is_back = back_yes S b h })) (λ b d k l. o.kept b d k (l, all b d k l));
        }

  -- A link tears

  module _ (b d k : ℕ) (r : Unkept S t b d k) where
    none_aligned : (side : ℕ → ℕ) → Aligned S side → ⊥
    none_aligned side a =
        let e = link_sided S r.link in
        conflict S.lines (backb S) (Taken S t) t g b d k e.0 e.1 r.together r.odd side
        (λ x y z m. cases m (λ p. aligned_links S side a x y z p.0) (λ q. rw (q.0, q.1, q.2) (aligned_links S side a b d k r.link)))

    pub none_drawable : Drawable S → ⊥
    none_drawable q = none_legal S X none_aligned q.0 q.1

    pub none_proper : (c : ℕ → ℕ) → Proper S c → ⊥
    none_proper c p = none_aligned c p.aligned

    -- a ring of links is one of constraints
    pub ring_constraints : (n : ℕ) (line kind : ℕ → ℕ) → Ring (Between (More (Taken S t) b d k)) n line kind → Ring (Constraint S) n line kind
    ring_constraints n line kind q =
        let j = odd_of n line kind q.shape in
        record {
          shape = q.shape;
          step = ring_step S X n line kind (λ i h. tied (q.step i h)) (λ i h. tied (q.close i h)) j.0 j.1 j.2;
          close = ring_close S X n line kind (λ i h. tied (q.step i h)) (λ i h. tied (q.close i h)) j.0 j.1 j.2;
        }
      where
        linked : {x y z : ℕ} → More (Taken S t) b d k x y z → Link S x y z
        linked m = cases m (λ p. p.0) (λ e. rw (e.0, e.1, e.2) r.link)

        tied : {x y z : ℕ} → Between (More (Taken S t) b d k) x y z → Tied S x y z
        tied m = cases m (λ p. link_tied S X (linked p)) (λ p. link_tied S X (turned (linked p)))
