-- A ring has no more steps than there are back lines: each step has a line of its own, which is a back line.
use mathlib.Core.Bool.{true, not}
use mathlib.Core.List.{List}
use mathlib.Core.Path.{◌≡◌, refl, sym, ◌∙◌, ap}
use Prim.Native.Nat.{ℕ, zero, suc, ◌≤◌, ◌<◌}
use native.Mathlib.Omega.{arith}
use lib.Dec.{eqb, ltb}
use lib.ListN.{get_or}
use borrow.Author.Tests.{ne_eqb, le-ltb}
use Rattle.laws.specs.Counting.{count}
use Rattle.laws.specs.Tests.{both}
use Rattle.laws.specs.Checks.{Check}
use Rattle.laws.specs.Lists.{at}
use Rattle.laws.proofs.Cases.{cases, lt_or}
use Rattle.laws.proofs.Tests.{both_no_first}
use Rattle.laws.proofs.Counting.{count_le, count_all, count_same, many_count}
use Rattle.network.specs.Network.{Network, network}
use Rattle.network.specs.Numbers.{Untouched, triple}
use Rattle.network.specs.Inside.{Fit}
use Rattle.network.specs.Numbers.{Answer}
use Rattle.network.proofs.Sifting.{checked_elim}
use Rattle.tree.specs.Tree.{Tree}
use Rattle.tree.specs.Returns.{backb}
use Rattle.tree.specs.Words.{BackLine}
use Rattle.search.specs.Machine.{finished, tree_in}
use Rattle.search.specs.Orient.{back_lines}
use Rattle.search.proofs.Deep.{finished_both}
use Rattle.fork.specs.Fork.{Constraint}
use Rattle.fork.proofs.Choices.{constraint_ends}
use Rattle.fork.proofs.Rule.{back_yes}
use Rattle.rings.specs.Ring.{Ring}
use Rattle.rings.proofs.Rings.{apart_of}
use Rattle.choice.specs.Choice.{Drawable}
use Rattle.choice.specs.Calls.{FirstChoice, cramped_first, Chosen, Ringed}

-- Any ring of fork constraints

module _ (S : Tree) where
  module _ (n : ℕ) (line kind : ℕ → ℕ) (ring : Ring (Constraint S) n line kind) where
    step_back : (i : ℕ) → i < n → BackLine S (line i)
    step_back i h =
        cases (lt_or (suc i) n)
        (λ g. (constraint_ends S (ring.step i g)).0)
        (λ g. (constraint_ends S (ring.close i (omega arith))).0)

    line_once : (i j : ℕ) → i < n → j < n → line i ≡ line j → i ≡ j
    line_once i j h l e =
        cases (lt_or i j)
        (λ g. absurd (apart_of n line kind ring.shape i j g l e))
        (λ g.
        cases (lt_or j i)
        (λ g'. absurd (apart_of n line kind ring.shape j i g' h (sym e)))
        (λ g'. omega arith))

    pub ring_few : n ≤ count (backb S) S.lines
    ring_few =
        let few = count_le (λ i b. line i ≡ b) (λ i. true) (backb S) n S.lines
        (λ i h t. let b = step_back i h in (line i, b.0.below, back_yes S (line i) b, refl))
        (λ i j b h l e f. line_once i j h l (e ∙ sym f)) in
        omega (arith, few, count_all n)

-- The ring that first choice shows

-- the number that the calls hand back counts the back lines of the tree
back_lines_are : (net : Network) → Fit net → back_lines net ≡ count (backb (tree_in net)) net.lines
unfolding back_lines both
back_lines_are net fit =
    let kinds = (finished net).kind in
    many_count 1 net.lines kinds (omega (arith, fit.few_lines, (finished_both net fit).0.kinds_long))
    ∙ count_same (λ k. eqb (get_or kinds k 0) 1) (backb (tree_in net)) net.lines (λ k h. one (get_or kinds k 0))
  where
    one : (x : ℕ) → eqb x 1 ≡ both (ltb x 2) (not (eqb x 0))
    one zero = refl
    one (suc zero) = refl
    one (suc (suc x)) = ne_eqb (suc (suc x)) 1 (λ e. omega arith) ∙ sym (both_no_first _ _ (le-ltb (suc (suc x)) 2 (omega arith)))

pub ring_length : (n : ℕ) (ends choice lines kinds : List ℕ) (r : Answer) (choice' lines' kinds' : List ℕ)
    → FirstChoice n ends choice lines kinds r choice' lines' kinds' → r.number ≡ 7 → r.second ≤ back_lines (network n ends)
ring_length n ends choice lines kinds r choice' lines' kinds' f e =
    let net = network n ends in
    checked_elim n ends (cramped_first ends choice lines kinds) (Untouched (triple choice lines kinds) r (triple choice' lines' kinds'))
    (Check (Drawable (tree_in net)) (Chosen net choice lines kinds r choice' lines' kinds') (Ringed net choice lines kinds r choice' lines' kinds')) f
    (λ k some few (u : Untouched (triple choice lines kinds) r (triple choice' lines' kinds') k). absurd (let z : r.number ≡ k = ap (λ (a : Answer). a.number) u.answers in omega arith))
    (λ fit c g.
    cases g
    (λ y. absurd (let z : r.number ≡ 0 = ap (λ (a : Answer). a.number) y.1.answers in omega arith))
    (λ y.
    let size : r.second ≡ y.1.size = ap (λ (a : Answer). a.second) y.1.answers in
    omega (arith, ring_few (tree_in net) y.1.size (at lines') (at kinds') y.1.ring, back_lines_are net fit)))
