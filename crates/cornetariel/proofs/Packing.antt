-- Every answer packs: its number is below 16, and its counts are counts of a network within the limits.
use mathlib.Core.List.{List}
use mathlib.Core.Logic.{inl, inr}
use mathlib.Core.Path.{◌≡◌, sym, subst}
use Prim.Native.Nat.{ℕ, ◌*◌, ◌/◌, ◌≤◌, ◌<◌}
use native.Mathlib.Omega.{arith}
use lib.Dec.{ltb}
use lib.ListN.{length, take, length-take}
use Rattle.laws.specs.Checks.{Check}
use Rattle.laws.specs.Lists.{filled, at}
use Rattle.laws.proofs.Cases.{cases, false_when}
use Rattle.laws.proofs.Counting.{many_le}
use Rattle.network.specs.Network.{Network, network}
use Rattle.network.specs.Numbers.{refused, done, Untouched, triple, pair}
use Rattle.network.specs.Inside.{Fit}
use Rattle.network.specs.Numbers.{Answer}
use Rattle.network.proofs.Checks.{sized}
use Rattle.network.proofs.Sifting.{checked_elim}
use Rattle.search.specs.Machine.{finished, tree_in}
use Rattle.search.specs.Orient.{Orient, Oriented, cramped, back_lines}
use Rattle.text.specs.Text.{room, text_of, vertices_in, lines_in}
use Rattle.text.specs.Calls.{Read, Write}
use Rattle.choice.specs.Choice.{Drawable, Proper, Outdone}
use Rattle.choice.specs.Calls.{FirstChoice, cramped_first, Chosen, Ringed, NextChoice, cramped_next, Stepped}
use Rattle.drawing.specs.Draw.{Draw, cramped_draw, Balanced, Drew, meshes_in}
use Rattle.cornetariel.specs.Face.{packed, Packed, Small}

small_refused : (k : ℕ) → k < 256 → Small (refused k)
small_refused k h = record { number = h; count = omega arith; second = omega arith }

small_done : (a b : ℕ) → a < 16777216 → b < 4294967296 → Small (done a b)
small_done a b h l = record { number = omega arith; count = h; second = l }

small_is : {a b : Answer} → a ≡ b → Small b → Small a
small_is e s = subst (λ (x : Answer). Small x) (sym e) s

pub backs_few : (net : Network) → Fit net → back_lines net ≤ 2048
unfolding back_lines
backs_few net fit =
    omega (arith, many_le 1 (take net.lines (finished net).kind), length-take net.lines (finished net).kind, fit.few_lines)

pub small_orient : (n : ℕ) (ends ks hs ks' hs' : List ℕ) (a : Answer) → Orient n ends ks hs a ks' hs' → Small a
small_orient n ends ks hs ks' hs' a o =
    checked_elim n ends (cramped n ends ks hs) (Untouched (pair ks hs) a (pair ks' hs')) (Oriented (network n ends) ks hs a ks' hs') o
    (λ k some few (u : Untouched (pair ks hs) a (pair ks' hs') k). small_is u.answers (small_refused k (omega arith)))
    (λ f c g. small_is g.answers (small_done (back_lines (network n ends)) 0 (omega (arith, backs_few (network n ends) f)) (omega arith)))

pub small_first : (n : ℕ) (ends choice rl rk choice' rl' rk' : List ℕ) (a : Answer) → FirstChoice n ends choice rl rk a choice' rl' rk' → Small a
small_first n ends choice rl rk choice' rl' rk' a o =
    checked_elim n ends (cramped_first ends choice rl rk) (Untouched (triple choice rl rk) a (triple choice' rl' rk'))
    (Check (Drawable (tree_in (network n ends))) (Chosen (network n ends) choice rl rk a choice' rl' rk') (Ringed (network n ends) choice rl rk a choice' rl' rk')) o
    (λ k some few (u : Untouched (triple choice rl rk) a (triple choice' rl' rk') k). small_is u.answers (small_refused k (omega arith)))
    (λ f c g.
    cases g
    (λ y. small_is y.1.answers (small_done (back_lines (network n ends)) 0 (omega (arith, backs_few (network n ends) f)) (omega arith)))
    (λ y. small_is y.1.answers (record { number = omega arith; count = omega arith; second = omega (arith, y.1.few, f.few_lines) })))

pub small_next : (n : ℕ) (ends choice choice' : List ℕ) (a : Answer) → NextChoice n ends choice a choice' → Small a
small_next n ends choice choice' a o =
    checked_elim n ends (cramped_next ends choice) (Untouched choice a choice')
    (Check (Proper (tree_in (network n ends)) (at choice))
    (Check (Outdone (tree_in (network n ends)) (at choice)) (Stepped (network n ends) choice a choice') (Untouched choice a choice' 9)) (Untouched choice a choice' 8)) o
    (λ k some few (u : Untouched choice a choice' k). small_is u.answers (small_refused k (omega arith)))
    (λ f c g.
    cases g
    (λ y.
    cases y.1
    (λ z. small_is z.1.answers (small_done (back_lines (network n ends)) 0 (omega (arith, backs_few (network n ends) f)) (omega arith)))
    (λ z. small_is z.1.answers (small_refused 9 (omega arith))))
    (λ y. small_is y.1.answers (small_refused 8 (omega arith))))

pub small_draw : (n : ℕ) (ends choice order mesh sizes order' mesh' sizes' : List ℕ) (a : Answer) → Draw n ends choice order mesh sizes a order' mesh' sizes' → Small a
small_draw n ends choice order mesh sizes order' mesh' sizes' a o =
    checked_elim n ends (cramped_draw (length ends / 2) (length choice) (length order) (length mesh) (length sizes)) (Untouched (triple order mesh sizes) a (triple order' mesh' sizes'))
    (Check (Proper (tree_in (network n ends)) (at choice))
    (Check (Balanced (network n ends) choice) (Drew (network n ends) choice order mesh sizes a order' mesh' sizes') (Untouched (triple order mesh sizes) a (triple order' mesh' sizes') 10))
    (Untouched (triple order mesh sizes) a (triple order' mesh' sizes') 8)) o
    (λ k some few (u : Untouched (triple order mesh sizes) a (triple order' mesh' sizes') k). small_is u.answers (small_refused k (omega arith)))
    (λ f c g.
    cases g
    (λ y.
    cases y.1
    (λ z. small_is z.1.answers (small_done (meshes_in (network n ends) choice) 0 (omega (arith, z.0, f.few_lines)) (omega arith)))
    (λ z. small_is z.1.answers (small_refused 10 (omega arith))))
    (λ y. small_is y.1.answers (small_refused 8 (omega arith))))

pub small_write : (n : ℕ) (ends text text' : List ℕ) (a : Answer) → Write n ends text a text' → Small a
small_write n ends text text' a o =
    checked_elim n ends (ltb (length text) (room (length ends / 2))) (Untouched text a text')
    ((a ≡ done (room (length ends / 2)) 0) × (text' ≡ filled (room (length ends / 2)) (text_of n ends) text)) o
    (λ k some few (u : Untouched text a text' k). small_is u.answers (small_refused k (omega arith)))
    (λ f c g. small_is g.0 (small_done (room (length ends / 2)) 0 (omega (arith, f.few_lines)) (omega arith)))

pub small_read : (text ends ends' : List ℕ) (a : Answer) → Read text ends a ends' → Small a
small_read text ends ends' a (inl (t, u)) = small_is u.answers (small_refused 1 (omega arith))
small_read text ends ends' a (inr (one, inl (t, u))) = small_is u.answers (small_refused 2 (omega arith))
small_read text ends ends' a (inr (one, inr (two, inl (t, u)))) = small_is u.answers (small_refused 3 (omega arith))
small_read text ends ends' a (inr (one, inr (two, inr (three, inl (t, u))))) = small_is u.answers (small_refused 4 (omega arith))
small_read text ends ends' a (inr (one, inr (two, inr (three, inr (four, inl (t, u)))))) = small_is u.answers (small_refused 5 (omega arith))
small_read text ends ends' a (inr (one, inr (two, inr (three, inr (four, inr (five, inl (c, g))))))) =
    let s = sized (vertices_in text) (2 * lines_in text) (false_when _ two) in
    small_is g.0 (small_done (vertices_in text) (lines_in text) (omega (arith, s.1)) (omega (arith, s.2)))
small_read text ends ends' a (inr (one, inr (two, inr (three, inr (four, inr (five, inr (c, u))))))) = small_is u.answers (small_refused 6 (omega arith))

pub packed_by : (says : Answer → Type 0) (a : Answer) (r : ℕ) → says a → Small a → r ≡ packed a → Packed says r
packed_by says a r s p e = record { answer = a; allowed = s; parts = p; packs = e }
