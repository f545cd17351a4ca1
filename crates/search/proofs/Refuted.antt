-- Wrong answers that the statement of orient does not allow, on named networks.
use mathlib.Core.Bool.{true, false}
use mathlib.Core.List.{List, [], ◌∷◌}
use mathlib.Core.Logic.{inl, inr}
use mathlib.Core.Path.{◌≡◌, refl, ap, ◌∙◌}
use Prim.Native.Nat.{ℕ}
use native.Mathlib.Omega.{arith}
use lib.ListN.{length, get_or}
use Rattle.laws.specs.Tests.{both, either, all, any}
use Rattle.laws.proofs.Cases.{true_false}
use Rattle.laws.proofs.Tests.{either_neither}
use Rattle.network.specs.Network.{network, touches, other, joins}
use Rattle.network.specs.Numbers.{refused, oversize, odd, astray, looped, doubled, mispaired}
use Rattle.network.specs.Numbers.{Answer}
use Rattle.network.proofs.Sifting.{fit_when}
use Rattle.search.specs.Machine.{free, lowest_free, take_line, leave, go, step, run, start, finished}
use Rattle.search.specs.Orient.{Orient, Oriented, cramped}
use Rattle.search.specs.Inside.{everyone}
use Rattle.search.proofs.Reached.{connected_of}

module _ (n : ℕ) (ends ks hs : List ℕ) (two : oversize n (length ends) ≡ false) {r : Answer} {ks' hs' : List ℕ} where
  -- what the statement says where room is lacking, where a pair stands twice, and where all is well
  short_is_3 : either (odd (length ends)) (cramped n ends ks hs) ≡ true → Orient n ends ks hs r ks' hs' → r ≡ refused 3
  short_is_3 t (inl (a, u)) = true_false a two
  short_is_3 t (inr (a, inl (b, u))) = u.answers
  short_is_3 t (inr (a, inr (b, x))) = absurd (b t)

  module _ (three : either (odd (length ends)) (cramped n ends ks hs) ≡ false) (four : astray n ends ≡ false) where
    pair_is_5 : mispaired ends ≡ true → Orient n ends ks hs r ks' hs' → r ≡ refused 5
    pair_is_5 t (inl (a, u)) = true_false a two
    pair_is_5 t (inr (a, inl (b, u))) = true_false b three
    pair_is_5 t (inr (a, inr (b, inl (c, u)))) = true_false c four
    pair_is_5 t (inr (a, inr (b, inr (c, inl (d, u))))) = u.answers
    pair_is_5 t (inr (a, inr (b, inr (c, inr (d, x))))) = absurd (d t)

    oriented : mispaired ends ≡ false → everyone n (finished (network n ends)).found ≡ true → Orient n ends ks hs r ks' hs' → Oriented (network n ends) ks hs r ks' hs'
    oriented five six (inl (a, u)) = true_false a two
    oriented five six (inr (a, inl (b, u))) = true_false b three
    oriented five six (inr (a, inr (b, inl (c, u)))) = true_false c four
    oriented five six (inr (a, inr (b, inr (c, inl (d, u))))) = true_false d five
    oriented five six (inr (a, inr (b, inr (c, inr (d, inl (e, o)))))) = o
    oriented five six (inr (a, inr (b, inr (c, inr (d, inr (e, u)))))) =
        absurd (e (connected_of (network n ends) (fit_when n ends two (either_neither three).0 four five) six))

-- A triangle, 0-1, 1-2, 2-0, with one place past the used part in each buffer

abbrev triangle : List ℕ
triangle = 0 ∷ 1 ∷ 1 ∷ 2 ∷ 2 ∷ 0 ∷ []

abbrev marked : List ℕ
marked = 7 ∷ 7 ∷ 7 ∷ 9 ∷ []

triangle_oriented : {r : Answer} {ks' hs' : List ℕ} → Orient 3 triangle marked marked r ks' hs' → Oriented (network 3 triangle) marked marked r ks' hs'
unfolding oversize odd cramped astray mispaired looped doubled joins everyone both either all any finished start run step go take_line leave lowest_free free touches other
triangle_oriented o = oriented 3 triangle marked marked refl refl refl refl refl o

-- what it must be
pub triangle_kinds : {r : Answer} {ks' hs' : List ℕ} → Orient 3 triangle marked marked r ks' hs' → ks' ≡ 0 ∷ 0 ∷ 1 ∷ 9 ∷ []
unfolding finished start run step go take_line leave lowest_free free touches other both either
triangle_kinds o = (triangle_oriented o).each_kind ∙ refl

pub triangle_heights : {r : Answer} {ks' hs' : List ℕ} → Orient 3 triangle marked marked r ks' hs' → hs' ≡ 0 ∷ 1 ∷ 2 ∷ 9 ∷ []
unfolding finished start run step go take_line leave lowest_free free touches other both either
triangle_heights o = (triangle_oriented o).each_height ∙ refl

differ : {a b : List ℕ} (i : ℕ) → (get_or a i 0 ≡ get_or b i 0 → ⊥) → a ≡ b → ⊥
differ i d e = d (ap (λ (l : List ℕ). get_or l i 0) e)

-- the highest-numbered line first
pub not_highest_first : {r : Answer} {hs' : List ℕ} → Orient 3 triangle marked marked r (1 ∷ 0 ∷ 0 ∷ 9 ∷ []) hs' → ⊥
not_highest_first o = differ 0 (λ e. omega arith) (triangle_kinds o)

-- a height one off
pub not_one_off : {r : Answer} {ks' : List ℕ} → Orient 3 triangle marked marked r ks' (1 ∷ 2 ∷ 3 ∷ 9 ∷ []) → ⊥
not_one_off o = differ 0 (λ e. omega arith) (triangle_heights o)

-- a number past the used part overwritten
pub not_past : {r : Answer} {ks' : List ℕ} → Orient 3 triangle marked marked r ks' (0 ∷ 1 ∷ 2 ∷ 0 ∷ []) → ⊥
not_past o = differ 3 (λ e. omega arith) (triangle_heights o)

-- a buffer one short
pub one_short : {r : Answer} {ks' hs' : List ℕ} → Orient 3 triangle marked (7 ∷ 7 ∷ []) r ks' hs' → r ≡ refused 3
unfolding oversize odd cramped either
one_short o = short_is_3 3 triangle marked (7 ∷ 7 ∷ []) refl refl o

-- A pair twice, in a network that is not connected either: 5 comes before 6
pub five_before_six : {r : Answer} {ks' hs' : List ℕ} → Orient 3 (0 ∷ 1 ∷ 1 ∷ 0 ∷ []) marked marked r ks' hs' → r ≡ refused 5
unfolding oversize odd cramped astray mispaired looped doubled joins both either any
five_before_six o = pair_is_5 3 (0 ∷ 1 ∷ 1 ∷ 0 ∷ []) marked marked refl refl refl refl o
