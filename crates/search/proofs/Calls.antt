-- What `explore` and `orient` return, one lemma for each place where they do; and that two results that orient's statement allows are equal.
use mathlib.Core.Bool.{Bool, true, false}
use mathlib.Core.List.{List}
use mathlib.Core.Path.{◌≡◌, refl, sym, ap, ◌∙◌}
use Prim.Native.Nat.{ℕ, ◌+◌, ◌-◌, ◌/◌, ◌≤◌, ◌<◌}
use native.Mathlib.Omega.{arith}
use lib.ListN.{length}
use borrow.Author.Tests.{lt-ltb, le-ltb}
use Rattle.laws.specs.Lists.{filled}
use Rattle.laws.specs.Tests.{either}
use Rattle.laws.proofs.Tests.{either_first, either_second, either_no}
use Rattle.network.specs.Network.{network, Connected}
use Rattle.network.specs.Numbers.{refused, done, oversize, odd, Sifted, Untouched, pair}
use Rattle.network.specs.Inside.{Fit}
use Rattle.network.specs.Numbers.{Answer}
use Rattle.network.proofs.Sifting.{sift_fit, sift_refused, sift_connected, refuse_2, refuse_3, refuse_rest, checked_map, checked_elim, checked_once, untouched, two_untouched_once}
use Rattle.search.specs.Orient.{Orient, Oriented, cramped, back_lines}
use Rattle.search.specs.Inside.{Search, search_of, Explored, Faulted, searched, Ended}
use Rattle.search.proofs.Deep.{finished_both}
use Rattle.search.proofs.Grows.{backs_counted}

-- explore

module _ (n : ℕ) (ends : List ℕ) (k : ℕ) (s : Sifted n ends k) where
  pub explore_sifted : (k ≡ 0 → ⊥) → (ks hs ps : List ℕ) → Explored n ends (search_of k ks hs ps)
  explore_sifted d ks hs ps = sift_refused n ends k s d (λ j. k ≡ j) (search_of k ks hs ps ≡ searched (network n ends)) refl

  module _ (z : k ≡ 0) where
    pub explore_fit : Fit (network n ends)
    explore_fit = sift_fit n ends k s z

    pub explore_settled : (r : Search) → Ended (network n ends) r → Explored n ends r
    explore_settled r e = sift_connected n ends k s z (λ j. r.number ≡ j) (r ≡ searched (network n ends)) e

pub explore_faulted : (n : ℕ) (ends : List ℕ) (r : ℕ) (ks hs ps : List ℕ) → Explored n ends (search_of r ks hs ps) → Faulted n ends r
explore_faulted n ends r ks hs ps x =
    checked_map n ends false x (λ k. r ≡ k) (r ≡ 0) (λ k some u. u)
    (λ (g : search_of r ks hs ps ≡ searched (network n ends)). ap (λ (q : Search). q.number) g)

-- a network with the number 0 is well formed
pub faultless : (n : ℕ) (ends : List ℕ) (r : ℕ) → Faulted n ends r → r ≡ 0 → Fit (network n ends) × Connected (network n ends)
faultless n ends r x z =
    checked_elim n ends false (λ k. r ≡ k) (r ≡ 0) x (λ k some few e. absurd (omega arith)) (λ f c e. (f, c))

-- a search with the number 0 is that of a connected network
pub explored : (n : ℕ) (ends : List ℕ) (r : Search) → Explored n ends r → r.number ≡ 0 → Fit (network n ends) × Connected (network n ends) × (r ≡ searched (network n ends))
explored n ends r x z =
    checked_elim n ends false (λ k. r.number ≡ k) (r ≡ searched (network n ends)) x
    (λ k some few (e : r.number ≡ k). absurd (omega arith))
    (λ f c e. (f, c, e))

-- what it refuses is 2 to 6
pub faulted_few : (n : ℕ) (ends : List ℕ) (r : ℕ) → Faulted n ends r → r ≤ 6
faulted_few n ends r x = checked_elim n ends false (λ k. r ≡ k) (r ≡ 0) x (λ k some few e. omega arith) (λ f c e. omega arith)

-- orient

module _ (n : ℕ) (ends : List ℕ) (number : ℕ) (ks hs ps : List ℕ) (x : Explored n ends (search_of number ks hs ps)) (z : number ≡ 0) where
  abbrev q : Search
  q = search_of number ks hs ps

  found : Fit (network n ends) × Connected (network n ends) × (q ≡ searched (network n ends))
  found = explored n ends q x z

  counted : back_lines (network n ends) + n ≡ length ends / 2 + 1
  counted = backs_counted (network n ends) found.0 found.1

  -- the sum that is handed out does not fall below zero
  pub orient_fits : n ≤ length ends / 2 + 1
  orient_fits = omega (arith, counted)

  -- the tables are long enough
  pub orient_kinds : length ks ≡ 2048
  orient_kinds = ap (λ (y : Search). length y.kinds) found.2 ∙ (finished_both (network n ends) found.0).0.kinds_long

  pub orient_heights : length hs ≡ 512
  orient_heights = ap (λ (y : Search). length y.heights) found.2 ∙ (finished_both (network n ends) found.0).0.heights_long

  pub orient_lines : length ends / 2 ≤ length ks
  orient_lines = omega (arith, orient_kinds, found.0.few_lines)

  pub orient_vertices : n ≤ length hs
  orient_vertices = omega (arith, orient_heights, found.0.few_vertices)

module _ (n : ℕ) (ends ks hs : List ℕ) (two : Bool) (is_two : two ≡ oversize n (length ends)) where
  abbrev short : Bool
  short = cramped n ends ks hs

  pub orient_2 : two ≡ true → (r : Answer) → r ≡ refused 2 → Orient n ends ks hs r ks hs
  orient_2 t r e = refuse_2 n ends short (Untouched (pair ks hs) r (pair ks hs)) (Oriented (network n ends) ks hs r ks hs) (sym is_two ∙ t) (untouched e)

  module _ (not_two : two ≡ false) where
    in_limits : oversize n (length ends) ≡ false
    in_limits = sym is_two ∙ not_two

    module _ (three : Bool) (is_three : three ≡ odd (length ends)) where
      orient_3 : either (odd (length ends)) short ≡ true → (r : Answer) → r ≡ refused 3 → Orient n ends ks hs r ks hs
      orient_3 t r e = refuse_3 n ends short (Untouched (pair ks hs) r (pair ks hs)) (Oriented (network n ends) ks hs r ks hs) in_limits t (untouched e)

      pub orient_odd : three ≡ true → (r : Answer) → r ≡ refused 3 → Orient n ends ks hs r ks hs
      orient_odd t = orient_3 (either_first _ _ (sym is_three ∙ t))

      pub orient_few_kinds : length ks < length ends / 2 → (r : Answer) → r ≡ refused 3 → Orient n ends ks hs r ks hs
      unfolding cramped
      orient_few_kinds l = orient_3 (either_second _ _ (either_first _ _ (lt-ltb _ _ l)))

      pub orient_few_heights : length hs < n → (r : Answer) → r ≡ refused 3 → Orient n ends ks hs r ks hs
      unfolding cramped
      orient_few_heights l = orient_3 (either_second _ _ (either_second _ _ (lt-ltb _ _ l)))

      module _ (not_three : three ≡ false) (kinds_room : length ends / 2 ≤ length ks) (heights_room : n ≤ length hs) (number : ℕ) (kt ht pt : List ℕ) (x : Explored n ends (search_of number kt ht pt)) where
        abbrev given : Search
        given = search_of number kt ht pt

        enough : either (odd (length ends)) short ≡ false
        unfolding cramped
        enough = either_no (sym is_three ∙ not_three) (either_no (le-ltb _ _ kinds_room) (le-ltb _ _ heights_room))

        pub orient_refused : (number ≡ 0 → ⊥) → (r : Answer) → r ≡ refused number → Orient n ends ks hs r ks hs
        orient_refused d r e =
            refuse_rest n ends short (Untouched (pair ks hs) r (pair ks hs)) (Oriented (network n ends) ks hs r ks hs) enough x
            (λ k some (u : number ≡ k). untouched (e ∙ ap refused u))
            (λ (g : given ≡ searched (network n ends)). absurd (d (ap (λ (y : Search). y.number) g)))

        pub orient_done : number ≡ 0 → (r : Answer) (ks' hs' : List ℕ) → r ≡ done (length ends / 2 + 1 - n) 0
            → ks' ≡ filled (length ends / 2) kt ks → hs' ≡ filled n ht hs → Orient n ends ks hs r ks' hs'
        orient_done z r ks' hs' e a b =
            let backs : length ends / 2 + 1 - n ≡ back_lines (network n ends) = omega (arith, counted n ends number kt ht pt x z) in
            refuse_rest n ends short (Untouched (pair ks hs) r (pair ks' hs')) (Oriented (network n ends) ks hs r ks' hs') enough x
            (λ k some (u : number ≡ k). absurd (omega arith))
            (λ (g : given ≡ searched (network n ends)). record {
              answers = e ∙ ap (λ (y : ℕ). done y 0) backs;
              each_kind = a ∙ ap (λ (y : Search). filled (length ends / 2) y.kinds ks) g;
              each_height = b ∙ ap (λ (y : Search). filled n y.heights hs) g;
            })

-- Two results that the statement allows are equal.
pub orient_once : (n : ℕ) (ends ks hs : List ℕ) (r r' : Answer) (ks' ks'' hs' hs'' : List ℕ) → Orient n ends ks hs r ks' hs' → Orient n ends ks hs r' ks'' hs''
    → (r ≡ r') × (ks' ≡ ks'') × (hs' ≡ hs'')
orient_once n ends ks hs r r' ks' ks'' hs' hs'' =
    checked_once n ends (cramped n ends ks hs)
    two_untouched_once
    (λ (a : Oriented (network n ends) ks hs r ks' hs') (b : Oriented (network n ends) ks hs r' ks'' hs'').
    (a.answers ∙ sym b.answers, a.each_kind ∙ sym b.each_kind, a.each_height ∙ sym b.each_height))
