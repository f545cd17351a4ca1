-- What first choice returns, one lemma for each place where it does; and what the groups of a tree say of its choices.
use mathlib.Core.Bool.{Bool, true, false}
use mathlib.Core.List.{List}
use mathlib.Core.Logic.{inl, inr}
use mathlib.Core.Path.{◌≡◌, refl, sym, ap, ◌∙◌, subst}
use Prim.Native.Nat.{ℕ, ◌+◌, ◌-◌, ◌/◌, ◌≤◌, ◌<◌}
use native.Mathlib.Omega.{arith}
use lib.ListN.{length}
use borrow.Author.Tests.{lt-ltb, le-ltb}
use Rattle.std.specs.Prelude.{Result, Ok, Err, is_err, ⊤}
use Rattle.laws.specs.Tests.{either}
use Rattle.laws.specs.Checks.{Check}
use Rattle.laws.specs.Lists.{at, Past, Kept}
use Rattle.laws.specs.Dictionary.{First, Next}
use Rattle.laws.proofs.Cases.{true_false}
use Rattle.laws.proofs.Tests.{either_first, either_second, either_no}
use Rattle.laws.proofs.Dictionary.{first_same, next_same}
use Rattle.network.specs.Network.{Network, network}
use Rattle.network.specs.Numbers.{Answer, refused, refusal_number, refusing, done, oversize, odd, Untouched, triple}
use Rattle.network.specs.declared.Refusal.{Refusal}
use Rattle.network.proofs.Refusing.{refusal_some, refusing_plain}
use Rattle.network.proofs.Sifting.{refuse_3, refuse_rest, untouched}
use Rattle.tree.specs.Tree.{Tree}
use Rattle.tree.specs.Returns.{backb}
use Rattle.tree.specs.Words.{Return}
use Rattle.tree.specs.Searched.{Searched}
use Rattle.tree.proofs.Returns.{one_way}
use Rattle.search.specs.Inside.{Faulted}
use Rattle.search.specs.Machine.{tree_in}
use Rattle.search.proofs.Calls.{faulted_few}
use Rattle.fork.specs.Ends.{top}
use Rattle.fork.specs.Fork.{Constraint}
use Rattle.fork.specs.Link.{Link, to_top, tops, to_bottom, turned}
use Rattle.fork.proofs.Ends.{top_is, high_some}
use Rattle.side.specs.Sides.{code}
use Rattle.groups.specs.Constraints.{Satisfies}
use Rattle.groups.specs.declared.Groups.{Groups}
use Rattle.groups.specs.Groups.{Tables, columns, fitsb}
use Rattle.groups.specs.Calls.{Reading, Copied, Advanced, Stuck}
use Rattle.groups.proofs.Answers.{copied_first, advanced_next, stuck_last, reading}
use Rattle.groups.proofs.Choosing.{fits_obeys, obeys_fits}
use Rattle.rings.specs.Ring.{Ring}
use Rattle.rings.specs.Rings.{Showing, Shown}
use Rattle.rings.proofs.Showing.{torn, ring_shown}
use Rattle.links.specs.Inside.{Closed, Taken, Together, Unkept}
use Rattle.links.specs.declared.Tear.{Tear}
use Rattle.links.proofs.Tying.{link_sided}
use Rattle.descents.specs.Inside.{Sorted, all_kept, one_torn}
use Rattle.choice.specs.Choice.{Drawable, Proper, Outdone}
use Rattle.choice.specs.Calls.{cramped_first, Chosen, Ringed, FirstChoice}
use Rattle.choice.specs.Inside.{Gathered}
use Rattle.choice.proofs.Proper.{proper_obeys, obeys_proper, none_drawable, none_proper, ring_constraints}
use Rattle.choice.proofs.Faultless.{faultless_searched, faultless_few, faultless_done}

pub past_kept : {n : ℕ} {old new : List ℕ} → length new ≡ length old → Past n old new → Kept n old new
past_kept l p = record { long = l; past = p }

-- The groups of a tree, and what they say of its choices

link_small : {S : Tree} {b d k : ℕ} → Link S b d k → k ≤ 1
link_small (to_top f b l h d) = omega arith
link_small (tops f g k o) = omega arith
link_small (to_bottom f b l h d) = omega arith
link_small (turned l) = link_small l

link_apart : (S : Tree) → Searched S → {b d k : ℕ} → Link S b d k → b ≡ d → ⊥
link_apart S X (to_top f b l h d) e = d e
link_apart S X (to_bottom f b l h d) e = d e
link_apart S X (turned l) e = link_apart S X l (sym e)
link_apart S X (tops f g k o) e =
    let p = high_some S f (omega (arith, o.over)) in
    let q = high_some S g (omega (arith, o.under)) in
    k.apart (one_way S X f g (top S f) k.first k.second k.one_vertex (top_is S f p.0 p.1).return (subst (λ (x : ℕ). Return S g x) (sym e) (top_is S g q.0 q.1).return))

module _ (S : Tree) (X : Searched S) (few : S.lines ≤ 2048) (g : Groups) {outcome : Result ⊤ Tear} (s : Sorted S (columns g) outcome) where
  abbrev t : Tables
  t = columns g

  module _ (e : outcome ≡ Ok tt) where
    kept : Together S t × ((b d k : ℕ) → Link S b d k → Closed t b d k)
    kept = go (rw e at s)
      where
        go : Sorted S t (Ok tt) → Together S t × ((b d k : ℕ) → Link S b d k → Closed t b d k)
        go (all_kept q a) = (q, a)

    to_proper : (c : ℕ → ℕ) → Satisfies S.lines (backb S) (Taken S t) c → Proper S c
    to_proper = obeys_proper S X t kept.0 kept.1

    from_proper : (c : ℕ → ℕ) → Proper S c → Satisfies S.lines (backb S) (Taken S t) c
    from_proper = proper_obeys S X t kept.0 kept.1

    pub sorted_first : (choice choice' : List ℕ) → Copied S.lines g choice choice' → First S.lines (Proper S) (at choice')
    sorted_first choice choice' c =
        first_same S.lines (Satisfies S.lines (backb S) (Taken S t)) (Proper S) to_proper from_proper (at choice')
        (copied_first S.lines (backb S) (Taken S t) g kept.0 choice choice' c)

    pub sorted_reading : (choice : List ℕ) → S.lines ≤ length choice → Reading S.lines g choice
    sorted_reading choice h = reading S.lines (backb S) (Taken S t) g kept.0 choice few h

    pub sorted_fits : (choice : List ℕ) → fitsb S.lines (columns g).leader (columns g).parity (at choice) ≡ true → Proper S (at choice)
    sorted_fits choice y = to_proper (at choice) (fits_obeys S.lines (backb S) (Taken S t) t kept.0 (at choice) y)

    pub sorted_fails : (choice : List ℕ) → fitsb S.lines (columns g).leader (columns g).parity (at choice) ≡ false → Proper S (at choice) → ⊥
    sorted_fails choice y p = true_false (obeys_fits S.lines (backb S) (Taken S t) t kept.0 (at choice) (from_proper (at choice) p)) y

    module _ (choice choice' : List ℕ) (p : Proper S (at choice)) where
      pub sorted_next : Advanced S.lines g choice choice' → Next S.lines (Proper S) (at choice) (at choice')
      sorted_next a =
          next_same S.lines (Satisfies S.lines (backb S) (Taken S t)) (Proper S) to_proper from_proper (at choice) (at choice')
          (advanced_next S.lines (backb S) (Taken S t) g kept.0 choice choice' (from_proper (at choice) p) a)

      pub sorted_last : Stuck S.lines g choice choice' → Outdone S (at choice) → ⊥
      sorted_last k d =
          stuck_last S.lines (backb S) (Taken S t) g kept.0 choice choice' (from_proper (at choice) p) k
          d.0 (from_proper d.0 d.1) d.2

  module _ {r : Tear} (e : outcome ≡ Err r) where
    torn_by : Together S t × Unkept S t r.one r.two (code r.wants)
    torn_by = go (rw e at s)
      where
        go : Sorted S t (Err r) → Together S t × Unkept S t r.one r.two (code r.wants)
        go (one_torn q u) = (q, u)

    pub torn_none : Drawable S → ⊥
    torn_none = none_drawable S X t torn_by.0 r.one r.two (code r.wants) torn_by.1

    pub torn_improper : (c : ℕ → ℕ) → Proper S c → ⊥
    torn_improper = none_proper S X t torn_by.0 r.one r.two (code r.wants) torn_by.1

    pub torn_showing : (ring kinds : List ℕ) → S.lines ≤ length ring → S.lines ≤ length kinds → Showing S.lines r.one r.two (code r.wants) g ring kinds
    torn_showing ring kinds h h' =
        let u = torn_by.1 in
        let ends = link_sided S u.link in
        record {
          conflict = torn S.lines (backb S) (Taken S t) t torn_by.0 r.one r.two (code r.wants) ends.0 ends.1 few (link_small u.link) (link_apart S X u.link) u.together u.odd;
          ring_room = h;
          kind_room = h';
        }

    pub torn_ring : (n : ℕ) (ring kinds ring' kinds' : List ℕ) → Shown S.lines t r.one r.two (code r.wants) n ring kinds ring' kinds'
        → Ring (Constraint S) n (at ring') (at kinds')
    torn_ring n ring kinds ring' kinds' s =
        let u = torn_by.1 in
        let ends = link_sided S u.link in
        ring_constraints S X t torn_by.0 r.one r.two (code r.wants) u n (at ring') (at kinds')
        (ring_shown S.lines (backb S) (Taken S t) t torn_by.0 r.one r.two (code r.wants) n ring kinds ring' kinds' s)

-- the two things that an outcome can be
pub torn_of : {outcome : Result ⊤ Tear} → true ≡ is_err outcome → (r : Tear) × (outcome ≡ Err r)
torn_of {outcome = Ok tt} e = absurd (cc)
torn_of {outcome = Err r} e = (r, refl)

pub kept_of : {outcome : Result ⊤ Tear} → false ≡ is_err outcome → outcome ≡ Ok tt
kept_of {outcome = Ok tt} e = refl
kept_of {outcome = Err r} e = absurd (cc)

-- What the functions below are asked

module _ {n : ℕ} {ends : List ℕ} {g : Groups} {outcome : Result ⊤ Tear} (h : Gathered n ends 0 g outcome) where
  pub gathered_reading : outcome ≡ Ok tt → (choice : List ℕ) → length ends / 2 ≤ length choice → Reading (length ends / 2) g choice
  gathered_reading e choice bytes =
      sorted_reading (tree_in (network n ends)) (faultless_searched h.fault) (faultless_few h.fault) g (h.sorted refl) e choice bytes

  pub gathered_showing : {r : Tear} → outcome ≡ Err r → (rl rk : List ℕ) → length ends / 2 ≤ length rl → length ends / 2 ≤ length rk
      → Showing (length ends / 2) r.one r.two (code r.wants) g rl rk
  gathered_showing e rl rk lines kinds =
      torn_showing (tree_in (network n ends)) (faultless_searched h.fault) (faultless_few h.fault) g (h.sorted refl) e rl rk lines kinds

-- First choice

module _ (n : ℕ) (ends choice rl rk : List ℕ) where
  abbrev m : ℕ
  m = length ends / 2

  abbrev net : Network
  net = network n ends

  abbrev short : Bool
  short = cramped_first ends choice rl rk

  abbrev Nothing : Answer → List ℕ → List ℕ → List ℕ → ℕ → Type 0
  Nothing a c l k = Untouched (triple choice rl rk) a (triple c l k)

  abbrev Granted : Answer → List ℕ → List ℕ → List ℕ → Type 0
  Granted a c l k = Check (Drawable (tree_in net)) (Chosen net choice rl rk a c l k) (Ringed net choice rl rk a c l k)

  abbrev Left : ℕ → Type 0
  Left k = FirstChoice n ends choice rl rk (refused k) choice rl rk

  module _ (in_limits : false ≡ oversize n (length ends)) where
    first_3 : either (odd (length ends)) short ≡ true → Left 3
    first_3 t = refuse_3 n ends short (Nothing (refused 3) choice rl rk) (Granted (refused 3) choice rl rk) (sym in_limits) t (untouched refl)

    pub first_odd : true ≡ odd (length ends) → Left 3
    first_odd t = first_3 (either_first _ _ (sym t))

    pub first_few_bytes : length choice < m → Left 3
    unfolding cramped_first
    first_few_bytes h = first_3 (either_second _ _ (either_first _ _ (lt-ltb _ _ h)))

    pub first_few_lines : length rl < m → Left 3
    unfolding cramped_first
    first_few_lines h = first_3 (either_second _ _ (either_second _ _ (either_first _ _ (lt-ltb _ _ h))))

    pub first_few_kinds : length rk < m → Left 3
    unfolding cramped_first
    first_few_kinds h = first_3 (either_second _ _ (either_second _ _ (either_second _ _ (lt-ltb _ _ h))))

  -- nothing is odd or short
  module _ (even : false ≡ odd (length ends)) (bytes : m ≤ length choice) (lines : m ≤ length rl) (kinds : m ≤ length rk) where
    enough : either (odd (length ends)) short ≡ false
    unfolding cramped_first
    enough = either_no (sym even) (either_no (le-ltb _ _ bytes) (either_no (le-ltb _ _ lines) (le-ltb _ _ kinds)))

    pub first_refused : (e : Refusal) → Faulted n ends (refusal_number e) → FirstChoice n ends choice rl rk (refusing e) choice rl rk
    first_refused e h =
        refuse_rest n ends short (Nothing (refusing e) choice rl rk) (Granted (refusing e) choice rl rk) enough h
        (λ k some (u : refusal_number e ≡ k). untouched (refusing_plain e (faulted_few n ends (refusal_number e) h) ∙ ap refused u))
        (λ u. absurd (refusal_some e u))

    module _ {g : Groups} {outcome : Result ⊤ Tear} (h : Gathered n ends 0 g outcome) where
      X : Searched (tree_in net)
      X = faultless_searched h.fault

      few : m ≤ 2048
      few = faultless_few h.fault

      grant : (a : Answer) (c l k : List ℕ) → Granted a c l k → FirstChoice n ends choice rl rk a c l k
      grant a c l k y = refuse_rest n ends short (Nothing a c l k) (Granted a c l k) enough h.fault (λ j some (u : 0 ≡ j). absurd (omega arith)) (λ _. y)

      pub first_chosen : outcome ≡ Ok tt → {choice' : List ℕ} → Copied m g choice choice' → length choice' ≡ length choice
          → FirstChoice n ends choice rl rk (done (m + 1 - n) 0) choice' rl rk
      first_chosen e {choice'} c long =
          let f = sorted_first (tree_in net) X few g (h.sorted refl) e choice choice' c in
          grant (done (m + 1 - n) 0) choice' rl rk
          (inl (
            (at choice', f.good.aligned.legal),
            record {
              answers = faultless_done h.fault;
              first = f;
              rest = past_kept long c.rest;
              same_lines = refl;
              same_kinds = refl;
            },
          ))

      pub first_ringed : {r : Tear} → outcome ≡ Err r → {size : ℕ} {rl' rk' : List ℕ} → Shown m (columns g) r.one r.two (code r.wants) size rl rk rl' rk'
          → length rl' ≡ length rl → length rk' ≡ length rk → FirstChoice n ends choice rl rk (record { number = 7; count = 0; second = size }) choice rl' rk'
      first_ringed e {size} {rl'} {rk'} s l l' =
          grant (record { number = 7; count = 0; second = size }) choice rl' rk'
          (inr (
            torn_none (tree_in net) X few g (h.sorted refl) e,
            record {
              size = size;
              answers = refl;
              few = s.few;
              ring = torn_ring (tree_in net) X few g (h.sorted refl) e size rl rk rl' rk' s;
              lines_rest = past_kept l s.ring_rest;
              kinds_rest = past_kept l' s.kinds_rest;
              same_choice = refl;
            },
          ))
