-- What next choice returns, one lemma for each place where it does.
use mathlib.Core.Bool.{Bool, true, false}
use mathlib.Core.List.{List}
use mathlib.Core.Logic.{inl, inr}
use mathlib.Core.Path.{◌≡◌, refl, sym, ap, ◌∙◌}
use Prim.Native.Nat.{ℕ, ◌+◌, ◌-◌, ◌/◌, ◌≤◌, ◌<◌}
use native.Mathlib.Omega.{arith}
use lib.ListN.{length}
use borrow.Author.Tests.{lt-ltb, le-ltb}
use Rattle.std.specs.Prelude.{Result, is_err, ⊤}
use Rattle.laws.specs.Tests.{either}
use Rattle.laws.specs.Checks.{Check}
use Rattle.laws.specs.Lists.{at}
use Rattle.laws.proofs.Tests.{either_first, either_second, either_no}
use Rattle.network.specs.Network.{Network, network}
use Rattle.network.specs.Numbers.{Answer, refused, refusal_number, refusing, done, oversize, odd, Untouched}
use Rattle.network.specs.declared.Refusal.{Refusal}
use Rattle.network.proofs.Refusing.{refusal_some, refusing_plain}
use Rattle.network.proofs.Sifting.{refuse_3, refuse_rest, untouched}
use Rattle.tree.specs.Searched.{Searched}
use Rattle.search.specs.Inside.{Faulted}
use Rattle.search.specs.Machine.{tree_in}
use Rattle.search.proofs.Calls.{faulted_few}
use Rattle.groups.specs.Groups.{columns, fitsb}
use Rattle.groups.specs.Calls.{StepGives}
use Rattle.choice.specs.Choice.{Proper, Outdone}
use Rattle.choice.specs.Calls.{cramped_next, Stepped, NextChoice}
use Rattle.groups.specs.declared.Groups.{Groups}
use Rattle.choice.specs.Inside.{Gathered}
use Rattle.links.specs.declared.Tear.{Tear}
use Rattle.choice.proofs.Faultless.{faultless_searched, faultless_few, faultless_done}
use Rattle.choice.proofs.Answering.{past_kept, torn_of, kept_of, sorted_fits, sorted_fails, sorted_next, sorted_last, torn_improper}

module _ (n : ℕ) (ends choice : List ℕ) where
  abbrev m : ℕ
  m = length ends / 2

  abbrev net : Network
  net = network n ends

  abbrev short : Bool
  short = cramped_next ends choice

  abbrev Granted : Answer → List ℕ → Type 0
  Granted a c =
      Check (Proper (tree_in net) (at choice)) (Check (Outdone (tree_in net) (at choice)) (Stepped net choice a c) (Untouched choice a c 9)) (Untouched choice a c 8)

  module _ (in_limits : false ≡ oversize n (length ends)) where
    next_3 : either (odd (length ends)) short ≡ true → NextChoice n ends choice (refused 3) choice
    next_3 t = refuse_3 n ends short (Untouched choice (refused 3) choice) (Granted (refused 3) choice) (sym in_limits) t (untouched refl)

    pub next_odd : true ≡ odd (length ends) → NextChoice n ends choice (refused 3) choice
    next_odd t = next_3 (either_first _ _ (sym t))

    pub next_few_bytes : length choice < m → NextChoice n ends choice (refused 3) choice
    unfolding cramped_next
    next_few_bytes h = next_3 (either_second _ _ (lt-ltb _ _ h))

  -- nothing is odd or short
  module _ (even : false ≡ odd (length ends)) (bytes : m ≤ length choice) where
    enough : either (odd (length ends)) short ≡ false
    unfolding cramped_next
    enough = either_no (sym even) (le-ltb _ _ bytes)

    pub next_refused : (e : Refusal) → Faulted n ends (refusal_number e) → NextChoice n ends choice (refusing e) choice
    next_refused e h =
        refuse_rest n ends short (Untouched choice (refusing e) choice) (Granted (refusing e) choice) enough h
        (λ k some (u : refusal_number e ≡ k). untouched (refusing_plain e (faulted_few n ends (refusal_number e) h) ∙ ap refused u))
        (λ u. absurd (refusal_some e u))

    module _ {g : Groups} {outcome : Result ⊤ Tear} (h : Gathered n ends 0 g outcome) where
      X : Searched (tree_in net)
      X = faultless_searched h.fault

      few : m ≤ 2048
      few = faultless_few h.fault

      grant : (a : Answer) (c : List ℕ) → Granted a c → NextChoice n ends choice a c
      grant a c y = refuse_rest n ends short (Untouched choice a c) (Granted a c) enough h.fault (λ j some (u : 0 ≡ j). absurd (omega arith)) (λ _. y)

      pub next_torn : true ≡ is_err outcome → NextChoice n ends choice (refused 8) choice
      next_torn e =
          grant (refused 8) choice
          (inr (torn_improper (tree_in net) X few g (h.sorted refl) (torn_of e).1 (at choice), untouched refl))

      module _ (e : false ≡ is_err outcome) where
        module _ {fit : Bool} (is_fit : fit ≡ fitsb m (columns g).leader (columns g).parity (at choice)) where
          pub next_unfit : fit ≡ false → NextChoice n ends choice (refused 8) choice
          next_unfit f =
              grant (refused 8) choice
              (inr (sorted_fails (tree_in net) X few g (h.sorted refl) (kept_of e) choice (sym is_fit ∙ f), untouched refl))

          module _ (yes' : fit ≡ true) where
            proper : Proper (tree_in net) (at choice)
            proper = sorted_fits (tree_in net) X few g (h.sorted refl) (kept_of e) choice (sym is_fit ∙ yes')

            pub next_last : {choice' : List ℕ} → StepGives m g choice choice' false → NextChoice n ends choice (refused 9) choice'
            next_last {choice'} s =
                grant (refused 9) choice'
                (inl (
                  proper,
                  inr (
                    sorted_last (tree_in net) X few g (h.sorted refl) (kept_of e) choice choice' proper s,
                    record { answers = refl; same = s.same },
                  ),
                ))

            pub next_done : {choice' : List ℕ} → StepGives m g choice choice' true → length choice' ≡ length choice → NextChoice n ends choice (done (m + 1 - n) 0) choice'
            next_done {choice'} s long =
                let later = sorted_next (tree_in net) X few g (h.sorted refl) (kept_of e) choice choice' proper s in
                grant (done (m + 1 - n) 0) choice'
                (inl (
                  proper,
                  inl (
                    (at choice', later.good, later.after),
                    record {
                      answers = faultless_done h.fault;
                      next = later;
                      rest = past_kept long s.turned.rest;
                    },
                  ),
                ))
