-- What first choice and next choice must say of a network that no check refuses, given room: each case both ways round.
use mathlib.Core.List.{List}
use mathlib.Core.Logic.{inl, inr}
use Prim.Native.Nat.{ℕ, ◌/◌, ◌≤◌}
use lib.ListN.{length}
use Rattle.laws.specs.Checks.{Check}
use Rattle.laws.specs.Lists.{at}
use Rattle.network.specs.Network.{network}
use Rattle.network.specs.Numbers.{Answer}
use Rattle.network.specs.Numbers.{Untouched, triple, Accepted}
use Rattle.search.specs.Machine.{tree_in}
use Rattle.choice.specs.Choice.{Drawable, Proper, Outdone}
use Rattle.choice.specs.Calls.{cramped_first, Chosen, Ringed, FirstChoice, cramped_next, Stepped, NextChoice}
use Rattle.runs.proofs.Granted.{grant, granted, room_first, room_next}

module _ (n : ℕ) (ends : List ℕ) (a : Accepted n ends) where
  -- First choice

  module _ (choice lines kinds : List ℕ) (bytes : length ends / 2 ≤ length choice) (ring : length ends / 2 ≤ length lines) (ring' : length ends / 2 ≤ length kinds)
      (r : Answer) (c l k : List ℕ) where
    abbrev First : Type 0
    First = Check (Drawable (tree_in (network n ends))) (Chosen (network n ends) choice lines kinds r c l k) (Ringed (network n ends) choice lines kinds r c l k)

    pub first_says : FirstChoice n ends choice lines kinds r c l k → First
    first_says = granted n ends a (cramped_first ends choice lines kinds) (room_first n ends choice lines kinds bytes ring ring') (Untouched (triple choice lines kinds) r (triple c l k)) First

    pub first_by : Drawable (tree_in (network n ends)) → Chosen (network n ends) choice lines kinds r c l k → FirstChoice n ends choice lines kinds r c l k
    first_by d x = grant n ends a (cramped_first ends choice lines kinds) (room_first n ends choice lines kinds bytes ring ring') (Untouched (triple choice lines kinds) r (triple c l k)) First (inl (d, x))

  -- Next choice

  module _ (choice : List ℕ) (bytes : length ends / 2 ≤ length choice) (r : Answer) (c : List ℕ) where
    abbrev Later : Type 0
    Later = Check (Outdone (tree_in (network n ends)) (at choice)) (Stepped (network n ends) choice r c) (Untouched choice r c 9)

    abbrev Next : Type 0
    Next = Check (Proper (tree_in (network n ends)) (at choice)) Later (Untouched choice r c 8)

    pub next_says : NextChoice n ends choice r c → Next
    next_says = granted n ends a (cramped_next ends choice) (room_next n ends choice bytes) (Untouched choice r c) Next

    module _ (p : Proper (tree_in (network n ends)) (at choice)) where
      pub next_outdone : Outdone (tree_in (network n ends)) (at choice) → NextChoice n ends choice r c → Stepped (network n ends) choice r c
      next_outdone d f = go (next_says f)
        where
          go : Next → Stepped (network n ends) choice r c
          go (inl (_, inl (_, x))) = x
          go (inl (_, inr (e, x))) = absurd (e d)
          go (inr (e, x)) = absurd (e p)

      pub next_last : (Outdone (tree_in (network n ends)) (at choice) → ⊥) → NextChoice n ends choice r c → Untouched choice r c 9
      next_last e f = go (next_says f)
        where
          go : Next → Untouched choice r c 9
          go (inl (_, inl (d, x))) = absurd (e d)
          go (inl (_, inr (_, x))) = x
          go (inr (e, x)) = absurd (e p)

      pub next_by : Outdone (tree_in (network n ends)) (at choice) → Stepped (network n ends) choice r c → NextChoice n ends choice r c
      next_by d x = grant n ends a (cramped_next ends choice) (room_next n ends choice bytes) (Untouched choice r c) Next (inl (p, inl (d, x)))

      pub next_nine_by : (Outdone (tree_in (network n ends)) (at choice) → ⊥) → Untouched choice r c 9 → NextChoice n ends choice r c
      next_nine_by e x = grant n ends a (cramped_next ends choice) (room_next n ends choice bytes) (Untouched choice r c) Next (inl (p, inr (e, x)))
