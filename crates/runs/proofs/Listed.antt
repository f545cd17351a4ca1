-- The listing theorem for the calls: every run, from first choice to 9, holds every proper choice exactly once, in rising order; and the calls, asked
-- again and again, make a run. By Stepwise what a run holds is, step for step, the list of choices, of which Enumerating says that it is complete and
-- has an end, and Doubling how long it is.
use mathlib.Core.Bool.{Bool, cond}
use mathlib.Core.List.{List}
use mathlib.Core.Logic.{inl, inr}
use mathlib.Core.Path.{◌≡◌, refl, sym, ap, ◌∙◌}
use Prim.Native.Nat.{ℕ, zero, suc, ◌/◌, ◌^◌, ◌≤◌, ◌<◌}
use native.Mathlib.Omega.{arith}
use lib.ListN.{length}
use Rattle.laws.specs.Checks.{Check}
use Rattle.laws.specs.Counting.{count}
use Rattle.laws.specs.Lists.{at, Agree}
use Rattle.laws.specs.Dictionary.{Last, Listed, Listing}
use Rattle.laws.proofs.Cases.{cases, bool, lt_or}
use Rattle.laws.proofs.Dictionary.{before_same}
use Rattle.network.specs.Network.{network}
use Rattle.network.specs.Numbers.{Answer}
use Rattle.network.specs.Numbers.{Accepted}
use Rattle.tree.specs.Tree.{Tree}
use Rattle.tree.specs.Returns.{backb}
use Rattle.tree.specs.Searched.{Searched}
use Rattle.search.specs.Machine.{tree_in}
use Rattle.search.proofs.Grows.{tree_searched}
use Rattle.side.specs.Sides.{none}
use Rattle.fork.proofs.Rule.{back_of, back_yes}
use Rattle.fork.proofs.Aligning.{settled, settled_aligned}
use Rattle.fork.proofs.Choices.{aligned_agree}
use Rattle.groups.proofs.Ranks.{value}
use Rattle.choice.specs.Choice.{Drawable, Proper}
use Rattle.choice.specs.Calls.{Chosen, Ringed, FirstChoice, NextChoice}
use Rattle.runs.specs.Listing.{Steps, Run, Asked, Complete, Lists}
use Rattle.runs.proofs.Granted.{fit, properb, proper_of, proper_yes, proper_agree}
use Rattle.runs.proofs.Outcomes.{first_says, next_outdone, next_last}
use Rattle.runs.proofs.Stepwise.{with_number, first_zero, steps_listed, buffer, may_begin, may_go_on, may_end}
use Rattle.runs.proofs.Enumerating.{same_place, listed_rising, listed_once, listed_good, listed_bound, along, along_first, along_next, along_last, along_listed, listing_by_test}
use Rattle.runs.proofs.Doubling.{free, place_reads, power_of_two, turn_proper, parting_side}

-- Where a choice is legal there is a proper one: the aligned one, with no side at tree lines.

-- proper choices have bytes below 3
proper_small : (S : Tree) (c : ℕ → ℕ) → Proper S c → (b : ℕ) → b < S.lines → c b ≤ 2
proper_small S c p b h =
    cases (bool (backb S b)) (λ t. omega (arith, p.aligned.legal.bits b (back_of S b h t))) (λ f. omega (arith, p.no_side b h f))

unfoldable dressed : Tree → (ℕ → ℕ) → ℕ → ℕ
dressed S c b = cond (backb S b) (c b) none

some_proper : (S : Tree) → Searched S → Drawable S → (c : ℕ → ℕ) × Proper S c
unfolding dressed
some_proper S X d =
    let c = settled S d.0 in (
      dressed S c,
      record {
        no_side = λ k h f. rw f refl;
        aligned = aligned_agree S c (dressed S c) (λ b l. rw (back_yes S b l) refl) (settled_aligned S X d.0 d.1);
      },
    )

-- The theorem

module _ (n : ℕ) (ends : List ℕ) (a : Accepted n ends) (drawable : Drawable (tree_in (network n ends))) where
  abbrev m : ℕ
  m = length ends / 2

  abbrev Good : (ℕ → ℕ) → Type 0
  Good = Proper (tree_in (network n ends))

  list : Listing m Good
  list =
      let some = some_proper (tree_in (network n ends)) (tree_searched (network n ends) (fit n ends a) a.connected) drawable in
      listing_by_test m Good (properb (tree_in (network n ends))) (proper_of (tree_in (network n ends))) (proper_yes (tree_in (network n ends))) (proper_small (tree_in (network n ends)))
      (proper_agree (tree_in (network n ends))) some.0 some.1

  last : ℕ
  last = list.ends.0

  highest : ℕ → ℕ
  highest = list.ends.1

  highest_listed : Listed m Good last highest
  unfolding last highest
  highest_listed = list.ends.2

  highest_last : Last m Good highest
  unfolding highest
  highest_last = list.ends.3

  module _ {k : ℕ} {held : ℕ → List ℕ} (s : Steps n ends k held) where
    listed : (j : ℕ) → j ≤ k → Listed m Good j (at (held j))
    listed j h = (steps_listed n ends s j h).0

    proper : (j : ℕ) → j ≤ k → Good (at (held j))
    proper j h = listed_good m Good (listed j h)

    steps_bound : k ≤ last
    steps_bound = listed_bound m Good highest_listed highest_last (listed k (omega arith))

    module _ {d : List ℕ} {r : Answer} (f : NextChoice n ends (held k) r d) where
      says_zero : k < last → r.number ≡ 0
      says_zero h =
          let o = listed_rising m Good (listed k (omega arith)) highest_listed h in
          with_number (next_outdone n ends a (held k) (steps_listed n ends s k (omega arith)).1 r d (proper k (omega arith)) (highest, listed_good m Good highest_listed, o) f).answers

      says_nine : k ≡ last → r.number ≡ 9
      says_nine e =
          let h : Listed m Good k highest = rw e highest_listed in
          let same = same_place m Good (listed k (omega arith)) h in
          with_number (next_last n ends a (held k) (steps_listed n ends s k (omega arith)).1 r d (proper k (omega arith))
          (λ o. highest_last o.0 o.1 (before_same m (at (held k)) highest o.0 o.0 same (λ b h. refl) o.2)) f).answers

  module _ {k : ℕ} {held : ℕ → List ℕ} (run : Run n ends k held) where
    run_length : k ≡ last
    run_length =
        cases (lt_or k last)
        (λ h. absurd (let q = run.nine.1 in omega (arith, q.2, says_zero run.steps q.1 h)))
        (λ h. omega (arith, steps_bound run.steps))

    complete : Complete n ends k held
    complete =
        record {
          proper = proper run.steps;
          every = λ c p.
              let q = list.every c p in
              let h : q.0 ≤ k = omega (arith, run_length, listed_bound m Good highest_listed highest_last q.1) in
              (q.0, h, same_place m Good q.1 (listed run.steps q.0 h));
          once = λ i j h o e. listed_once m Good e (listed run.steps i h) (listed run.steps j o);
          rising = λ i j h o. listed_rising m Good (listed run.steps i (omega arith)) (listed run.steps j o) h;
        }

    counter : (digit : ℕ → Bool) × (suc k ≡ 2 ^ count digit m) × ((j : ℕ) → j ≤ k → value digit (at (held j)) m ≡ j)
    unfolding last
    counter =
        let S = tree_in (network n ends) in (
          free m Good (turn_proper S) (parting_side S) list,
          ap suc run_length ∙ power_of_two m Good (turn_proper S) (parting_side S) list,
          λ j h. place_reads m Good (turn_proper S) (parting_side S) list (listed run.steps j h),
        )

  some_run : (held : ℕ → List ℕ) × Run n ends last held
  some_run =
      let at_step = along m Good highest_listed in (
        λ j. buffer n ends a (at_step j),
        record {
          steps =
              record {
                begins = may_begin n ends a (at_step 0) (along_first m Good highest_listed);
                goes_on = λ j h. may_go_on n ends a (at_step j) (at_step (suc j)) (good j (omega arith)) (along_next m Good highest_listed j h);
              };
          nine = (
            buffer n ends a (at_step last),
            may_end n ends a (at_step last) (good last (omega arith)) (rw (along_last m Good highest_listed) highest_last),
          );
        },
      )
    where
      good : (j : ℕ) → j ≤ last → Good (along m Good highest_listed j)
      good j h = listed_good m Good (along_listed m Good highest_listed j h)

  module _ {choice lines kinds c l k : List ℕ} {r : Answer} (bytes : m ≤ length choice) (ring : m ≤ length lines) (ring' : m ≤ length kinds)
      (f : FirstChoice n ends choice lines kinds r c l k) where
    first_begins : r.number ≡ 0
    first_begins = go (first_says n ends a choice lines kinds bytes ring ring' r c l k f)
      where
        go : Check (Drawable (tree_in (network n ends))) (Chosen (network n ends) choice lines kinds r c l k) (Ringed (network n ends) choice lines kinds r c l k) → r.number ≡ 0
        go (inl (_, x)) = with_number x.answers
        go (inr (e, x)) = absurd (e drawable)

  pub calls_list : (k : ℕ) × Lists n ends k
  calls_list = (
    last,
    record {
      begins = λ h i j f. first_begins h i j f;
      goes_on = λ s f h. says_zero s f h;
      stops = λ s f. says_nine s f refl;
      no_further = λ s. steps_bound s;
      same = λ s t i h o. same_place m Good (listed s i h) (listed t i o);
      some_run = some_run;
      complete = λ run. (run_length run, complete run);
    },
  )

-- In plain words

module _ (n : ℕ) (ends : List ℕ) where
  begun_lists : {k : ℕ} {held : ℕ → List ℕ} → Steps n ends k held → (last : ℕ) × Lists n ends last
  begun_lists s = let q = first_zero n ends s.begins.6 s.begins.7 in calls_list n ends q.0 q.1

  -- Every run, from first choice to 9, holds every proper choice, each once, in rising order. (That it began says that the network is accepted and
  -- has a legal choice.)
  pub every_run_is_complete : (last : ℕ) (held : ℕ → List ℕ) → Run n ends last held → Complete n ends last held
  every_run_is_complete last held run = ((begun_lists run.steps).1.complete run).1

  -- Two runs have the same length, and hold the same choice at the same step.
  pub runs_agree : (j k : ℕ) (held held' : ℕ → List ℕ) → Run n ends j held → Run n ends k held'
      → (j ≡ k) × ((i : ℕ) → i ≤ j → Agree (length ends / 2) (at (held i)) (at (held' i)))
  runs_agree j k held held' run run' =
      let lists = (begun_lists run.steps).1 in
      let alike : j ≡ k = (lists.complete run).0 ∙ sym (lists.complete run').0 in
      (alike, λ i h. lists.same run.steps run'.steps i h (omega arith))

  -- The number of choices is a power of two, and the step is that of a binary counter: some lines are its digits, the lowest line the heaviest, and
  -- their sides are the number of the step.
  pub binary_counter : (last : ℕ) (held : ℕ → List ℕ) → Run n ends last held
      → (digit : ℕ → Bool) × (suc last ≡ 2 ^ count digit (length ends / 2)) × ((j : ℕ) → j ≤ last → value digit (at (held j)) (length ends / 2) ≡ j)
  binary_counter last held run = let q = first_zero n ends run.steps.begins.6 run.steps.begins.7 in counter n ends q.0 q.1 run

  -- The calls, asked again and again, make a run: they come to 9.
  pub asked_until_nine : Accepted n ends → Drawable (tree_in (network n ends)) → (held : ℕ → List ℕ) → Asked n ends held → (last : ℕ) × Run n ends last held
  asked_until_nine a drawable held asked =
      let q = calls_list n ends a drawable in
      let lists = q.1 in
      let s = steps q.0 lists q.0 (omega arith) in
      let f = asked.again q.0 in
      (q.0, record { steps = s; nine = (held (suc q.0), (f.0, f.1, lists.stops s f.1)) })
    where
      steps : (last : ℕ) → Lists n ends last → (j : ℕ) → j ≤ last → Steps n ends j held
      steps last lists zero h =
          let f = asked.begins in
          let z = lists.begins asked.room.0 asked.room.1 asked.room.2 f.3 in
          record { begins = (asked.choice, asked.lines, asked.kinds, f.1, f.2, f.0, f.3, z); goes_on = λ i o. absurd (omega arith) }
      steps last lists (suc j) h =
          let s = steps last lists j (omega arith) in
          let f = asked.again j in
          record {
            begins = s.begins;
            goes_on = λ i o.
                cases (lt_or i j) (s.goes_on i)
                (λ g. let e : i ≡ j = omega arith in rw e (f.0, f.1, lists.goes_on s f.1 h));
          }
