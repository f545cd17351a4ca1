-- What the calls have to answer on the network of a trial: any result that their statements allow, where they are lent room and a choice as the row
-- names it. (docs/RULES.md, "Worked examples".)
use Rattle.std.specs.Prelude.{true, false, ◌≡◌, ℕ, ◌*◌, ◌/◌, eqb, ltb, length, take}
use mathlib.Core.List.{List, [], ◌∷◌, ◌++◌, foldr}
use Prim.Native.String.{String}
use Rattle.laws.specs.Lists.{keep, upto, filled, at}
use Rattle.network.specs.Network.{network}
use Rattle.network.specs.Numbers.{refused, done}
use Rattle.network.specs.Numbers.{Answer}
use Rattle.network.specs.Marks.{back}
use Rattle.search.specs.Machine.{tree_in}
use Rattle.search.specs.Orient.{back_lines, cramped, Orient}
use Rattle.text.specs.Text.{room, vertices_in, ends_in, has_form}
use Rattle.text.specs.Calls.{Read, Write}
use Rattle.choice.specs.Calls.{cramped_first, FirstChoice, cramped_next, NextChoice}
use Rattle.drawing.specs.Draw.{cramped_draw, Draw}
use Rattle.trials.specs.Trials.{Claim, back_lines_are, choices_are, next_is, none_after, not_aligned, must_agree, ring_is, mesh_count_is, sizes_are, meshes_are, clockwise_is, trips_are, Trial, trial, refused_by, granted, ends_of, directions, step_lines, step_kinds, Every, buffer}
use Rattle.trials.specs.Turning.{tripsb}

module _ (n : ℕ) (ends : List ℕ) where
  -- Given room, P is so of what orient answers, of what the buffer of kinds held, and of what it leaves there.
  abbrev pub OfOrient : (Answer → List ℕ → List ℕ → Type 0) → Type 0
  OfOrient P =
      (kinds heights kinds' heights' : List ℕ) (r : Answer) → cramped n ends kinds heights ≡ false → Orient n ends kinds heights r kinds' heights' → P r kinds kinds'

  -- .. of what first choice answers, what the three buffers held, and what it leaves in them.
  abbrev pub OfFirst : (Answer → List ℕ → List ℕ → List ℕ → List ℕ → List ℕ → List ℕ → Type 0) → Type 0
  OfFirst P =
      (choice lines kinds choice' lines' kinds' : List ℕ) (r : Answer) → cramped_first ends choice lines kinds ≡ false
      → FirstChoice n ends choice lines kinds r choice' lines' kinds' → P r choice lines kinds choice' lines' kinds'

  -- .. of what next choice makes of a choice.
  abbrev pub OfNext : List ℕ → (Answer → List ℕ → Type 0) → Type 0
  OfNext choice P = (choice' : List ℕ) (r : Answer) → cramped_next ends choice ≡ false → NextChoice n ends choice r choice' → P r choice'

  -- .. of what draw makes of a choice: its answer, what the three buffers held, and what it leaves in them.
  abbrev pub OfDraw : List ℕ → (Answer → List ℕ → List ℕ → List ℕ → List ℕ → List ℕ → List ℕ → Type 0) → Type 0
  OfDraw choice P =
      (order mesh sizes order' mesh' sizes' : List ℕ) (r : Answer) → cramped_draw (length ends / 2) (length choice) (length order) (length mesh) (length sizes) ≡ false
      → Draw n ends choice order mesh sizes r order' mesh' sizes' → P r order mesh sizes order' mesh' sizes'

  -- A text has the form and says this network.
  pub record Says (text : List ℕ) : Type 0 where
    pub form : has_form text ≡ true
    pub its_vertices : vertices_in text ≡ n
    pub its_ends : ends_in text ≡ ends

  -- .. of what read answers to such a text, and of what write answers.
  abbrev pub OfRead : (Answer → Type 0) → Type 0
  OfRead P = (text buffer buffer' : List ℕ) (r : Answer) → Says text → ltb (length buffer) (length ends) ≡ false → Read text buffer r buffer' → P r

  abbrev pub OfWrite : (Answer → Type 0) → Type 0
  OfWrite P = (text text' : List ℕ) (r : Answer) → ltb (length text) (room (length ends / 2)) ≡ false → Write n ends text r text' → P r

  abbrev pub lines : ℕ
  lines = length ends / 2

  -- The buffer that a word names, just as long as there are lines: room enough.
  abbrev pub bytes : String → List ℕ
  bytes = buffer (network n ends)

  -- First choice gives c; next choice, lent c, gives d; it refuses c by a number, and leaves it.
  abbrev pub FirstGives : String → Type 0
  FirstGives c =
      OfFirst
      (λ r choice ring kinds choice' ring' kinds'.
      (r ≡ done (back_lines (network n ends)) 0) × (choice' ≡ filled lines (bytes c) choice) × (ring' ≡ ring) × (kinds' ≡ kinds))

  abbrev pub NextGives : String → String → Type 0
  NextGives c d = (choice' : List ℕ) (r : Answer) → NextChoice n ends (bytes c) r choice' → (r ≡ done (back_lines (network n ends)) 0) × (choice' ≡ bytes d)

  abbrev pub NextRefuses : ℕ → String → Type 0
  NextRefuses k c = (choice' : List ℕ) (r : Answer) → NextChoice n ends (bytes c) r choice' → (r ≡ refused k) × (choice' ≡ bytes c)

  -- From c on next choice gives these, and then 9; first choice gives the first of these, and next choice the others.
  abbrev pub NextLists : String → List String → Type 0
  NextLists c [] = NextRefuses 9 c
  NextLists c (d ∷ l) = NextGives c d × NextLists d l

  abbrev pub CallsList : List String → Type 0
  CallsList [] = Unit {0}
  CallsList (c ∷ l) = FirstGives c × NextLists c l

  -- With 7, first choice writes these steps, and the choice stays.
  abbrev pub FirstShows : List (ℕ × ℕ) → Type 0
  FirstShows steps =
      OfFirst
      (λ r choice ring kinds choice' ring' kinds'.
      (r ≡ record { number = 7; count = 0; second = length steps })
      × (choice' ≡ choice)
      × (ring' ≡ filled (length steps) (step_lines steps) ring)
      × (kinds' ≡ filled (length steps) (step_kinds steps) kinds))

  -- P is so of the order and of the mesh of each direction, as draw writes them.
  abbrev pub DrawGives : String → (List ℕ → List ℕ → Type 0) → Type 0
  DrawGives c P = OfDraw (bytes c) (λ r order mesh sizes order' mesh' sizes'. P (take (2 * lines) order') (take (2 * lines) mesh'))

  -- What a claim comes to. (That two lines must agree is no call's answer.)
  abbrev pub Said : Claim → Type 0
  Said (back_lines_are l) = OfOrient (λ r kinds kinds'. (r ≡ done (length l) 0) × (keep (λ k. eqb (at kinds' k) back) (upto lines) ≡ l))
  Said (choices_are l) = CallsList l
  Said (next_is c d) = NextGives c d
  Said (none_after c) = NextRefuses 9 c
  Said (not_aligned c) = NextRefuses 8 c × OfDraw (bytes c) (λ r order mesh sizes order' mesh' sizes'. r ≡ refused 8)
  Said (must_agree b d) = Unit {0}
  Said (ring_is steps) = FirstShows steps
  Said (mesh_count_is c k) = OfDraw (bytes c) (λ r order mesh sizes order' mesh' sizes'. r ≡ done k 0)
  Said (sizes_are c l) = OfDraw (bytes c) (λ r order mesh sizes order' mesh' sizes'. sizes' ≡ filled (length l) l sizes)
  Said (meshes_are c l) = OfDraw (bytes c) (λ r order mesh sizes order' mesh' sizes'. directions r.count (take (2 * lines) mesh') ≡ l)
  Said (clockwise_is c l) = OfDraw (bytes c) (λ r order mesh sizes order' mesh' sizes'. order' ≡ filled (2 * lines) (foldr ◌++◌ [] l) order)
  Said (trips_are c outer l) = DrawGives c (λ order mesh. tripsb (tree_in (network n ends)) ends outer l order mesh ≡ true)

  -- Every call, given room, refuses the network by the number.
  pub record Refuses (k : ℕ) : Type 0 where
    pub orient : OfOrient (λ r kinds kinds'. r ≡ refused k)
    pub first : OfFirst (λ r choice lines kinds choice' lines' kinds'. r ≡ refused k)
    pub next : (choice : List ℕ) → OfNext choice (λ r choice'. r ≡ refused k)
    pub draw : (choice : List ℕ) → OfDraw choice (λ r order mesh sizes order' mesh' sizes'. r ≡ refused k)
    pub read : OfRead (λ r. r ≡ refused k)
    pub write : OfWrite (λ r. r ≡ refused k)

abbrev pub Answered : Trial → Type 0
Answered (trial n lines (refused_by k)) = Refuses n (ends_of lines) k
Answered (trial n lines (granted claims)) = Every (Said n (ends_of lines)) claims
