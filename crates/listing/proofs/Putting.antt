-- Pieces put one after the other are one piece put: what each function of pieces.rt leaves, by the law of two pieces (`join`).
use mathlib.Core.Bool.{false}
use mathlib.Core.List.{List, [], ◌∷◌, ◌++◌}
use mathlib.Core.Path.{◌≡◌, refl, sym, ◌∙◌, ap, subst}
use Prim.Native.Nat.{ℕ, zero, suc, ◌+◌, ◌*◌, ◌≤◌, ◌<◌, min}
use native.Mathlib.Omega.{arith}
use borrow.Author.Tests.{ne_eqb}
use lib.Dec.{eqb}
use lib.ListN.{get_or, set, length, take, length-append}
use lib.Seq.{sets, length-sets, length-take-le, get_or-take}
use Rattle.laws.specs.Lists.{from, upto, at}
use Rattle.laws.specs.Sorting.{gather}
use Rattle.laws.proofs.Cases.{cases, bool}
use Rattle.laws.proofs.Places.{gather_next}
use Rattle.digits.specs.Digits.{digits}
use Rattle.digits.proofs.Back.{length_digits}
use Rattle.text.proofs.Filling.{sets_append}
use Rattle.side.specs.Sides.{none}
use Rattle.listing.specs.Page.{answer_line, counts_line, side_digits, choice_line, size_line, step_line, ring_page}
use Rattle.listing.specs.Inside.{Put, RoomyPage, side_piece, has_side, Ringable}
use Rattle.listing.specs.declared.pieces.Page.{Page}

pub join : (p q l : List ℕ) (i j : ℕ) → j ≡ i + length p → sets (sets l i p) j q ≡ sets l i (p ++ q)
join p q l i j e = rw e (sym (sets_append l i p q))

-- Room behind a page, said of its parts.
pub roomy : {more : ℕ} {p : Page} → (length p.bytes ≡ 262222) × (p.count + more ≤ 262222) → RoomyPage more p
roomy h = record { long = h.0; room = h.1 }

-- What was put behind a page without bytes was put at its beginning.
pub from_start : {old p : List ℕ} {place r : ℕ} {new : List ℕ} → place ≡ 0 → Put old place p r new → Put old 0 p r new
from_start {old = old} {p = p} {r = r} {new = new} e w = subst (λ k. Put old k p r new) e w

module _ (old : List ℕ) (place : ℕ) where
  -- a piece and then another
  pub put_more : (p : List ℕ) (r : ℕ) (mid : List ℕ) → Put old place p r mid → (q : List ℕ) (s : ℕ) (new : List ℕ) → s ≡ r + length q → new ≡ sets mid r q → Put old place (p ++ q) s new
  put_more p r mid w q s new e f =
      record {
        after = omega (arith, w.after, length-append p q);
        put = f ∙ rw w.put (join p q old place r w.after);
      }

  pub answered : (x : ℕ) (mid : List ℕ) → mid ≡ sets old place (digits 2 x) → Put old place (answer_line x) (place + 3) (set mid (place + 2) 10)
  answered x mid e =
      put_more (digits 2 x) (place + 2) mid (record { after = omega (arith, length_digits 2 x); put = e }) (10 ∷ []) (place + 3) (set mid (place + 2) 10) (omega arith) refl

pub answer_long : (x : ℕ) → length (answer_line x) ≡ 3
answer_long x = omega (arith, length-append (digits 2 x) (10 ∷ []), length_digits 2 x)

-- The first line

pub counts_long : (meshes back : ℕ) → length (counts_line meshes back) ≡ 11
counts_long meshes back =
    omega (
      arith,
      length-append (digits 2 0) (digits 4 meshes ++ (digits 4 back ++ (10 ∷ []))),
      length-append (digits 4 meshes) (digits 4 back ++ (10 ∷ [])),
      length-append (digits 4 back) (10 ∷ []),
      length_digits 2 0,
      length_digits 4 meshes,
      length_digits 4 back,
    )

pub counted : (old : List ℕ) (place meshes back : ℕ) (a b c : List ℕ) → a ≡ sets old place (digits 2 0) → b ≡ sets a (place + 2) (digits 4 meshes)
    → c ≡ sets b (place + 6) (digits 4 back) → Put old place (counts_line meshes back) (place + 11) (set c (place + 10) 10)
counted old place meshes back a b c p q r =
    let one = length_digits 2 0 in
    let two = length_digits 4 meshes in
    let three = length_digits 4 back in
    let line : List ℕ = 10 ∷ [] in
    let end = set c (place + 10) 10 in
    let last : end ≡ sets b (place + 6) (digits 4 back ++ line) = rw r (join (digits 4 back) line b (place + 6) (place + 10) (omega arith)) in
    let middle : end ≡ sets a (place + 2) (digits 4 meshes ++ (digits 4 back ++ line)) =
    last ∙ rw q (join (digits 4 meshes) (digits 4 back ++ line) a (place + 2) (place + 6) (omega arith)) in
    record {
      after = omega (arith, counts_long meshes back);
      put = middle ∙ rw p (join (digits 2 0) (digits 4 meshes ++ (digits 4 back ++ line)) old place (place + 2) (omega arith));
    }

-- A choice

piece_short : (side : ℕ) → length (side_piece side) ≤ 2
piece_short side = cases (bool (eqb side none)) (λ t. rw t (omega arith)) (λ f. rw f (omega (arith, length_digits 2 side)))

module _ (old : List ℕ) (place side : ℕ) where
  pub side_put : (side ≡ none → ⊥) → (new : List ℕ) → new ≡ sets old place (digits 2 side) → Put old place (side_piece side) (place + 2) new
  side_put d new e =
      let no : eqb side none ≡ false = ne_eqb side none d in
      rw no (record { after = omega (arith, length_digits 2 side); put = e })

module _ (choice : List ℕ) where
  -- the sides of its first k lines
  abbrev sides : ℕ → List ℕ
  sides k = gather (side_digits (has_side choice) (at choice)) (upto k)

  sides_more : (k : ℕ) → sides (suc k) ≡ sides k ++ side_digits (has_side choice) (at choice) k
  sides_more k = gather_next (side_digits (has_side choice) (at choice)) k

  sides_short : (k : ℕ) → length (sides k) ≤ 2 * k
  unfolding gather from
  sides_short zero = omega arith
  sides_short (suc k) = omega (arith, ap length (sides_more k), length-append (sides k) (side_piece (at choice k)), piece_short (at choice k), sides_short k)

  pub line_short : length (choice_line (has_side choice) (length choice) (at choice)) ≤ 2 * length choice + 1
  line_short = omega (arith, length-append (sides (length choice)) (10 ∷ []), sides_short (length choice))

  -- what the loop over the lines has put
  pub record Putting (old : List ℕ) (place : ℕ) (out : List ℕ) (to k : ℕ) : Type 0 where
    pub within : k ≤ length choice
    pub few : length (sides k) ≤ 2 * k
    pub so_far : Put old place (sides k) to out

  module _ (old : List ℕ) (place : ℕ) where
    pub putting_none : Putting old place old place 0
    unfolding gather from
    putting_none = record { within = omega arith; few = omega arith; so_far = record { after = omega arith; put = refl } }

    module _ (out : List ℕ) (to k : ℕ) (w : Putting old place out to k) where
      long : length out ≡ length old
      long = rw w.so_far.put (length-sets old place (sides k))

      pub putting_fits : length old ≡ 262222 → place + (2 * length choice + 1) ≤ 262222 → (length out ≡ 262222) × (to + 1 ≤ 262222) × (k < length choice → to + 2 ≤ 262222)
      putting_fits l h =
          let few = w.few in
          let end = w.so_far.after in
          (omega (arith, l, long), omega (arith, h, few, end, w.within), λ b. omega (arith, h, few, end, b))

      pub putting_more : k < length choice → (r : ℕ) (new : List ℕ) → Put out to (side_piece (at choice k)) r new → Putting old place new r (k + 1)
      putting_more h r new q =
          let one : k + 1 ≡ suc k = omega arith in
          rw one (record { within = omega arith; few = sides_short (suc k); so_far = rw (sides_more k) (put_more old place (sides k) to out w.so_far (side_piece (at choice k)) r new q.after q.put) })

      pub choice_put : length choice ≤ k → Put old place (choice_line (has_side choice) (length choice) (at choice)) (to + 1) (set out to 10)
      choice_put h =
          let e : k ≡ length choice = omega (arith, w.within) in
          rw (sym e) (put_more old place (sides k) to out w.so_far (10 ∷ []) (to + 1) (set out to 10) (omega arith) refl)

-- A ring

pub sized : (old : List ℕ) (place size number : ℕ) (a b : List ℕ) → number ≡ 7 → a ≡ sets old place (digits 2 number) → b ≡ sets a (place + 2) (digits 4 size)
    → Put old place (size_line size) (place + 7) (set b (place + 6) 10)
sized old place size number a b e p' q =
    let p : a ≡ sets old place (digits 2 7) = subst (λ k. a ≡ sets old place (digits 2 k)) e p' in
    let two = length_digits 2 7 in
    let four = length_digits 4 size in
    let line : List ℕ = 10 ∷ [] in
    let last : set b (place + 6) 10 ≡ sets a (place + 2) (digits 4 size ++ line) = rw q (join (digits 4 size) line a (place + 2) (place + 6) (omega arith)) in
    record {
      after = omega (arith, length-append (digits 2 7) (digits 4 size ++ line), length-append (digits 4 size) line);
      put = last ∙ rw p (join (digits 2 7) (digits 4 size ++ line) old place (place + 2) (omega arith));
    }

length_size : (size : ℕ) → length (size_line size) ≡ 7
length_size size = omega (arith, length-append (digits 2 7) (digits 4 size ++ (10 ∷ [])), length-append (digits 4 size) (10 ∷ []), length_digits 2 7, length_digits 4 size)

length_step : (line kind : ℕ) → length (step_line line kind) ≡ 7
length_step line kind = omega (arith, length-append (digits 4 line) (digits 2 kind ++ (10 ∷ [])), length-append (digits 2 kind) (10 ∷ []), length_digits 4 line, length_digits 2 kind)

pub stepped : (old : List ℕ) (place line kind : ℕ) (a b : List ℕ) → a ≡ sets old place (digits 4 line) → b ≡ sets a (place + 4) (digits 2 kind)
    → Put old place (step_line line kind) (place + 7) (set b (place + 6) 10)
stepped old place line kind a b p q =
    let four = length_digits 4 line in
    let two = length_digits 2 kind in
    let feed : List ℕ = 10 ∷ [] in
    let last : set b (place + 6) 10 ≡ sets a (place + 4) (digits 2 kind ++ feed) = rw q (join (digits 2 kind) feed a (place + 4) (place + 6) (omega arith)) in
    record { after = omega (arith, length_step line kind); put = last ∙ rw p (join (digits 4 line) (digits 2 kind ++ feed) old place (place + 4) (omega arith)) }

module _ (size : ℕ) (line kind : List ℕ) where
  abbrev step : ℕ → List ℕ
  step i = step_line (at line i) (at kind i)

  abbrev steps : ℕ → List ℕ
  steps i = gather step (upto i)

  -- what the loop over the steps has put
  pub record Ringing (old : List ℕ) (start : ℕ) (out : List ℕ) (to i : ℕ) : Type 0 where
    pub within : i ≤ size
    pub place : to ≡ start + 7 * i
    pub so_far : Put old start (steps i) to out

  -- what both lists have at the place that the loop has come to
  abbrev pub AtPlace : ℕ → ℕ → ℕ → Type 0
  AtPlace i x y =
      (i < length (take size line)) × (i < length (take size kind)) × ((d : ℕ) → x ≡ get_or (take size line) i d) × ((d : ℕ) → y ≡ get_or (take size kind) i d)

  module _ (first : Page) (r : Ringable size line kind first) where
    lines_long : length (take size line) ≡ size
    lines_long = length-take-le size line r.lines

    kinds_long : length (take size kind) ≡ size
    kinds_long = length-take-le size kind r.kinds

    module _ (old : List ℕ) (start : ℕ) (f : Put first.bytes first.count (size_line size) start old) where
      pub ringing_none : Ringing old start old start 0
      unfolding gather from
      ringing_none = record { within = omega arith; place = omega arith; so_far = record { after = omega arith; put = refl } }

      module _ (out : List ℕ) (to i : ℕ) (w : Ringing old start out to i) where
        pub ring_long : length out ≡ length first.bytes
        ring_long = ap length w.so_far.put ∙ length-sets old start (steps i) ∙ ap length f.put ∙ length-sets first.bytes first.count (size_line size)

        -- the step's line and kind are those of the next place
        module _ (x y : ℕ) (t : AtPlace i x y) where
          here : i < size
          here = omega (arith, t.0, lines_long)

          pub step_fits : (length out ≡ 262222) × (to + 7 ≤ 262222)
          step_fits = (ring_long ∙ r.roomy.long, omega (arith, here, r.few, r.roomy.room, w.place, f.after, length_size size))

          pub ringing_step : (s : ℕ) (new : List ℕ) → Put out to (step_line x y) s new → (j : ℕ) → j ≡ i + 1 → Ringing old start new s j
          ringing_step s new q j e =
              let one : j ≡ suc i = omega arith in
              let x_is : at line i ≡ x = sym (get_or-take size line i 0 here) ∙ sym (t.2 0) in
              let y_is : at kind i ≡ y = sym (get_or-take size kind i 0 here) ∙ sym (t.3 0) in
              let this : step i ≡ step_line x y = rw (x_is, y_is) in
              let put = put_more old start (steps i) to out w.so_far (step_line x y) s new q.after q.put in
              rw one (record { within = omega (arith, here); place = omega (arith, q.after, length_step x y, w.place); so_far = rw (gather_next step i, this) put })

        pub ring_put : i ≡ min (length (take size line)) (length (take size kind)) → Put first.bytes first.count (ring_page size (at line) (at kind)) to out
        ring_put h =
            let e : i ≡ size = omega (arith, h, lines_long, kinds_long) in
            let put = put_more first.bytes first.count (size_line size) start old f (steps i) to out w.so_far.after w.so_far.put in
            rw e at put

module _ (line kind : ℕ → ℕ) where
  abbrev each : ℕ → List ℕ
  each i = step_line (line i) (kind i)

  steps_long : (i : ℕ) → length (gather each (upto i)) ≡ 7 * i
  unfolding gather from
  steps_long zero = refl
  steps_long (suc i) = omega (arith, ap length (gather_next each i), length-append (gather each (upto i)) (each i), length_step (line i) (kind i), steps_long i)

  pub ring_page_long : (size : ℕ) → length (ring_page size line kind) ≡ 7 * (size + 1)
  ring_page_long size = omega (arith, length-append (size_line size) (gather each (upto size)), length_size size, steps_long size)
