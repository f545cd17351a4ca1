-- The page of a network that read accepts: what first choice and draw say of it leaves one kind of page each.
use mathlib.Core.Bool.{false}
use mathlib.Core.List.{List, ◌++◌}
use mathlib.Core.Logic.{inl, inr}
use mathlib.Core.Path.{◌≡◌, sym, ◌∙◌, ap, subst}
use Prim.Native.Nat.{ℕ, zero, ◌+◌, ◌*◌, ◌/◌, ◌≤◌, ◌<◌}
use native.Mathlib.Omega.{arith}
use borrow.Author.Tests.{le-ltb}
use lib.ListN.{length, take, drop, replicate, length-append, length-replicate}
use lib.Seq.{sets-eq, length-sets, take_at}
use Rattle.laws.specs.Checks.{Check}
use Rattle.laws.specs.Lists.{at}
use Rattle.laws.proofs.Cases.{cases}
use Rattle.laws.proofs.Tests.{either_no}
use Rattle.network.specs.Network.{Network, network}
use Rattle.network.specs.Numbers.{Answer}
use Rattle.network.specs.Numbers.{refusal_number, refusing, Untouched, triple}
use Rattle.network.specs.declared.Refusal.{Refusal}
use Rattle.network.specs.declared.Refusal.TheVariants as Variants
use Rattle.network.proofs.Refusing.{refusal_some}
use Rattle.network.proofs.Checks.{sized}
use Rattle.search.specs.Machine.{tree_in}
use Rattle.search.specs.Orient.{back_lines}
use Rattle.choice.specs.Choice.{Drawable, Proper}
use Rattle.choice.specs.Calls.{Chosen, Ringed, FirstChoice}
use Rattle.runs.proofs.Granted.{fit, granted}
use Rattle.runs.proofs.Outcomes.{first_says}
use Rattle.drawing.specs.Draw.{Draw, cramped_draw, Balanced, Drew, meshes_in}
use Rattle.cornetariel.proofs.Packing.{backs_few}
use Rattle.listing.specs.Page.{answer_line, counts_line, ring_page, Sheet, Shows}
use Rattle.listing.specs.Inside.{Put, Ringable, Showable, Listable, Sheetable, Paged, PutChoices}
use Rattle.listing.specs.declared.pieces.Page.{Page}
use Rattle.listing.proofs.Refusing.{refusing_number, ringed_is}
use Rattle.listing.proofs.Putting.{put_more, answer_long, counts_long, ring_page_long}

pub blank : (n : ℕ) → length (replicate n zero) ≡ n
blank n = length-replicate n zero

-- What was put at the beginning is what the buffer begins with.
pub page_is : (old p : List ℕ) (r : ℕ) (new : List ℕ) → Put old 0 p r new → length p ≤ length old → take r new ≡ p
page_is old p r new w h =
    ap (take r) (w.put ∙ sets-eq p old 0 (omega arith)) ∙ take_at p (drop (0 + length p) old) r (omega (arith, w.after))

pub paged : (P : List ℕ → Type 0) (old p : List ℕ) (q : Page) → Put old 0 p q.count q.bytes → length old ≡ 262222 → length p ≤ 262222 → P p → Paged P q
paged P old p q w l h x =
    record {
      long = ap length w.put ∙ length-sets old 0 p ∙ l;
      within = omega (arith, h, l, w.after, ap length w.put, length-sets old 0 p);
      allowed = subst P (sym (page_is old p q.count q.bytes w (omega (arith, h, l)))) x;
    }

pub put_long : (old : List ℕ) (place : ℕ) (p : List ℕ) (r : ℕ) (new : List ℕ) → Put old place p r new → length new ≡ length old
put_long old place p r new w = ap length w.put ∙ length-sets old place p

pub listable_on : {n : ℕ} {ends choice old p new : List ℕ} {place r : ℕ} → Listable n ends choice old → Put old place p r new → Listable n ends choice new
listable_on {old = old} {p = p} {new = new} {place = place} {r = r} w q =
    record {
      showable = record { accepted = w.showable.accepted; long = w.showable.long; roomy = put_long old place p r new q ∙ w.showable.roomy };
      proper = w.proper;
    }

-- The page of a first choice

module _ (n : ℕ) (ends choice : List ℕ) (back : ℕ) (out : List ℕ) (w : Sheetable n ends choice back out) (order mesh sizes : List ℕ)
    (long_order : length order ≡ 4096) (long_mesh : length mesh ≡ 4096) (long_sizes : length sizes ≡ 4097)
    (r : Answer) (order' mesh' sizes' : List ℕ) (d : Draw n ends choice order mesh sizes r order' mesh' sizes') where
  abbrev net : Network
  net = network n ends

  few_lines : net.lines ≤ 2048
  few_lines = omega (arith, (sized n (length ends) w.listable.showable.accepted.sized).2)

  abbrev Outcome : Type 0
  Outcome = Check (Balanced net choice) (Drew net choice order mesh sizes r order' mesh' sizes') (Untouched (triple order mesh sizes) r (triple order' mesh' sizes') 10)

  roomy : cramped_draw (length ends / 2) (length choice) (length order) (length mesh) (length sizes) ≡ false
  unfolding cramped_draw
  roomy =
      let m = length ends / 2 in
      let a : m ≤ length choice = omega (arith, w.listable.showable.long) in
      let b : 2 * m ≤ length order = omega (arith, few_lines) in
      let c : 2 * m ≤ length mesh = omega (arith, few_lines) in
      let d : 2 * m + 1 ≤ length sizes = omega (arith, few_lines) in
      either_no (le-ltb _ _ a) (either_no (le-ltb _ _ b) (either_no (le-ltb _ _ c) (le-ltb _ _ d)))

  outcome : Outcome
  outcome =
      cases
      (granted n ends w.listable.showable.accepted _ roomy (Untouched (triple order mesh sizes) r (triple order' mesh' sizes'))
      (Check (Proper (tree_in net) (at choice)) Outcome (Untouched (triple order mesh sizes) r (triple order' mesh' sizes') 8)) d)
      (λ y. y.1) (λ y. absurd (y.0 w.listable.proper))

  pub few_meshes : r.number ≡ 0 → r.count < 65536
  few_meshes z =
      cases outcome
      (λ y. let e = ap (λ (z : Answer). z.count) y.1.answers in omega (arith, e, y.0, few_lines))
      (λ y. let e = ap (λ (z : Answer). z.number) y.1.answers in absurd (omega (arith, e, z)))

  pub few_backs : back < 65536
  few_backs = omega (arith, w.counted, backs_few net (fit n ends w.listable.showable.accepted))

  pub refused_page : (k : ℕ) → r.number ≡ k → (k ≡ 0 → ⊥) → {page : Page} → Put out 0 (answer_line k) page.count page.bytes → Paged (Sheet net choice) page
  refused_page k is z {page = page} q = go outcome
    where
      go : Outcome → Paged (Sheet net choice) page
      go (inl (_, y)) = absurd (z (sym is ∙ ap (λ (x : Answer). x.number) y.answers))
      go (inr (e, y)) =
          let ten = sym is ∙ ap (λ (x : Answer). x.number) y.answers in
          paged (Sheet net choice) out (answer_line k) page q w.listable.showable.roomy (omega (arith, answer_long k)) (inr (e, ap answer_line ten))

  -- the counts were put, and then the choices
  module _ (z : r.number ≡ 0) (mid : Page) (q : Put out 0 (counts_line r.count back) mid.count mid.bytes) where
    pub place_low : mid.count ≤ 11
    place_low = omega (arith, q.after, counts_long r.count back)

    pub listed_page : {page : Page} → PutChoices n ends choice mid page → Paged (Sheet net choice) page
    listed_page {page = page} p = go outcome
      where
        go : Outcome → Paged (Sheet net choice) page
        go (inr (_, y)) = let e = ap (λ (x : Answer). x.number) y.answers in absurd (omega (arith, e, z))
        go (inl (e, y)) =
            let counts = counts_line r.count back in
            let all = put_more out 0 counts mid.count mid.bytes q p.text page.count page.bytes p.put.after p.put.put in
            let meshes : r.count ≡ meshes_in net choice = ap (λ (x : Answer). x.count) y.answers in
            let same : counts ++ p.text ≡ counts_line (meshes_in net choice) (back_lines net) ++ p.text = rw (meshes, w.counted) in
            paged (Sheet net choice) out (counts ++ p.text) page all w.listable.showable.roomy
            (omega (arith, w.listable.showable.roomy, p.fits, put_long out 0 counts mid.count mid.bytes q, q.after, length-append counts p.text))
            (inl (e, (p.text, p.choices, same)))

-- The page of a network

module _ (n : ℕ) (ends choice out : List ℕ) (w : Showable n ends choice out) (lines kinds : List ℕ) (long_lines : length lines ≡ 2048) (long_kinds : length kinds ≡ 2048)
    (r : Answer) (choice' lines' kinds' : List ℕ) (f : FirstChoice n ends choice lines kinds r choice' lines' kinds') where
  abbrev the_net : Network
  the_net = network n ends

  lines_few : the_net.lines ≤ 2048
  lines_few = omega (arith, (sized n (length ends) w.accepted.sized).2)

  abbrev Said : Type 0
  Said = Check (Drawable (tree_in the_net)) (Chosen the_net choice lines kinds r choice' lines' kinds') (Ringed the_net choice lines kinds r choice' lines' kinds')

  said : Said
  said = first_says n ends w.accepted choice lines kinds (omega (arith, w.long)) (omega (arith, lines_few)) (omega (arith, lines_few)) r choice' lines' kinds' f

  ring_fits : (r.number ≡ 0 → ⊥) → (r.second ≤ length lines') × (r.second ≤ length kinds') × (r.second ≤ 2048)
  ring_fits z = go said
    where
      go : Said → (r.second ≤ length lines') × (r.second ≤ length kinds') × (r.second ≤ 2048)
      go (inl (_, y)) = absurd (z (ap (λ (x : Answer). x.number) y.answers))
      go (inr (_, y)) =
          let e = ap (λ (x : Answer). x.second) y.answers in
          (omega (arith, e, y.few, lines_few, y.lines_rest.long), omega (arith, e, y.few, lines_few, y.kinds_rest.long), omega (arith, e, y.few, lines_few))

  pub ringable : (r.number ≡ 0 → ⊥) → {page : Page} → length page.bytes ≡ 262222 → page.count ≡ 0 → Ringable r.second lines' kinds' page
  ringable z l e =
      let fits = ring_fits z in
      record { lines = fits.0; kinds = fits.1; few = fits.2; roomy = record { long = l; room = omega (arith, e) } }

  pub ring_shown : (z : r.number ≡ 0 → ⊥) {page : Page} → Put out 0 (ring_page r.second (at lines') (at kinds')) page.count page.bytes → Paged (Shows the_net) page
  ring_shown z {page = page} q = go said
    where
      go : Said → Paged (Shows the_net) page
      go (inl (_, y)) = absurd (z (ap (λ (x : Answer). x.number) y.answers))
      go (inr (e, y)) =
          let s = ap (λ (x : Answer). x.second) y.answers in
          paged (Shows the_net) out (ring_page r.second (at lines') (at kinds')) page q w.roomy
          (omega (arith, ring_page_long (at lines') (at kinds') r.second, (ring_fits z).2))
          (inr (e, record { size = y.size; line = lines'; kind = kinds'; few = y.few; ring = y.ring; says = ap (λ k. ring_page k (at lines') (at kinds')) s }))

  pub sheetable : r.number ≡ 0 → Sheetable n ends choice' r.count out
  sheetable z = go said
    where
      go : Said → Sheetable n ends choice' r.count out
      go (inr (_, y)) = let e = ap (λ (x : Answer). x.number) y.answers in absurd (omega (arith, e, z))
      go (inl (_, y)) =
          record {
            listable = record { showable = record { accepted = w.accepted; long = y.rest.long ∙ w.long; roomy = w.roomy }; proper = y.first.good };
            counted = ap (λ (x : Answer). x.count) y.answers;
          }

  pub list_shown : r.number ≡ 0 → {page : Page} → Paged (Sheet the_net choice') page → Paged (Shows the_net) page
  list_shown z {page = page} q = go said
    where
      go : Said → Paged (Shows the_net) page
      go (inr (_, y)) = let e = ap (λ (x : Answer). x.number) y.answers in absurd (omega (arith, e, z))
      go (inl (d, y)) =
          record { long = q.long; within = q.within; allowed = inl (d, record { choice = choice'; long = y.rest.long ∙ w.long; first = y.first; sheet = q.allowed }) }

  -- a refusal that is no ring's is none of a network that read accepts
  pub only_ringed : (e : Refusal) → r ≡ refusing e → ((size : ℕ) → e ≡ Variants.Ringed size → ⊥) → ⊥
  only_ringed e is other = go said
    where
      number_is : refusal_number e ≡ r.number
      number_is = sym (ap (λ (x : Answer). x.number) is ∙ refusing_number e)

      go : Said → ⊥
      go (inl (_, y)) = refusal_some e (number_is ∙ ap (λ (x : Answer). x.number) y.answers)
      go (inr (_, y)) = let ring = ringed_is e (number_is ∙ ap (λ (x : Answer). x.number) y.answers) in other ring.0 ring.1
