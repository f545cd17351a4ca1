-- Writing the order down, list after list.
use mathlib.Core.List.{List, [], ◌∷◌, ◌++◌, append-nil, append_assoc}
use mathlib.Core.Logic.{◌≢◌}
use mathlib.Core.Path.{◌≡◌, refl, sym, ◌∙◌, ap, subst}
use Prim.Native.Nat.{ℕ, suc, ◌+◌, ◌≤◌, ◌<◌}
use native.Mathlib.Numerals.{add-one}
use native.Mathlib.Omega.{arith}
use lib.ListN.{length, set, take, replicate, length-set, length-replicate, length-append}
use lib.Seq.{get_or-set_same, get_or-set_other}
use Rattle.laws.specs.Lists.{upto, at}
use Rattle.laws.specs.Sorting.{gather}
use Rattle.laws.proofs.Cases.{cases, eq_or}
use Rattle.laws.proofs.Lists.{All}
use Rattle.laws.proofs.Places.{gather_append, gather_next}
use Rattle.laws.proofs.Gathering.{gather_nil, gather_cons}
use Rattle.laws.proofs.Lengths.{from_nil, gather_rises, gather_length}
use Rattle.std.specs.Prelude.{Option, Some}
use Rattle.fans.specs.declared.chains.Chains.{Chains}
use Rattle.fans.specs.declared.rows.Row.{Row}
use Rattle.network.specs.Inside.{Names}
use Rattle.fans.specs.Chains.{list_in, BlankRow, Appended}
use Rattle.fans.proofs.Hanging.{chained_short, Leads, leads, Ahead, ahead, remaining, remaining_less, appended_none, appended_join}
use Rattle.clockwise.specs.Laying.{item_in, Besides, spread_in, Spreads, first_in, Begins, lines_at, Layable, Unlaid, LongOrder}
use Rattle.clockwise.specs.declared.Order.{Order}

-- The lines of a fan

pub record Spreading (v : ℕ) (uppers : List ℕ) (fans groups : Chains) (order₀ order : Row) (next : Option ℕ) : Type 0 where
  pub start : Spreads v uppers fans groups order₀
  pub order_long : length order.lines ≡ 4096
  pub done : List ℕ
  pub rest : List ℕ
  pub fan : list_in fans v ≡ done ++ rest
  pub chain : Leads fans.after next rest
  pub small : All (λ x. x < 2048) rest
  pub short : length rest ≤ 2048
  pub room : order.count + length (gather (item_in uppers groups) rest) ≤ 4096
  pub written : Appended (gather (item_in uppers groups) done) order₀ order

module _ {v : ℕ} {uppers : List ℕ} {fans groups : Chains} {order : Row} where
  pub spreading_start : Spreads v uppers fans groups order → {o : Option ℕ} → Names (at fans.first v) o → Spreading v uppers fans groups order order o
  spreading_start P {o} names =
      let h = P.vertex_in in
      record {
        start = P;
        order_long = P.order_long;
        done = [];
        rest = list_in fans v;
        fan = refl;
        chain = leads fans.after _ o (list_in fans v) names (P.fanned.chains v (omega arith)) (P.fanned.small v (omega arith));
        small = P.fanned.small v (omega arith);
        short = chained_short fans (list_in fans) P.fanned v (omega arith);
        room = P.room;
        written = rw (gather_nil (item_in uppers groups)) (appended_none order);
      }

module _ {v : ℕ} {uppers : List ℕ} {fans groups : Chains} {order₀ order : Row} {o : Option ℕ} (G : Spreading v uppers fans groups order₀ order o) where
  abbrev items : List ℕ → List ℕ
  items l = gather (item_in uppers groups) l

  module _ {e : ℕ} (is : o ≡ Some e) where
    onward : Ahead fans.after e G.rest
    onward = ahead fans.after o e G.rest G.chain is G.small

    room : order.count + (length (item_in uppers groups e) + length (items onward.later)) ≤ 4096
    room =
        omega (
          arith,
          G.room,
          ap (λ (l : List ℕ). length (items l)) onward.is,
          ap length (gather_cons (item_in uppers groups) e onward.later),
          length-append (item_in uppers groups e) (items onward.later),
        )

    pub spreading_fits : Besides e uppers groups order
    spreading_fits =
        record { line_in = onward.small; upper = G.start.upper e onward.small; grouped = G.start.grouped; room = omega (arith, room); order_long = G.order_long }

    module _ (next : Option ℕ) (names : Names (at fans.after e) next) where
      pub spreading_less : remaining fans.after next < remaining fans.after o
      spreading_less = remaining_less fans.after o e G.rest onward is G.short next names

      pub spreading_more : {order' : Row} → Appended (item_in uppers groups e) order order' → Spreading v uppers fans groups order₀ order' next
      spreading_more {order'} A =
          let r = onward.later in
          let more : items (G.done ++ (e ∷ [])) ≡ items G.done ++ item_in uppers groups e =
          gather_append (item_in uppers groups) G.done (e ∷ [])
          ∙ ap (λ (l : List ℕ). items G.done ++ l) (gather_cons (item_in uppers groups) e [] ∙ ap (λ (l : List ℕ). item_in uppers groups e ++ l) (gather_nil (item_in uppers groups)) ∙ append-nil (item_in uppers groups e)) in
          record {
            start = G.start;
            order_long = A.long ∙ G.order_long;
            done = G.done ++ (e ∷ []);
            rest = r;
            fan = G.fan ∙ ap (λ (l : List ℕ). G.done ++ l) onward.is ∙ sym (append_assoc G.done (e ∷ []) r);
            chain = leads fans.after _ next r names onward.chain onward.smalls;
            small = onward.smalls;
            short = omega (arith, G.short, ap length onward.is);
            room = omega (arith, room, A.stop);
            written = subst (λ (l : List ℕ). Appended l order₀ order') (sym more) (appended_join G.written A);
          }

-- All vertices

pub unlaid_long : {order : Order} → Unlaid order → LongOrder order
unlaid_long u = record { lines = u.row.long; starts = ap length u.starts ∙ length-replicate {A = ℕ} 513 0 }

pub record Laying (n : ℕ) (parents uppers : List ℕ) (fans groups : Chains) (order : Row) (starts : List ℕ) (v : ℕ) : Type 0 where
  pub order_long : length order.lines ≡ 4096
  pub starts_long : length starts ≡ 513
  pub here : order.count ≡ length (gather (lines_at parents uppers fans groups) (upto v))
  pub fits : order.count ≤ 4096
  pub written : take order.count order.lines ≡ gather (lines_at parents uppers fans groups) (upto v)
  pub starts_at : (u : ℕ) → u ≤ v → at starts u ≡ length (gather (lines_at parents uppers fans groups) (upto u))

module _ {n : ℕ} {parents uppers : List ℕ} {fans groups : Chains} (P : Layable n parents uppers fans groups) where
  abbrev list : ℕ → List ℕ
  list = lines_at parents uppers fans groups

  -- over a row without lines
  pub laying_start : {order : Row} → BlankRow order → Laying n parents uppers fans groups order (replicate 513 0) 0
  laying_start {order} blank =
      let none : gather list (upto 0) ≡ [] = nothing in
      record {
        order_long = blank.long;
        starts_long = length-replicate {A = ℕ} 513 0;
        here = blank.none ∙ sym (ap length none);
        fits = omega (arith, blank.none);
        written = ap (λ (y : ℕ). take y order.lines) blank.none ∙ sym none;
        starts_at = λ u h. let e : u ≡ 0 = omega arith in rw e (sym (ap length none));
      }
    where
      nothing : gather list (upto 0) ≡ []
      nothing = ap (gather list) (from_nil 0) ∙ gather_nil list

  -- .. and over an order that may be full of an older one
  pub laying_over : {order : Order} → LongOrder order → Laying n parents uppers fans groups (record { lines = order.row.lines; count = 0 }) (set order.starts 0 0) 0
  laying_over {order} long =
      let l = laying_start {order = record { lines = order.row.lines; count = 0 }} (record { long = long.lines; none = refl }) in
      record {
        order_long = l.order_long;
        starts_long = length-set order.starts 0 0 ∙ long.starts;
        here = l.here;
        fits = l.fits;
        written = l.written;
        starts_at = λ u h. let e : u ≡ 0 = omega arith in rw e (get_or-set_same order.starts 0 0 0 (omega (arith, long.starts)) ∙ l.starts_at 0 (omega arith));
      }

  module _ {order : Row} {starts : List ℕ} {v : ℕ} (G : Laying n parents uppers fans groups order starts v) (h : v < n) where
    space : length (gather list (upto v)) + length (list v) ≤ 4096
    space = omega (arith, gather_length list v, gather_rises list (suc v) n h, P.room)

    pub laying_begins : Begins v parents order
    laying_begins =
        record {
          vertex_in = omega (arith, P.few);
          room = omega (arith, space, G.here, length-append (first_in parents v) (spread_in uppers fans groups v));
          order_long = G.order_long;
        }

    module _ {order₁ : Row} (A : Appended (first_in parents v) order order₁) where
      pub laying_spreads : Spreads v uppers fans groups order₁
      laying_spreads =
          record {
            vertex_in = omega (arith, P.few);
            upper = P.upper;
            fanned = P.fanned;
            grouped = P.grouped;
            room = omega (arith, space, G.here, A.stop, length-append (first_in parents v) (spread_in uppers fans groups v));
            order_long = A.long ∙ G.order_long;
          }

      module _ {order₂ : Row} (B : Appended (spread_in uppers fans groups v) order₁ order₂) where
        both_written : Appended (list v) order order₂
        both_written = appended_join A B

        pub laying_fits : order₂.count ≤ 4096
        laying_fits = omega (arith, both_written.stop, G.here, space)

        pub laying_more : Laying n parents uppers fans groups order₂ (set starts (v + 1) order₂.count) (v + 1)
        laying_more =
            let W = both_written in
            let here : order₂.count ≡ length (gather list (upto (v + 1))) = rw (add-one v) (omega (arith, W.stop, G.here, gather_length list v)) in
            record {
              order_long = W.long ∙ G.order_long;
              starts_long = length-set starts (v + 1) order₂.count ∙ G.starts_long;
              here = here;
              fits = laying_fits;
              written = rw (add-one v) (W.written ∙ ap (λ (l : List ℕ). l ++ list v) G.written ∙ sym (gather_next list v));
              starts_at = λ u g.
                  cases (eq_or u (v + 1))
                  (λ e.
                  ap (at (set starts (v + 1) order₂.count)) e
                  ∙ get_or-set_same starts (v + 1) order₂.count 0 (omega (arith, G.starts_long, P.few))
                  ∙ here
                  ∙ ap (λ (y : ℕ). length (gather list (upto y))) (sym e))
                  (λ d. let d' : u ≢ v + 1 = d in get_or-set_other starts (v + 1) u order₂.count 0 d ∙ G.starts_at u (omega arith));
            }
