-- The two functions that write all four places of a line: the one that points the higher of two leaders to the lower one, and the start.
use mathlib.Core.List.{List}
use mathlib.Core.Path.{◌≡◌, sym, ◌∙◌}
use Prim.Native.Nat.{ℕ, ◌≤◌, ◌<◌}
use native.Mathlib.Omega.{arith}
use lib.ListN.{set}
use Rattle.laws.specs.Lists.{at}
use Rattle.groups.specs.Groups.{columns, pointed, PutBelow}
use Rattle.groups.specs.Pointers.{Long, PointsDown, OwnSide, BaseParity}
use Rattle.groups.specs.Calls.{Started, Mergeable, GivenOver}
use Rattle.groups.specs.declared.Groups.{Groups}
use Rattle.groups.proofs.Filling.{put_below}
use Rattle.groups.proofs.Pointers.{pointed_stands, from_pointed, to_pointed, leads_points, given_over}

-- All four places of a line are written
module _ (x l t u v : ℕ) (g : Groups) (h : x < 2048) where
  written_leaders : PutBelow 2048 (at g.leader) x l (at (set g.leader x l))
  written_leaders = put_below 2048 g.leader x l (omega (arith, g.long.0))

  written_parities : PutBelow 2048 (at g.parity) x t (at (set g.parity x t))
  written_parities = put_below 2048 g.parity x t (omega (arith, g.long.1))

  written_froms : PutBelow 2048 (at g.from) x u (at (set g.from x u))
  written_froms = put_below 2048 g.from x u (omega (arith, g.long.2))

  written_tos : PutBelow 2048 (at g.to) x v (at (set g.to x v))
  written_tos = put_below 2048 g.to x v (omega (arith, g.long.3))

-- The higher leader is pointed to the lower one

module _ (low high turn b d : ℕ) (g : Groups) (m : Mergeable low high b d g) where
  leaders_given : PutBelow 2048 (at g.leader) high low (at (set g.leader high low))
  leaders_given = written_leaders high low turn b d g m.within

  parities_given : PutBelow 2048 (at g.parity) high turn (at (set g.parity high turn))
  parities_given = written_parities high low turn b d g m.within

  low_own : at g.leader low ≡ low
  low_own = leads_points g.down (pointed_stands g) low (omega (arith, m.less, m.within)) m.low_leads

  high_own : at g.leader high ≡ high
  high_own = leads_points g.down (pointed_stands g) high m.within m.high_leads

  module _ (long : Long (set g.leader high low) (set g.parity high turn) (set g.from high b) (set g.to high d)) (down : PointsDown (set g.leader high low))
      (own : OwnSide (set g.leader high low) (set g.parity high turn)) where
    abbrev given : Groups
    given =
        record {
          leader = set g.leader high low;
          parity = set g.parity high turn;
          from = set g.from high b;
          to = set g.to high d;
          long = long;
          down = down;
          own = own;
        }

    froms_given : PutBelow 2048 (pointed g).from high b (pointed given).from
    froms_given =
        let n = written_froms high low turn b d g m.within in
        record {
          here = from_pointed given high ∙ n.here;
          there = λ w k e. from_pointed given w ∙ n.there w k e ∙ sym (from_pointed g w);
        }

    tos_given : PutBelow 2048 (pointed g).to high d (pointed given).to
    tos_given =
        let n = written_tos high low turn b d g m.within in
        record {
          here = to_pointed given high ∙ n.here;
          there = λ w k e. to_pointed given w ∙ n.there w k e ∙ sym (to_pointed g w);
        }

    pub high_given : GivenOver low high turn b d g given
    high_given =
        record {
          merged = record {
            groups =
                given_over low high turn g.down g.own (pointed_stands g) (pointed_stands given) m.less m.within low_own high_own leaders_given parities_given;
            from = froms_given;
            to = tos_given;
          };
        }

-- The start: the lines passed point to themselves

pub record Starting (lines : ℕ) (kinds : List ℕ) (g : Groups) (b : ℕ) : Type 0 where
  pub few : lines ≤ 2048
  pub upto : b ≤ lines
  pub leaders : (w : ℕ) → w < b → at g.leader w ≡ w
  pub parities : (w : ℕ) → w < b → BaseParity (at kinds w) (at g.parity w)
  pub froms : (w : ℕ) → w < b → at g.from w ≡ w
  pub tos : (w : ℕ) → w < b → at g.to w ≡ w

module _ (lines : ℕ) (kinds : List ℕ) (g : Groups) (b : ℕ) (s : Starting lines kinds g b) where
  pub started : lines ≤ b → Started lines kinds g
  started h =
      let k = s.few in
      let f : (w : ℕ) → w < lines → ((pointed g).leader w ≡ w) × ((pointed g).parity w ≡ (columns g).parity w) =
      λ w o. (pointed_stands g).here w (omega arith) (s.leaders w (omega arith)) in
      record {
        leaders = λ w o. (f w o).0;
        parities = λ w o. rw (f w o).1 (s.parities w (omega arith));
        froms = λ w o. from_pointed g w ∙ s.froms w (omega arith);
        tos = λ w o. to_pointed g w ∙ s.tos w (omega arith);
      }
