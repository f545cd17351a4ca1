-- The chain of joinings and the ring, as the code finds them.
use mathlib.Core.List.{List}
use Prim.Native.Nat.{ℕ}
use native.Mathlib.Omega.{arith}
use lib.ListN.{replicate, length-replicate, get_or-replicate}
use Rattle.laws.specs.Lists.{at}
use Rattle.groups.specs.Groups.{columns}
use Rattle.groups.specs.declared.Groups.{Groups}
use Rattle.rings.specs.Flooding.{StepChains, Unflooded, Reachable, SimpleWay}
use Rattle.rings.specs.Rings.{Showing, RingRoom, Written, Shown}
use Rattle.rings.proofs.Showing.{shown}

-- The chain

module _ (lines b d : ℕ) (g : Groups) (chain : List ℕ) (c : Reachable lines b d g chain) where
  pub fresh : (heads nexts : List ℕ) → StepChains lines g heads nexts → Unflooded lines b d g heads nexts (replicate {A = ℕ} 2048 lines)
  fresh heads nexts h =
      record {
        sound = c.sound;
        chains = h;
        root = c.first;
        goal = c.second;
        vias = length-replicate {A = ℕ} 2048 lines;
        fresh = λ x l. get_or-replicate {A = ℕ} 2048 x lines 0 (omega (arith, c.sound.few));
        way = c.way;
      }

-- The ring

module _ (lines b d k : ℕ) (g : Groups) (ring kinds : List ℕ) (s : Showing lines b d k g ring kinds) where
  pub connected : Reachable lines b d g (replicate {A = ℕ} 2048 0)
  connected =
      let t = s.conflict in
      record {
        sound = record { few = t.few; inside = t.inside };
        first = t.first;
        second = t.second;
        long = length-replicate {A = ℕ} 2048 0;
        way = t.way;
      }

  module _ (n : ℕ) (chain : List ℕ) (c : SimpleWay lines b d (columns g) n (at chain)) where
    pub ring_room : RingRoom n chain ring kinds
    ring_room =
        let t = s.conflict in
        record {
          readable = record { some = c.some; few = omega (arith, c.few, t.few); small = λ i h. omega (arith, c.inside i h, t.few) };
          ring_room = omega (arith, c.few, s.ring_room);
          kind_room = omega (arith, c.few, s.kind_room);
        }

    pub ring_written : (ring' kinds' : List ℕ) → Written (columns g).parity (at chain) n k ring kinds ring' kinds'
        → Shown lines (columns g) b d k n ring kinds ring' kinds'
    ring_written ring' kinds' w =
        shown lines b d k (columns g) s.conflict n (at chain) c w.from_place w.lowest w.up ring ring' kinds kinds' w.upward
        w.its_lines w.its_kinds
