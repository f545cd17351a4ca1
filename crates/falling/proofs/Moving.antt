-- What holds stays when more is tied, and when the place of the walk is said otherwise or goes on.
use mathlib.Core.Logic.{inl, inr}
use mathlib.Core.Path.{◌≡◌, ap}
use Prim.Native.Nat.{ℕ, ◌≤◌, ◌<◌}
use native.Mathlib.Omega.{arith}
use Rattle.laws.proofs.Cases.{cases}
use Rattle.tree.specs.Tree.{Tree}
use Rattle.tree.specs.Returns.{end}
use Rattle.tree.specs.Words.{TreeLine, BackLine, Return}
use Rattle.fork.specs.Ends.{top}
use Rattle.fork.proofs.Ends.{top_is}
use Rattle.groups.specs.declared.Groups.{Groups}
use Rattle.links.specs.Inside.{Sound, StillClosed}
use Rattle.meeting.specs.Inside.{Met}
use Rattle.fork.specs.declared.Forks.{Forks}
use Rattle.spans.specs.declared.Jumps.{Jumps}
use Rattle.meeting.specs.declared.Pairs.{Pairs}
use Rattle.falling.specs.Down.{FallsBefore, Overtook, Worn, Bare, Joint, Stretch, Midway}

-- Tree lines that have been passed

module _ {S : Tree} {x b h o : ℕ} {jumps : Jumps} {pairs : Pairs} {forks : Forks} {g : Groups} (F : Midway S x b h o jumps pairs forks g) where
  pub worn_of : (f : ℕ) → Met S forks f → Worn S x b h forks f
  worn_of f m = cases (F.crowns f m.0) (λ w. w) (λ z. absurd (omega (arith, z.unnamed, m.1)))

  pub top_line : (f : ℕ) → Met S forks f → top S f < S.lines
  top_line f m = (worn_of f m).return.is_back.0.below

-- what has passed a line ends at x or higher
pub past_end : (S : Tree) (x b h f c : ℕ) → end S b ≡ x → Overtook S x b h f c → x ≤ end S c
past_end S x b h f c e (inl (inl p)) = omega arith
past_end S x b h f c e (inl (inr p)) = omega (arith, p.0)
past_end S x b h f c e (inr p) = let q : end S c ≡ end S b = ap (end S) p.0 in omega arith

-- More tied

module _ {S : Tree} {x b h o : ℕ} {jumps : Jumps} {pairs : Pairs} {forks : Forks} {g g' : Groups} (F : Midway S x b h o jumps pairs forks g) (s : Sound S g')
    (on : StillClosed S g g') where
  joint_tied : {r t w : ℕ} → t < S.lines → Joint S x forks g r t w → Joint S x forks g' r t w
  joint_tied l j =
      record {
        met = j.met;
        no_less = j.no_less;
        tied = λ q. on _ _ 0 (top_line F _ j.met) l (j.tied q);
      }

  stretch_tied : {v u r t : ℕ} → Stretch S x forks g v u r t → Stretch S x forks g' v u r t
  stretch_tied s =
      record {
        inside = s.inside;
        below = s.below;
        lower = s.lower;
        line = s.line;
        each = λ w i a q. joint_tied s.line (s.each w i a q);
        place = s.place;
        place_in = s.place_in;
        place_on = s.place_on;
        place_over = s.place_over;
        place_rival = s.place_rival;
        place_top = s.place_top;
      }

  pub state_tied : Midway S x b h o jumps pairs forks g'
  state_tied =
      record {
        finished = F.finished;
        spans = F.spans;
        lows = F.lows;
        jumps_long = F.jumps_long;
        pairs_long = F.pairs_long;
        back_highs = F.back_highs;
        back_tops = F.back_tops;
        crowns = F.crowns;
        segments = λ v i q. cases (F.segments v i q) (λ z. inl z) (λ z. inr (stretch_tied z));
        held = λ f c l p q. on c (top S f) 0 q.return.is_back.0.below (top_is S f c q.return).return.is_back.0.below (F.held f c l p q);
        kept = F.kept;
        apart = λ u i f k mf mk uf uk d v. on (top S f) (top S k) 1 (top_line F f mf) (top_line F k mk) (F.apart u i f k mf mk uf uk d v);
        beside = λ f c m l t e v. on (top S f) c 1 (top_line F f m) l.0.below (F.beside f c m l t e v);
        sound = s;
      }

-- Another place of the walk, with the same lines passed

stretch_lower : {S : Tree} {x x' : ℕ} {forks : Forks} {g : Groups} {v u r t : ℕ} → x' ≤ x → Stretch S x forks g v u r t → Stretch S x' forks g v u r t
stretch_lower le s =
    record {
      inside = s.inside;
      below = s.below;
      lower = s.lower;
      line = s.line;
      each = λ w i a q. let j = s.each w i a q in record { met = j.met; no_less = j.no_less; tied = λ k. j.tied (omega arith) };
      place = s.place;
      place_in = s.place_in;
      place_on = s.place_on;
      place_over = s.place_over;
      place_rival = s.place_rival;
      place_top = s.place_top;
    }

pub record Moves (S : Tree) (x b h o x' b' h' o' : ℕ) : Type 0 where
  pub no_higher : x' ≤ x
  pub there : (f c : ℕ) → TreeLine S f → Return S f c → Overtook S x b h f c → Overtook S x' b' h' f c
  pub back : (f c : ℕ) → TreeLine S f → Return S f c → Overtook S x' b' h' f c → Overtook S x b h f c
  pub earlier : (c : ℕ) → BackLine S c → FallsBefore S x' o' c → FallsBefore S x o c

pub state_moved : {S : Tree} {x b h o x' b' h' o' : ℕ} {jumps : Jumps} {pairs : Pairs} {forks : Forks} {g : Groups} → Midway S x b h o jumps pairs forks g
    → Moves S x b h o x' b' h' o'
    → Midway S x' b' h' o' jumps pairs forks g
state_moved {S} {x} {b} {h} {o} {x'} {b'} {h'} {o'} {jumps} {pairs} {forks} {g} F m =
    record {
      finished = F.finished;
      spans = F.spans;
      lows = F.lows;
      jumps_long = F.jumps_long;
      pairs_long = F.pairs_long;
      back_highs = F.back_highs;
      back_tops = F.back_tops;
      crowns = λ f l. cases (F.crowns f l) (λ w. inl (worn f l w)) (λ n. inr (bare f l n));
      segments = λ v i q. cases (F.segments v i q) (λ z. inl z) (λ z. inr (stretch_lower m.no_higher z));
      held = λ f c l p q. F.held f c l (m.back f c l q.return p) q;
      kept = F.kept;
      apart = F.apart;
      beside = λ f c k l t e v. F.beside f c k l (m.earlier c l t) e v;
      sound = F.sound;
    }
  where
    worn : (f : ℕ) → TreeLine S f → Worn S x b h forks f → Worn S x' b' h' forks f
    worn f l w = record { named = w.named; height = w.height; return = w.return; past = m.there f (top S f) l w.return w.past }

    bare : (f : ℕ) → TreeLine S f → Bare S x b h forks f → Bare S x' b' h' forks f
    bare f l n = record { unnamed = n.unnamed; height = n.height; unpassed = λ c r p. n.unpassed c r (m.back f c l r p) }
