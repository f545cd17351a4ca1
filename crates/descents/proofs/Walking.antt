-- The two walks, one after the other: what each step asks follows from what was asked of the whole and from what the steps before left.
use mathlib.Core.List.{List}
use mathlib.Core.Path.{◌≡◌, refl, sym, ◌∙◌}
use Prim.Native.Nat.{ℕ, ◌<◌}
use lib.ListN.{replicate, length-replicate, get_or-replicate}
use Rattle.std.specs.Prelude.{Result, Ok, Err, ⊤}
use Rattle.laws.specs.Lists.{at}
use Rattle.laws.specs.Chains.{Chainable, Chained}
use Rattle.laws.proofs.Cases.{cases, bool}
use Rattle.laws.proofs.Chaining.{chained_agree}
use Rattle.network.specs.Marks.{absent}
use Rattle.tree.specs.Tree.{Tree}
use Rattle.fork.specs.Ends.{bottom}
use Rattle.fork.specs.Inside.{Finished, Spans, Buckets}
use Rattle.fork.specs.declared.Forks.{Forks}
use Rattle.groups.specs.declared.Groups.{Groups}
use Rattle.spans.specs.declared.Jumps.{Jumps}
use Rattle.fork.proofs.Ends.{bottom_is}
use Rattle.groups.specs.Groups.{pointed}
use Rattle.links.specs.Inside.{Sound, Outcome, obeyed, unkept}
use Rattle.links.specs.declared.Tear.{Tear}
use Rattle.links.proofs.Outcomes.{holds_of}
use Rattle.spans.specs.Inside.{Lowerable, Lowered}
use Rattle.spans.proofs.Buckets.{spans_chainable}
use Rattle.spans.proofs.Knowing.{new_unheld}
use Rattle.rising.specs.Inside.{Rising, Risen}
use Rattle.lows.specs.Inside.{Bottomed, Plumbed, Comparable, Compared}
use Rattle.falling.specs.Inside.{Falling, Fallen}
use Rattle.descents.specs.Inside.{all_kept, one_torn, Walkable, Tied}
use Rattle.descents.proofs.Sorting.{links_closed}

-- the chains depend on where the lines end, and so on the tree alone
spans_agree : (S : Tree) → Finished S → {forks forks' : Forks} → Spans S forks → Spans S forks' → (k : ℕ) → k < S.lines → at forks'.stop k ≡ at forks.stop k
spans_agree S fin p q k h =
    let l = fin.every k h in
    cases (bool (S.tree k))
    (λ t. q.no_stops k (l, t) ∙ sym (p.no_stops k (l, t)))
    (λ t. q.stops k (l, t) ∙ sym (p.stops k (l, t)))

module _ {S : Tree} {vertices lines : ℕ} {heights parents : List ℕ} {forks : Forks} {g : Groups} (w : Walkable S vertices lines heights parents forks g) where
  pub walk_chainable : Chainable 513 2048 lines (at forks.stop)
  walk_chainable = rw w.same_lines at (spans_chainable S w.finished forks w.spanned.spans)

  -- the table of jumps as it is made
  abbrev unjumped : Jumps
  unjumped = record { onward = replicate {A = ℕ} 512 absent; least = replicate {A = ℕ} 512 absent; held = replicate {A = ℕ} 512 absent }

  pub walk_lowerable : Lowerable S vertices heights parents forks unjumped
  walk_lowerable =
      record {
        same_vertices = w.same_vertices;
        finished = w.finished;
        each_height = w.each_height;
        each_parent = w.each_parent;
        spans = w.spanned.spans;
        long = record {
          onwards = length-replicate {A = ℕ} 512 absent;
          leasts = length-replicate {A = ℕ} 512 absent;
          helds = length-replicate {A = ℕ} 512 absent;
        };
        unheld = new_unheld w.finished unjumped refl;
      }

  module _ {heads nexts : List ℕ} (c : Chained 513 2048 lines (at forks.stop) heads nexts) {jumps : Jumps} (l : Lowered S jumps) where
    chains : Buckets S forks heads nexts
    chains = rw w.same_lines c

    pub walk_rising : Rising S vertices heights jumps heads nexts forks (replicate {A = ℕ} 512 absent) g
    walk_rising =
        record {
          same_vertices = w.same_vertices;
          finished = w.finished;
          each_height = w.each_height;
          below = l.below;
          spans = w.spanned.spans;
          buckets = chains;
          bottoms_long = length-replicate {A = ℕ} 512 absent;
          no_bottoms = λ v h. get_or-replicate {A = ℕ} 512 v absent 0 h;
          sound = w.sound;
        }

    pub walk_torn : {bottoms : List ℕ} {g' : Groups} {r : Tear} → Outcome S g g' (Risen S bottoms g') (Err r) → {forks' : Forks} → Tied S forks' g' (Err r)
    walk_torn (unkept s u) = record { sound = s; sorted = one_torn s.together u; tabled = λ e. absurd (cc) }

    module _ {bottoms : List ℕ} {g' : Groups} (o : Outcome S g g' (Risen S bottoms g') (Ok tt)) where
      risen : Sound S g' × Risen S bottoms g'
      risen = let q = holds_of o refl in (q.0, q.2)

      pub walk_bottomed : Bottomed S vertices heights parents bottoms forks
      walk_bottomed =
          record {
            same_vertices = w.same_vertices;
            finished = w.finished;
            each_height = w.each_height;
            each_parent = w.each_parent;
            each_bottom = risen.1.each_bottom;
            spans = w.spanned.spans;
            unlowed = w.spanned.unlowed;
            untopped = w.spanned.untopped;
          }

      module _ {forks' : Forks} (p : Plumbed S forks') where
        pub walk_comparable : Comparable S vertices lines heights parents forks' jumps
        walk_comparable =
            record {
              same_vertices = w.same_vertices;
              same_lines = w.same_lines;
              finished = w.finished;
              each_height = w.each_height;
              each_parent = w.each_parent;
              spans = p.spans;
              lows = p.lows;
              below = l.below;
              unheld = l.unheld;
            }

        module _ {jumps' : Jumps} (m : Compared S jumps') where
          pub walk_falling : Falling S vertices heights parents heads nexts jumps' forks' g'
          walk_falling =
              record {
                same_vertices = w.same_vertices;
                finished = w.finished;
                each_height = w.each_height;
                each_parent = w.each_parent;
                spans = p.spans;
                lows = p.lows;
                untopped = p.untopped;
                buckets = chained_agree (spans_agree S w.finished w.spanned.spans p.spans) chains;
                below = m.below;
                least = m.least;
                unheld = m.unheld;
                sound = risen.0;
              }

          pub walk_done : {forks'' : Forks} {g'' : Groups} {r : Result ⊤ Tear} → Outcome S g' g'' (Fallen S forks'' g'') r → Tied S forks'' g'' r
          walk_done {forks''} {g''} (obeyed s n f) =
              record {
                sound = s;
                sorted =
                    all_kept s.together
                    (λ b d k x. links_closed S w.finished.searched (pointed g'')
                    (λ t c y z u. n c (bottom S t) 0 z.return.is_back.0.below (bottom_is S t c z.return).return.is_back.0.below (risen.1.lowest t c y z u))
                    f.held f.apart x);
                tabled = λ _. f.tabled;
              }
          walk_done (unkept s u) = record { sound = s; sorted = one_torn s.together u; tabled = λ e. absurd (cc) }
