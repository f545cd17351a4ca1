-- Lines that meet at a vertex by falling highs: the two with the least lows stand for all that were met before. For whatever overlaps a line that ends
-- as high as x has a low below x; all that were met end at x or higher; so three with lows below x would overlap each other, and no three are apart.
use mathlib.Core.Logic.{◌⊎◌, inl, inr}
use mathlib.Core.Path.{◌≡◌, sym, ◌∙◌, ap, subst}
use Prim.Native.Nat.{ℕ, ◌≤◌, ◌<◌}
use native.Mathlib.Omega.{arith}
use Rattle.std.specs.Prelude.{Result, Ok, Err, ⊤, IsErrAnd}
use Rattle.laws.specs.Lists.{at}
use Rattle.laws.proofs.Cases.{cases, eq_or}
use Rattle.laws.proofs.Passing.{passed_on}
use Rattle.side.specs.Sides.{different}
use Rattle.tree.specs.Tree.{Tree}
use Rattle.tree.specs.Returns.{end, low}
use Rattle.tree.specs.Words.{BackLine, Return}
use Rattle.tree.specs.Searched.{Searched}
use Rattle.fork.specs.Ends.{high, top}
use Rattle.fork.specs.Link.{Overlap, Link, tops, turned}
use Rattle.fork.proofs.Ends.{top_is}
use Rattle.fork.proofs.Links.{low_back}
use Rattle.groups.specs.Groups.{pointed}
use Rattle.groups.specs.declared.Groups.{Groups}
use Rattle.links.specs.Inside.{Closed, Sound, StillClosed, Outcome, obeyed, unkept, Tieable}
use Rattle.links.specs.declared.Tear.{Tear}
use Rattle.links.proofs.Closing.{closed_turned, closed_odd, closed_same, closed_after}
use Rattle.fork.specs.declared.Forks.{Forks}
use Rattle.meeting.specs.declared.Pairs.{Pairs}
use Rattle.meeting.specs.Inside.{kept_at, Met, KeptLine, TwoLeast, none, one, two, Meeting, MetApart}
use Rattle.meeting.specs.Facing.{Facing, Parted, Beside, KeptParted, SecondParted}
use Rattle.meeting.proofs.Staying.{apart_onward}

-- Which lines overlap

module _ {S : Tree} where
  -- (X1) two lines with lows below x that end at x or higher overlap
  pub overlap_across : {f h x : ℕ} → low S f < x → low S h < x → x ≤ high S f → x ≤ high S h → Overlap S f h
  overlap_across a b c d = record { over = omega arith; under = omega arith }

  -- (X3) a back line met before overlaps nothing met later: it ends at one height, and no later line ends higher
  pub back_overlaps_none : {c e : ℕ} → Searched S → BackLine S c → high S e ≤ end S c → Overlap S c e → ⊥
  back_overlaps_none {c} X l h o = omega (arith, o.under, low_back S X c l)

-- What was met before a line arrives

module _ {S : Tree} {b x l u : ℕ} {forks : Forks} {pairs : Pairs} {g : Groups} (m : Meeting S b x l u forks pairs g) where
  -- (X1) of what was met at one vertex no three have lows below x: they end at x or higher, so their tops would be apart in pairs
  no_three : {f h k : ℕ} → Met S forks f → Met S forks h → Met S forks k → S.source f ≡ u → S.source h ≡ u → S.source k ≡ u
      → (f ≡ h → ⊥) → (h ≡ k → ⊥) → (f ≡ k → ⊥) → low S f < x → low S h < x → low S k < x → ⊥
  no_three {f} {h} {k} mf mh mk uf uh uk fh hk fk lf lh lk =
      let pf = (m.topped f mf).no_lower in
      let ph = (m.topped h mh).no_lower in
      let pk = (m.topped k mk).no_lower in
      closed_odd (m.apart f h mf mh uf uh fh (overlap_across lf lh pf ph)) (m.apart h k mh mk uh uk hk (overlap_across lh lk ph pk))
      (m.apart f k mf mk uf uk fk (overlap_across lf lk pf pk))

  -- (X2) so one that has is the first of the two kept, or the second
  one_of_two : {l₁ t₁ l₂ t₂ : ℕ} → TwoLeast S forks u l₁ t₁ l₂ t₂ → (f : ℕ) → Met S forks f → S.source f ≡ u → low S f < x
      → ((l₁ ≡ low S f) × (t₁ ≡ top S f)) ⊎ ((l₁ ≤ l₂) × (l₂ ≡ low S f) × (t₂ ≡ top S f))
  one_of_two (none e₁ e₂ n) f mf v lf = absurd (n f mf v)
  one_of_two (one p k e₂ n) f mf v lf = let z = n f mf v in inl (k.its_low ∙ ap (low S) (sym z), k.its_top ∙ ap (top S) (sym z))
  one_of_two {l₁} {t₁} {l₂} {t₂} (two p q d k j le n) f mf v lf =
      cases (eq_or f p)
      (λ z. inl (k.its_low ∙ ap (low S) (sym z), k.its_top ∙ ap (top S) (sym z)))
      (λ fp.
      cases (eq_or f q)
      (λ z. inr (le, j.its_low ∙ ap (low S) (sym z), j.its_top ∙ ap (top S) (sym z)))
      (λ fq.
      cases (n f mf v)
      (λ z. absurd (fp z))
      (λ w.
      cases w
      (λ z. absurd (fq z))
      (λ o.
      absurd (no_three mf k.met j.met v k.leaves j.leaves fp d fq lf (omega (arith, k.its_low, o)) (omega (arith, j.its_low, o)))))))

  -- the top of a line that was met ends as high as the line
  stop_top : (f : ℕ) → Met S forks f → at forks.stop (top S f) ≡ high S f
  stop_top f mf = let r = (m.topped f mf).return in m.spans.stops (top S f) r.is_back ∙ (top_is S f (top S f) r).at_high

  -- so the line that arrives is apart from all, where it is apart from those of the two kept whose lows are below x and that end above its low
  pub met_apart : (g' : Groups) → ((kept_at pairs.first u).low < x → Parted b l (kept_at pairs.first u).top forks g')
      → ((kept_at pairs.first u).low < x → SecondParted b x l u forks pairs g') → MetApart S b x l u forks g'
  met_apart g' first second e a f mf v o =
      let h : l < at forks.stop (top S f) = omega (arith, stop_top f mf, o.over, a.its_low) in
      let lf : low S f < x = omega (arith, o.under, a.its_high) in
      cases (one_of_two m.kept f mf v lf)
      (λ q.
      subst (λ t. Closed (pointed g') t b different) q.1
      (first (omega (arith, q.0)) (subst (λ t. l < at forks.stop t) (sym q.1) h)))
      (λ q.
      subst (λ t. Closed (pointed g') t b different) q.2
      (second (omega (arith, q.0, q.1)) (omega (arith, q.1)) (subst (λ t. l < at forks.stop t) (sym q.2) h)))

  -- what is kept has a low below x, which is a height: so it is a line, and the two are a fork
  x_height : x < 512
  x_height =
      let a = m.arriving.1 in
      let t = top_is S m.arriving.0 b a.return in
      let X = m.finished.searched in
      let c = top S m.arriving.0 in
      omega (arith, X.height_small (S.target c) (X.target_in c t.return.is_back.0), t.at_high, a.its_high, m.finished.few_vertices)

  facing_line : {f l₁ t₁ : ℕ} → KeptLine S forks u l₁ t₁ f → l₁ < x → Facing S b l t₁ forks g
  facing_line {f} k h =
      let a = m.arriving.1 in
      record {
        spans = m.spans;
        sound = m.sound;
        line = m.arriving.0;
        its_top = a.its_top;
        its_low = a.its_low;
        other = f;
        other_top = sym k.its_top;
        other_return = subst (Return S f) (sym k.its_top) (m.topped f k.met).return;
        fork = record {
          first = k.met.0.0;
          second = a.line;
          one_vertex = k.leaves ∙ sym a.leaves;
          apart = λ z. m.arriving.2 (subst (Met S forks) z k.met);
        };
        under = omega (arith, k.its_low, a.its_high);
      }

  facing_one : {l₁ t₁ l₂ t₂ : ℕ} → TwoLeast S forks u l₁ t₁ l₂ t₂ → l₁ < x → Facing S b l t₁ forks g
  facing_one (none e₁ e₂ n) h = absurd (omega (arith, x_height))
  facing_one (one p k e₂ n) h = facing_line k h
  facing_one (two p q d k j le n) h = facing_line k h

  facing_two : {l₁ t₁ l₂ t₂ : ℕ} → TwoLeast S forks u l₁ t₁ l₂ t₂ → l₂ < x → Facing S b l t₂ forks g
  facing_two (none e₁ e₂ n) h = absurd (omega (arith, x_height))
  facing_two (one p k e₂ n) h = absurd (omega (arith, x_height))
  facing_two (two p q d k j le n) h = facing_line j h

  pub first_beside : Beside S b x l (kept_at pairs.first u).low (kept_at pairs.first u).top forks g
  first_beside = record { sound = m.sound; facing = facing_one m.kept }

  pub second_beside : Beside S b x l (kept_at pairs.second u).low (kept_at pairs.second u).top forks g
  second_beside = record { sound = m.sound; facing = facing_two m.kept }

  -- when more is tied, all is as it was
  pub meeting_onward : (g' : Groups) → Sound S g' → StillClosed S g g' → Meeting S b x l u forks pairs g'
  meeting_onward g' s o =
      record {
        finished = m.finished;
        spans = m.spans;
        pairs_long = m.pairs_long;
        vertex = m.vertex;
        arriving = m.arriving;
        topped = m.topped;
        kept = m.kept;
        apart = apart_onward m.topped g g' o m.apart;
        sound = s;
      }

-- What comes of it

-- a link that can't be obeyed is passed on, whatever else was to be done
pub torn_on : {S : Tree} {g h i : Groups} {done wanted : Type 0} {r : Result ⊤ Tear} {t : Tear} → Outcome S g h done (Err t) → IsErrAnd r (λ y. y ≡ t)
    → Outcome S i h wanted r
torn_on {S} {g} {h} {i} {done} {wanted} {r} {t} (unkept s k) e = rw (passed_on r e) (unkept s k)

abbrev pub FirstParted : ℕ → ℕ → ℕ → ℕ → Forks → Pairs → Groups → Type 0
FirstParted b x l u forks pairs g' = KeptParted b x l (kept_at pairs.first u).low (kept_at pairs.first u).top forks g'

pub meeting_then : {S : Tree} {b x l u : ℕ} {forks : Forks} {pairs : Pairs} {g g₁ : Groups} → Meeting S b x l u forks pairs g
    → Outcome S g g₁ (FirstParted b x l u forks pairs g₁) (Ok tt) → Meeting S b x l u forks pairs g₁
meeting_then {S} {b} {x} {l} {u} {forks} {pairs} {g} {g₁} m (obeyed s o d) = meeting_onward m g₁ s o

pub meet_both : {S : Tree} {b x l u : ℕ} {forks : Forks} {pairs : Pairs} {g g₁ g₂ : Groups} {r : Result ⊤ Tear} → Meeting S b x l u forks pairs g
    → Outcome S g g₁ (FirstParted b x l u forks pairs g₁) (Ok tt) → Outcome S g₁ g₂ (SecondParted b x l u forks pairs g₂) r
    → Outcome S g g₂ (MetApart S b x l u forks g₂) r
meet_both {S} {b} {x} {l} {u} {forks} {pairs} {g} {g₁} {g₂} m (obeyed s o d) (obeyed s' o' d') =
    let b_in = m.arriving.1.return.is_back.0.below in
    let d₂ : FirstParted b x l u forks pairs g₂ =
    λ h w. let F = (first_beside m).facing h in o' (kept_at pairs.first u).top b different F.other_return.is_back.0.below b_in (d h w) in
    obeyed s' (closed_after S g g₁ g₂ o o') (met_apart m g₂ d₂ (λ _. d'))
meet_both m (obeyed s o d) (unkept s' k) = unkept s' k

-- Two lines apart

pub part_none : {S : Tree} {b x l k c : ℕ} {forks : Forks} {g : Groups} → Beside S b x l k c forks g → (k < x → at forks.stop c ≤ l)
    → Outcome S g g (KeptParted b x l k c forks g) (Ok tt)
part_none {S} {b} {x} {l} {k} {c} {forks} {g} B h = obeyed B.sound (closed_same S g) (λ z w. let y = h z in absurd (omega arith))

module _ {S : Tree} {b l c : ℕ} {forks : Forks} {g : Groups} (F : Facing S b l c forks g) where
  -- c ends higher than l: they overlap
  pub part_link : l < at forks.stop c → Tieable S b c different g
  part_link h =
      let t = top_is S F.other c F.other_return in
      let e : end S c ≡ high S F.other = subst (λ y. end S y ≡ high S F.other) F.other_top t.at_high in
      let o : Overlap S F.other F.line =
      record { over = omega (arith, e, F.spans.stops c F.other_return.is_back, F.its_low); under = F.under } in
      record {
        link = turned (subst (λ y. Link S c y different) F.its_top (subst (λ y. Link S y (top S F.line) different) F.other_top (tops F.other F.line F.fork o)));
        small = omega arith;
        sound = F.sound;
      }

  pub part_tied : {x k : ℕ} {g' : Groups} {r : Result ⊤ Tear} → Outcome S g g' (Closed (pointed g') b c different) r → Outcome S g g' (KeptParted b x l k c forks g') r
  part_tied (obeyed s o d) = obeyed s o (λ _ _. closed_turned d)
  part_tied (unkept s k) = unkept s k
