-- A back line's turn. What it passed before it stopped has it as its bottom, for it is the first to pass it; what it would have passed further down has
-- its bottom already, for the line that stopped it passes all that; and it is tied to every bottom that ends as low and that it is a return with.
use mathlib.Core.List.{List}
use mathlib.Core.Logic.{◌⊎◌, inl, inr, ◌≢◌}
use mathlib.Core.Path.{◌≡◌, sym, ◌∙◌, ap, subst}
use Prim.Native.Nat.{ℕ, suc, ◌+◌, ◌≤◌, ◌<◌}
use native.Mathlib.Omega.{arith}
use Rattle.std.specs.Prelude.{Result, Ok, ⊤}
use Rattle.laws.specs.Lists.{at}
use Rattle.laws.proofs.Cases.{cases, bool, eq_or, lt_or, true_false}
use Rattle.network.specs.Marks.{absent}
use Rattle.side.specs.Sides.{same}
use Rattle.tree.specs.Tree.{Tree}
use Rattle.tree.specs.Returns.{end}
use Rattle.tree.specs.Words.{TreeLine, BackLine, Above, Return}
use Rattle.tree.specs.Searched.{Searched}
use Rattle.tree.proofs.Returns.{low_least}
use Rattle.fork.specs.Ends.{Lowest, bottom}
use Rattle.fork.specs.Link.{Link, to_bottom}
use Rattle.fork.proofs.Ends.{bottom_is}
use Rattle.groups.specs.Groups.{pointed}
use Rattle.groups.specs.declared.Groups.{Groups}
use Rattle.links.specs.Inside.{Closed, StillClosed, Outcome, obeyed, unkept, Tieable}
use Rattle.links.specs.declared.Tear.{Tear}
use Rattle.links.proofs.Closing.{closed_then, closed_same}
use Rattle.fork.specs.declared.Forks.{Forks}
use Rattle.spans.specs.declared.Jumps.{Jumps}
use Rattle.rising.specs.Inside.{RisesBefore, Stands, Raised, Sunk, Settleable}
use Rattle.rising.proofs.Passing.{line_up, passes, passed_by, passes_below, first_bottom}

module _ {S : Tree} {b : ℕ} {heights : List ℕ} {jumps : Jumps} {forks : Forks} {bottoms : List ℕ} {g : Groups} (s : Settleable S b heights jumps forks bottoms g) where
  X : Searched S
  X = s.sinkable.finished.searched

  back_line : BackLine S b
  back_line = s.sinkable.back_line

  few : S.lines ≤ 2048
  few = s.sinkable.finished.few_lines

  earlier_low : (c : ℕ) → RisesBefore S (end S b) b c → end S c ≤ end S b
  earlier_low c p = cases p (λ h. omega arith) (λ q. omega (arith, q.0))

  earlier_apart : (c : ℕ) → RisesBefore S (end S b) b c → b ≡ c → ⊥
  earlier_apart c p e = let q : end S b ≡ end S c = ap (end S) e in cases p (λ h. omega arith) (λ z. omega (arith, z.1))

  -- what is not earlier comes after b, or is b
  later : (c : ℕ) → (RisesBefore S (end S b) b c → ⊥) → (end S b < end S c) ⊎ ((end S b ≡ end S c) × (b ≤ c))
  later c n =
      cases (lt_or (end S b) (end S c))
      inl
      (λ h.
      cases (lt_or (end S c) (end S b))
      (λ k. absurd (n (inl k)))
      (λ k.
      let e : end S c ≡ end S b = omega arith in
      cases (lt_or c b) (λ z. absurd (n (inr (e, z)))) (λ z. inr (sym e, z))))

  next_cases : (c : ℕ) → RisesBefore S (end S b) (b + 1) c → RisesBefore S (end S b) b c ⊎ (c ≡ b)
  next_cases c p =
      cases p (λ h. inl (inl h)) (λ q. cases (eq_or c b) inr (λ d. let d' : c ≢ b = d in inl (inr (q.0, omega (arith, q.1)))))

  next_more : (c : ℕ) → RisesBefore S (end S b) b c → RisesBefore S (end S b) (b + 1) c
  next_more c p = cases p inl (λ q. inr (q.0, omega (arith, q.1)))

  next_own : (c : ℕ) → c ≡ b → RisesBefore S (end S b) (b + 1) c
  next_own c e = inr (ap (end S) e, omega arith)

  no_line : (f c : ℕ) → Return S f c → c ≡ absent → ⊥
  no_line f c r e = let h = few in omega (arith, r.is_back.0.below)

  module _ {bottoms' : List ℕ} {c : ℕ} (k : Sunk S b bottoms bottoms' c) where
    -- a line that it passed before it stopped: nothing stood there, and it is the bottom
    own : (u : ℕ) → u < S.vertices → 0 < S.height u → Above S u (S.source b) → S.height k.stop < S.height u
        → Return S (S.parent u) b × (b ≡ bottom S (S.parent u))
    own u i h a o =
        let r = passes S X u b i back_line a (omega (arith, k.way.over)) in
        let was = (k.way.passed u i a o).0 in (
          r,
          cases (s.raised.each u i h)
              (λ q. first_bottom S (S.parent u) b r (λ d rd. later d (q.1 d rd)))
              (λ q. absurd (no_line _ _ q.1 was)),
        )

    -- the line that stopped it
    module _ (is_c : c ≡ at bottoms k.stop) (some : c ≡ absent → ⊥) (over : suc (end S b) < S.height k.stop) where
      met : (c ≡ bottom S (S.parent k.stop)) × Return S (S.parent k.stop) c × RisesBefore S (end S b) b c
      met =
          cases (s.raised.each k.stop k.way.inside (omega arith))
          (λ q. absurd (some (is_c ∙ q.0)))
          (λ q. (is_c ∙ q.0, subst (λ x. Return S (S.parent k.stop) x) (sym is_c) q.1, subst (λ x. RisesBefore S (end S b) b x) (sym is_c) q.2))

      -- (P3) .. passes whatever b would have passed from there on
      met_passes : (u : ℕ) → u < S.vertices → 0 < S.height u → S.height u ≤ S.height k.stop → Return S (S.parent u) b → Return S (S.parent u) c
      met_passes u i h o r =
          passes_below S X u k.stop b c i h k.way.inside (omega arith) k.way.on_way o r met.1 (earlier_low c met.2)

      -- where it ends as low as b, the two are lowest returns of the line at which b stopped
      met_link : end S c ≡ end S b → Link S b c same
      met_link e =
          let f = S.parent k.stop in
          let l = (X.parent k.stop k.way.inside (omega arith)).0 in
          let r = passes S X k.stop b k.way.inside back_line k.way.on_way over in
          let z : end S c ≡ end S (bottom S f) = ap (end S) met.0 in
          subst (λ x. Link S b x same) (sym met.0)
          (to_bottom f b l (record { return = r; at_low = omega (arith, (bottom_is S f b r).at_low) })
          (λ q. earlier_apart c met.2 (q ∙ sym met.0)))

    -- Each table after the turn

    on_way : (u : ℕ) → u < S.vertices → 0 < S.height u
        → (Above S u (S.source b) × (S.height k.stop < S.height u)) ⊎ (Above S u (S.source b) → S.height k.stop < S.height u → ⊥)
    on_way u i h =
        cases (bool (S.above u (S.source b)))
        (λ a. cases (lt_or (S.height k.stop) (S.height u)) (λ o. inl (a, o)) (λ o. inr (λ z y. omega arith)))
        (λ n. inr (λ z y. true_false z n))

    stands : (u : ℕ) → u < S.vertices → 0 < S.height u → Stands S (end S b) (b + 1) (S.parent u) (at bottoms' u)
    stands u i h =
        cases (on_way u i h)
        (λ q.
        let o = own u i h q.0 q.1 in
        let new = (k.way.passed u i q.0 q.1).1 in
        inr (new ∙ o.1, subst (λ x. Return S (S.parent u) x) (sym new) o.0, next_own _ new))
        (λ n.
        subst (λ x. Stands S (end S b) (b + 1) (S.parent u) x) (sym (k.way.others u i n))
        (cases (s.raised.each u i h)
        (λ q. inl (q.0, λ d r p. cases (next_cases d p) (λ p'. q.1 d r p') (λ e. never u i h n q.1 (subst (λ x. Return S (S.parent u) x) e r))))
        (λ q. inr (q.0, q.1, next_more _ q.2))))
      where
        -- a line that it did not come to, and that has no bottom, it would not have passed
        never : (u : ℕ) → u < S.vertices → 0 < S.height u → (Above S u (S.source b) → S.height k.stop < S.height u → ⊥)
            → ((d : ℕ) → Return S (S.parent u) d → RisesBefore S (end S b) b d → ⊥) → Return S (S.parent u) b → ⊥
        never u i h n none r =
            let p = passed_by S X u b i h r in
            cases (lt_or (S.height k.stop) (S.height u))
            (λ o. n p.0 o)
            (λ o.
            cases k.why
            (λ q. omega (arith, q.1, p.1))
            (λ q. none c (met_passes q.0 q.1 q.2 u i h o r) (met q.0 q.1 q.2).2))

    -- (P4) a lowest return is tied to the bottom. If b is not the bottom of f it stopped above f or at it, at c; c ends as low, since it is a return
    -- of f too; so the two are tied, and c was tied to the bottom of f before.
    module _ (g' : Groups) (onward : StillClosed S g g') (tied : (c ≡ absent → ⊥) → end S c ≡ end S b → Closed (pointed g') b c 0) where
      older : (f d : ℕ) → TreeLine S f → Lowest S f d → RisesBefore S (end S b) b d → (d ≡ bottom S f → ⊥) → Closed (pointed g') d (bottom S f) 0
      older f d t l p n =
          onward d (bottom S f) 0 l.return.is_back.0.below (bottom_is S f d l.return).return.is_back.0.below (s.raised.lowest f d t l p n)

      up_to : (u : ℕ) → u < S.vertices → 0 < S.height u → TreeLine S (S.parent u) → Lowest S (S.parent u) b → (b ≡ bottom S (S.parent u) → ⊥)
          → Closed (pointed g') b (bottom S (S.parent u)) 0
      up_to u i h t l n =
          let p = passed_by S X u b i h l.return in
          cases (lt_or (S.height k.stop) (S.height u))
          (λ o. absurd (n (own u i h p.0 o).1))
          (λ o.
          cases k.why
          (λ q. absurd (omega (arith, q.1, p.1)))
          (λ q.
          let m = met q.0 q.1 q.2 in
          let r = met_passes q.0 q.1 q.2 u i h o l.return in
          let e : end S c ≡ end S b = omega (arith, low_least S (S.parent u) c r, earlier_low c m.2, l.at_low) in
          let near = tied q.1 e in
          cases (eq_or c (bottom S (S.parent u)))
          (λ z. subst (λ x. Closed (pointed g') b x 0) z near)
          (λ d. closed_then 0 near (older (S.parent u) c t (record { return = r; at_low = e ∙ l.at_low }) m.2 d))))

      raised_next : Raised S (end S b) (b + 1) bottoms' g'
      raised_next =
          record {
            long = k.way.long;
            each = stands;
            lowest = λ f d t l p n.
                cases (next_cases d p)
                (λ p'. older f d t l p' n)
                (λ e.
                let q = line_up S X f t in
                rw e
                (subst (λ x. Closed (pointed g') b (bottom S x) 0) q.2
                (up_to (S.target f) q.0 q.1 (subst (λ x. TreeLine S x) (sym q.2) t)
                (subst (λ x. Lowest S x b) (sym q.2) (subst (λ x. Lowest S f x) e l))
                (λ z. n (e ∙ z ∙ ap (bottom S) q.2)))));
          }

    -- The three ways in which the turn ends

    pub settled_alone : c ≡ absent → Outcome S g g (Raised S (end S b) (b + 1) bottoms' g) (Ok tt)
    settled_alone e = obeyed s.sound (closed_same S g) (raised_next g (closed_same S g) (λ d z. absurd (d e)))

    module _ (some : c ≡ absent → ⊥) where
      stopped : (c ≡ bottom S (S.parent k.stop)) × Return S (S.parent k.stop) c × (suc (end S b) < S.height k.stop) × (c ≡ at bottoms k.stop)
      stopped = cases k.why (λ q. absurd (some q.0)) (λ q. let m = met q.0 q.1 q.2 in (m.0, m.1, q.2, q.0))

      stop_c : at forks.stop c ≡ end S c
      stop_c = s.sinkable.spans.stops c stopped.1.is_back

      stop_b : at forks.stop b ≡ end S b
      stop_b = s.sinkable.spans.stops b back_line

      pub settled_lower : (at forks.stop c ≡ at forks.stop b → ⊥) → Outcome S g g (Raised S (end S b) (b + 1) bottoms' g) (Ok tt)
      settled_lower d =
          obeyed s.sound (closed_same S g) (raised_next g (closed_same S g) (λ _ z. absurd (d (stop_c ∙ z ∙ sym stop_b))))

      module _ (level : at forks.stop c ≡ at forks.stop b) where
        pub settled_tieable : Tieable S b c same g
        settled_tieable =
            record {
              link = met_link stopped.3 some stopped.2 (sym stop_c ∙ level ∙ stop_b);
              small = omega arith;
              sound = s.sound;
            }

        pub settled_tied : {g' : Groups} {r : Result ⊤ Tear} → Outcome S g g' (Closed (pointed g') b c 0) r
            → Outcome S g g' (Raised S (end S b) (b + 1) bottoms' g') r
        settled_tied {g'} (obeyed sound onward closed) = obeyed sound onward (raised_next g' onward (λ _ _. closed))
        settled_tied (unkept sound torn) = unkept sound torn
