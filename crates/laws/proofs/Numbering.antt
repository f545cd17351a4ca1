-- A loop that numbers the walks of an injective map: what holds between two walks, and inside one; one lemma for each move of the loop.
use mathlib.Core.Path.{◌≡◌, sym, ◌∙◌, ap, subst}
use mathlib.Core.Bool.{Bool, true, false}
use mathlib.Core.Logic.{◌⊎◌, inr}
use Prim.Native.Nat.{ℕ, suc, ◌≤◌, ◌<◌}
use native.Mathlib.Omega.{arith}
use Rattle.laws.specs.Counting.{count}
use Rattle.laws.specs.Orbits.{walk, lowest_on, leads, walk_number, walks}
use Rattle.laws.proofs.Cases.{cases, bool, true_false, eq_or, lt_or}
use Rattle.laws.proofs.Counting.{count_zero, count_yes, count_no}
use Rattle.laws.proofs.Orbits.{count_few, find, In, Turn, walk_stays, lowest_walk, leads_lowest, leads_both, leads_new, number_below, meets_start, all_met}

-- the table t is the table s, with c at x
pub record Put (s t : ℕ → ℕ) (x c : ℕ) : Type 0 where
  pub here : t x ≡ c
  pub else : (y : ℕ) → (y ≡ x → ⊥) → t y ≡ s y

module _ (n : ℕ) (on : ℕ → Bool) (f : ℕ → ℕ) (none : ℕ) where
  -- the walks with a lowest below d have their numbers
  pub record Done (d c : ℕ) (t : ℕ → ℕ) : Type 0 where
    pub counted : c ≡ count (leads on f n) d
    pub given : (x : ℕ) → In n on x → lowest_on f n x < d → t x ≡ walk_number on f n x
    pub free : (x : ℕ) → In n on x → d ≤ lowest_on f n x → t x ≡ none

  -- .. and k steps of d's walk
  pub record Going (d c k : ℕ) (t : ℕ → ℕ) : Type 0 where
    pub leader : lowest_on f n d ≡ d
    pub counted : c ≡ count (leads on f n) d
    pub given : (x : ℕ) → In n on x → lowest_on f n x < d → t x ≡ walk_number on f n x
    pub made : (i : ℕ) → i < k → t (walk f i d) ≡ c
    pub free : (x : ℕ) → In n on x → d ≤ lowest_on f n x → ((i : ℕ) → i < k → walk f i d ≡ x → ⊥) → t x ≡ none
    pub fresh : (i j : ℕ) → i < j → j < k → walk f i d ≡ walk f j d → ⊥

  module _ (T : Turn n on f) (big : n ≤ none) where
    walks_few : walks on f n ≤ n
    walks_few = count_few (leads on f n) n

    number_none : (x : ℕ) → In n on x → walk_number on f n x ≡ none → ⊥
    number_none x h e = omega (arith, number_below n on f T x h, walks_few)

    pub start : (t : ℕ → ℕ) → ((x : ℕ) → In n on x → t x ≡ none) → Done 0 0 t
    start t a = record { counted = sym (count_zero (leads on f n)); given = λ x h l. omega arith; free = λ x h l. a x h }

    pub begin : {d c : ℕ} {t : ℕ → ℕ} → Done d c t → In n on d → t d ≡ none → Going d c 0 t
    begin {d} {c} {t} D h e =
        record {
          leader = leads_new n on f T d (λ l. number_none d h (sym (D.given d h l) ∙ e));
          counted = D.counted;
          given = D.given;
          made = λ i l. absurd (omega arith);
          free = λ x hx l u. D.free x hx l;
          fresh = λ i j l g e. omega arith;
        }

    pub go_on : {d c k : ℕ} {s t : ℕ → ℕ} → Going d c k s → In n on d → s (walk f k d) ≡ none → Put s t (walk f k d) c → Going d c (suc k) t
    go_on {d} {c} {k} {s} {t} G h e P =
        record {
          leader = G.leader;
          counted = G.counted;
          given = λ x hx l. P.else x (λ q. let z : lowest_on f n x ≡ d = ap (lowest_on f n) q ∙ lowest_walk n on f T k d h ∙ G.leader in omega arith) ∙ G.given x hx l;
          made = λ i l. cases (lt_or i k)
              (λ g. P.else (walk f i d) (new i g) ∙ G.made i g)
              (λ g. let q : i ≡ k = omega arith in ap (λ j. t (walk f j d)) q ∙ P.here);
          free = λ x hx l u. P.else x (λ q. u k (omega arith) (sym q)) ∙ G.free x hx l (λ i g. u i (omega arith));
          fresh = λ i j l g. cases (lt_or j k)
              (λ y. G.fresh i j l y)
              (λ y q. let z : j ≡ k = omega arith in new i (omega arith) (q ∙ ap (λ m. walk f m d) z));
        }
      where
        new : (i : ℕ) → i < k → walk f i d ≡ walk f k d → ⊥
        new i l q = number_none d h (ap (count (leads on f n)) G.leader ∙ sym G.counted ∙ sym (G.made i l) ∙ ap s q ∙ e)

    pub finish : {d c k : ℕ} {t : ℕ → ℕ} → Going d c (suc k) t → In n on d → (t (walk f (suc k) d) ≡ none → ⊥) → (walk f (suc k) d ≡ d) × Done (suc d) (suc c) t
    finish {d} {c} {k} {t} G h e = (back, record { counted = sym (count_yes (leads on f n) d lead ∙ ap suc (sym G.counted)); given = given; free = free })
      where
        lead : leads on f n d ≡ true
        lead = subst (λ x. leads on f n x ≡ true) G.leader (leads_lowest n on f T d h)

        back : walk f (suc k) d ≡ d
        back =
            cases (find (λ i. walk f i d ≡ walk f (suc k) d) (λ i. eq_or _ _) (suc k))
            (λ r. meets_start n on f T (λ x. ⊥) (λ x hx m. m) d (suc k) h (λ m. m) G.fresh (inr r))
            (λ u. absurd (e (G.free (walk f (suc k) d) (walk_stays n on f T (suc k) d h) (let z = lowest_walk n on f T (suc k) d h in omega (arith, G.leader)) u)))

        given : (x : ℕ) → In n on x → lowest_on f n x < suc d → t x ≡ walk_number on f n x
        given x hx l =
            cases (lt_or (lowest_on f n x) d)
            (λ g. G.given x hx g)
            (λ g.
            let z : lowest_on f n x ≡ d = omega arith in
            let r = all_met n on f T d k x h hx back (z ∙ sym G.leader) in
            ap t (sym r.2) ∙ G.made r.0 r.1 ∙ G.counted ∙ ap (count (leads on f n)) (sym z))

        free : (x : ℕ) → In n on x → suc d ≤ lowest_on f n x → t x ≡ none
        free x hx l = G.free x hx (omega arith) (λ i g q. let z : lowest_on f n x ≡ d = ap (lowest_on f n) (sym q) ∙ lowest_walk n on f T i d h ∙ G.leader in omega arith)

    pub pass : {d c : ℕ} {t : ℕ → ℕ} → Done d c t → d < n → ((on d ≡ false) ⊎ (t d ≡ none → ⊥)) → Done (suc d) c t
    pass {d} {c} {t} D h e =
        record {
          counted = D.counted ∙ sym (count_no (leads on f n) d idle);
          given = λ x hx l. cases (lt_or (lowest_on f n x) d)
              (λ g. D.given x hx g)
              (λ g. let z : lowest_on f n x ≡ d = omega arith in true_false (subst (λ y. leads on f n y ≡ true) z (leads_lowest n on f T x hx)) idle);
          free = λ x hx l. D.free x hx (omega arith);
        }
      where
        idle : leads on f n d ≡ false
        idle =
            cases (bool (leads on f n d))
            (λ y.
            let l = leads_both n on f T d y in
            cases e
            (λ o. true_false l.0 o)
            (λ o. absurd (o (D.free d (record { below = h; yes = l.0 }) (omega (arith, l.1))))))
            (λ y. y)
