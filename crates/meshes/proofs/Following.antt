-- One walk of the mesh map, from its lowest direction until it is back: what is marked so far is the walk, and what was marked before is not on it.
use mathlib.Core.List.{List}
use mathlib.Core.Logic.{inr}
use mathlib.Core.Path.{◌≡◌, refl, sym, ◌∙◌, ap, subst}
use Prim.Native.Nat.{ℕ, zero, suc, ◌+◌, ◌≤◌, ◌<◌}
use native.Mathlib.Numerals.{add-one}
use native.Mathlib.Omega.{arith}
use lib.ListN.{length, get_or, set, take, replicate, length-set, length-replicate, get_or-replicate}
use lib.Seq.{get_or-set_same, get_or-set_other}
use Rattle.laws.specs.Counting.{many}
use Rattle.laws.specs.Orbits.{walk, leads}
use Rattle.laws.specs.Lists.{at}
use Rattle.laws.proofs.Counting.{many_take_set}
use Rattle.laws.proofs.Orbits.{count_few, walk_end, walk_stays, lowest_under, In}
use Rattle.laws.proofs.Numbering.{Put, Done, Going, start, begin, go_on, finish, pass}
use Rattle.network.specs.Marks.{absent}
use Rattle.meshes.specs.Inside.{every, Numberable, Numbered, Followable, Followed}

-- x is on the walk from d, which is marked up to x
pub record Following (n d c : ℕ) (nexts mesh : List ℕ) (x : ℕ) : Type 0 where
  pub mesh_long : length mesh ≡ 4096
  pub here_in : x < n
  pub small : c < 4096
  pub steps : ℕ
  pub here : walk (at nexts) steps d ≡ x
  pub going : Going n every (at nexts) absent d c steps (at mesh)

module _ (n d c : ℕ) (nexts : List ℕ) (N : Numberable n nexts) where
  abbrev f : ℕ → ℕ
  f = at nexts

  big : n ≤ absent
  big = omega (arith, N.few)

  in_all : (x : ℕ) → x < n → In n every x
  in_all x h = record { below = h; yes = refl }

  pub following_start : (mesh : List ℕ) → Followable n d c nexts mesh → Following n d c nexts mesh d
  unfolding walk
  following_start mesh F =
      record {
        mesh_long = F.mesh_long;
        here_in = F.start_in;
        small = omega (arith, F.done.counted, count_few (leads every f n) d, F.start_in, N.few);
        steps = 0;
        here = refl;
        going = begin n every f absent N.turn big F.done (in_all d F.start_in) F.fresh;
      }

  module _ (mesh₀ mesh : List ℕ) (x : ℕ) (F : Followable n d c nexts mesh₀) (G : Following n d c nexts mesh x) where
    put : Put (at mesh) (at (set mesh x c)) x c
    put =
        record {
          here = get_or-set_same mesh x c 0 (omega (arith, G.mesh_long, G.here_in, N.few));
          else = λ y e. get_or-set_other mesh x y c 0 e;
        }

    pub following_less : get_or mesh x 0 ≡ absent → many absent (take n (set mesh x c)) < many absent (take n mesh)
    following_less e =
        omega (arith, many_take_set absent c n mesh x (omega (arith, G.mesh_long, N.few)) G.here_in e (λ q. omega (arith, G.small)))

    pub following_more : get_or mesh x 0 ≡ absent → Following n d c nexts (set mesh x c) (get_or nexts x 0)
    following_more e =
        let k = G.steps in
        let in_d = in_all d F.start_in in
        let onward : walk f (suc k) d ≡ f x = walk_end f k d ∙ ap f G.here in
        record {
          mesh_long = length-set mesh x c ∙ G.mesh_long;
          here_in = subst (λ (y : ℕ). y < n) onward (walk_stays n every f N.turn (suc k) d in_d).below;
          small = G.small;
          steps = suc k;
          here = onward;
          going = go_on n every f absent N.turn big G.going in_d (ap (at mesh) G.here ∙ e)
              (subst (λ (y : ℕ). Put (at mesh) (at (set mesh x c)) y c) (sym G.here) put);
        }

    pub following_done : (get_or mesh x 0 ≡ absent → ⊥) → Followed n d c nexts mesh
    unfolding walk
    following_done e = go G.steps G.here G.going
      where
        go : (k : ℕ) → walk f k d ≡ x → Going n every f absent d c k (at mesh) → Followed n d c nexts mesh
        go zero h g = absurd (e (ap (at mesh) (sym h) ∙ g.free d (in_all d F.start_in) (omega (arith, g.leader)) (λ i l. absurd (omega arith))))
        go (suc k) h g =
            record {
              mesh_long = G.mesh_long;
              done = rw (add-one d, add-one c)
                  (finish n every f absent N.turn big g (in_all d F.start_in) (λ q. e (ap (at mesh) (sym h) ∙ q))).1;
            }

-- All walks

-- the walks with a lowest direction below d have their numbers
pub record Marking (n : ℕ) (nexts mesh : List ℕ) (c d : ℕ) : Type 0 where
  pub mesh_long : length mesh ≡ 4096
  pub few : c ≤ d
  pub done : Done n every (at nexts) absent d c (at mesh)

module _ (n : ℕ) (nexts : List ℕ) (N : Numberable n nexts) where
  pub marking_start : (mesh : List ℕ) → mesh ≡ replicate 4096 absent → Marking n nexts mesh 0 0
  marking_start mesh e =
      rw e
      (record {
        mesh_long = length-replicate {A = ℕ} 4096 65535;
        few = omega arith;
        done = start n every (at nexts) absent N.turn (big n 0 0 nexts N) (at (replicate {A = ℕ} 4096 65535))
            (λ x h. get_or-replicate {A = ℕ} 4096 x 65535 0 (omega (arith, N.few, h.below)));
      })

  module _ (mesh : List ℕ) (c d : ℕ) (M : Marking n nexts mesh c d) (h : d < n) where
    pub marking_more : (after : List ℕ) → Followed n d c nexts after → Marking n nexts after (c + 1) (d + 1)
    marking_more after F = record { mesh_long = F.mesh_long; few = omega (arith, M.few); done = F.done }

    pub marking_pass : (get_or mesh d 0 ≡ absent → ⊥) → Marking n nexts mesh c (d + 1)
    marking_pass e =
        record {
          mesh_long = M.mesh_long;
          few = omega (arith, M.few);
          done = rw (add-one d) (pass n every (at nexts) absent N.turn (big n 0 0 nexts N) M.done h (inr e));
        }

  pub marking_done : (mesh : List ℕ) (c d : ℕ) → Marking n nexts mesh c d → d ≤ n → n ≤ d → Numbered n nexts c mesh
  marking_done mesh c d M g h =
      let e : d ≡ n = omega arith in
      let D : Done n every (at nexts) absent n c (at mesh) = rw e at M.done in
      record {
        mesh_long = M.mesh_long;
        counted = D.counted;
        few = omega (arith, M.few);
        given = λ x l. D.given x (in_all n 0 0 nexts N x l) (omega (arith, lowest_under n every (at nexts) N.turn x));
      }
