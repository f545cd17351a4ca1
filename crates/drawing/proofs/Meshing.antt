-- From the order to the meshes: the parts of the flat order are the lists of the definition, so that the table of followers is the mesh map, and its walks
-- are the meshes.
use mathlib.Core.Bool.{Bool, true}
use mathlib.Core.List.{List, [], ◌∷◌, ◌++◌, map}
use mathlib.Core.Path.{◌≡◌, refl, sym, ◌∙◌, ap, subst}
use Prim.Native.Nat.{ℕ, zero, suc, ◌+◌, ◌*◌, ◌/◌, ◌≤◌, ◌<◌}
use native.Mathlib.Numerals.{add-one}
use native.Mathlib.Omega.{arith}
use lib.ListN.{length, get_or, take, drop}
use lib.Seq.{take-append-le, take-length, take-take, take-suc, drop-append_seam, slice}
use borrow.Author.Tests.{eq-eqb, ne_eqb}
use Rattle.laws.specs.Tests.{both}
use Rattle.laws.specs.Counting.{many, count}
use Rattle.laws.specs.Lists.{from, upto, at}
use Rattle.laws.specs.Orbits.{walk_number, walks}
use Rattle.laws.proofs.Cases.{cases, lt_or}
use Rattle.laws.proofs.Counting.{count_same, count_all}
use Rattle.laws.proofs.Orbits.{In, Turn, number_below}
use Rattle.laws.proofs.Agreeing.{turn_agree, number_agree, walks_agree}
use Rattle.laws.proofs.Places.{from_snoc}
use Rattle.network.specs.Network.{Network, network, network_of}
use Rattle.network.specs.Inside.{Fit}
use Rattle.tree.specs.Tree.{Tree}
use Rattle.meshes.specs.Meshes.{other_way, leave_by, follow, turned, next_direction, either_way, mesh_of, mesh_count, borders, mesh_size, mesh_list, size_list}
use Rattle.meshes.specs.Inside.{every, Whole, order_in, Laid, Linked, Numberable, Numbered, on_mesh, Meshed, Sized}
use Rattle.meshes.proofs.Directions.{other_way_below}
use Rattle.meshes.proofs.Turning.{turn}
use Rattle.clockwise.specs.Order.{order_at, flat}
use Rattle.clockwise.specs.Laying.{LaidOut}
use Rattle.clockwise.proofs.Flat.{flat_next, flat_rises, flat_full}
use Rattle.fork.specs.declared.Forks.{Forks}
use Rattle.drawing.specs.Drawing.{Sketchable, Drawn}

-- a list by its places
take_map : (f : ℕ → ℕ) (k : ℕ) (l : List ℕ) → k ≤ length l → ((i : ℕ) → i < k → get_or l i 0 ≡ f i) → take k l ≡ map f (upto k)
unfolding from
take_map f zero l h e = refl
take_map f (suc k) l h e =
    take-suc l k 0 h
    ∙ ap (λ (w : List ℕ). w ++ (get_or l k 0 ∷ [])) (take_map f k l (omega arith) (λ i g. e i (omega arith)))
    ∙ ap (λ (x : ℕ). map f (upto k) ++ (x ∷ [])) (e k (omega arith))
    ∙ sym (ap (map f) (from_snoc 0 k) ∙ map_append (upto k) ((0 + k) ∷ []) ∙ ap (λ (x : ℕ). map f (upto k) ++ (f x ∷ [])) (let z : 0 + k ≡ k = omega arith in z))
  where
    map_append : (a b : List ℕ) → map f (a ++ b) ≡ map f a ++ map f b
    map_append [] b = refl
    map_append (x ∷ a) b = ap (λ (w : List ℕ). f x ∷ w) (map_append a b)

module _ (n : ℕ) (list : ℕ → List ℕ) (order starts : List ℕ) (L : LaidOut n list order starts) where
  -- the flat order of fewer vertices is a part of the whole
  begins : (v k : ℕ) → v ≤ k → take (length (flat v list)) (flat k list) ≡ flat v list
  begins v zero h = let e : v ≡ 0 = omega arith in ap (λ (x : ℕ). take (length (flat x list)) (flat 0 list)) e ∙ take-length (flat 0 list) ∙ ap (λ (x : ℕ). flat x list) (sym e)
  begins v (suc k) h =
      cases (lt_or v (suc k))
      (λ g.
      ap (take (length (flat v list))) (flat_next list k)
      ∙ take-append-le (length (flat v list)) (flat k list) (list k) (flat_rises list v k (omega arith))
      ∙ begins v k (omega arith))
      (λ g. let e : v ≡ suc k = omega arith in ap (λ (x : ℕ). take (length (flat x list)) (flat (suc k) list)) e ∙ take-length (flat (suc k) list) ∙ ap (λ (x : ℕ). flat x list) (sym e))

  written_upto : (v : ℕ) → v ≤ n → take (length (flat v list)) order ≡ flat v list
  written_upto v h =
      sym (take-take (length (flat v list)) (length (flat n list)) order (flat_rises list v n h))
      ∙ ap (take (length (flat v list))) L.written
      ∙ begins v n h

  pub part_is : (v : ℕ) → v < n → order_in order starts v ≡ list v
  part_is v h =
      let a : get_or starts v 0 ≡ length (flat v list) = L.starts_at v (omega arith) in
      let b : get_or starts (v + 1) 0 ≡ length (flat (suc v) list) = ap (λ (x : ℕ). get_or starts x 0) (add-one v) ∙ L.starts_at (suc v) h in
      ap (λ (x : ℕ). slice x (get_or starts (v + 1) 0) order) a
      ∙ ap (λ (x : ℕ). drop (length (flat v list)) (take x order)) b
      ∙ ap (drop (length (flat v list))) (written_upto (suc v) h ∙ flat_next list v)
      ∙ drop-append_seam (flat v list) (list v)

mesh_number : (live : ℕ → Bool) (m : ℕ) (ends : List ℕ) (order : ℕ → List ℕ) (d : ℕ) → mesh_of live m ends order d ≡ walk_number (either_way live) (next_direction ends order) (2 * m) d
unfolding mesh_of
mesh_number live m ends order d = refl

module _ {n m : ℕ} {ends : List ℕ} (fit : Fit (network_of n m ends)) {live : ℕ → Bool} (all_live : (k : ℕ) → k < m → live k ≡ true) {list : ℕ → List ℕ}
    (whole : Whole (network_of n m ends) live list) {order starts : List ℕ} (L : LaidOut n list order starts) where
  abbrev net : Network
  net = network_of n m ends

  all_long : length (flat n list) ≡ 2 * m
  all_long = flat_full net fit live list whole all_live

  part : (v : ℕ) → v < n → order_in order starts v ≡ list v
  part = part_is n list order starts L

  pub mesh_laid : Laid (network_of n m ends) order starts
  mesh_laid =
      record {
        order_long = L.order_long;
        starts_long = L.starts_long;
        rises = λ v h. rw (L.starts_at v (omega arith), at_next v h) (flat_rises list v (suc v) (omega arith));
        inside = λ v h. omega (arith, at_next v h, flat_rises list (suc v) n h, all_long, fit.few_lines);
        whole =
            record {
              holds = λ v k h l t e. ap (many k) (part v h) ∙ whole.holds v k h l (all_live k l) e;
              only = λ v k h p. let q = whole.only v k h (subst (λ (w : List ℕ). 0 < many k w) (part v h) p) in (q.0, refl, q.2);
            };
      }
    where
      at_next : (v : ℕ) → v < n → get_or starts (v + 1) 0 ≡ length (flat (suc v) list)
      at_next v h = ap (λ (x : ℕ). get_or starts x 0) (add-one v) ∙ L.starts_at (suc v) h

  module _ {nexts : List ℕ} (K : Linked (network_of n m ends) order starts n nexts) where
    -- the table is the mesh map
    follows : (d : ℕ) → In (2 * m) (either_way live) d → next_direction ends list d ≡ at nexts d
    unfolding next_direction turned
    follows d w =
        let x = other_way d in
        let v_in : get_or ends x 0 < n = fit.ends_in x (other_way_below d m w.below) in
        sym (K.so_far d w.below v_in ∙ ap (λ (l : List ℕ). leave_by ends (get_or ends x 0) (follow l (x / 2))) (part (get_or ends x 0) v_in))

    T : Turn (2 * m) (either_way live) (next_direction ends list)
    T = turn net fit live list whole

    same_on : (d : ℕ) → d < 2 * m → either_way live d ≡ every d
    same_on d h = all_live (d / 2) (omega arith)

    a_way : (d : ℕ) → d < 2 * m → In (2 * m) (either_way live) d
    a_way d h = record { below = h; yes = same_on d h }

    pub mesh_numberable : Numberable (2 * m) nexts
    mesh_numberable =
        record {
          few = omega (arith, fit.few_lines);
          nexts_long = omega (arith, K.nexts_long, fit.few_lines);
          turn = turn_agree (2 * m) (either_way live) every (next_direction ends list) (at nexts) T same_on follows;
        }

    module _ {c : ℕ} {mesh : List ℕ} (N : Numbered (2 * m) nexts c mesh) where
      number_is : (d : ℕ) → d < 2 * m → get_or mesh d 0 ≡ mesh_of live m ends list d
      unfolding mesh_of
      number_is d h = N.given d h ∙ sym (number_agree (2 * m) (either_way live) every (next_direction ends list) (at nexts) T same_on follows d (a_way d h))

      walks_are : c ≡ walks (either_way live) (next_direction ends list) (2 * m)
      walks_are = N.counted ∙ sym (walks_agree (2 * m) (either_way live) every (next_direction ends list) (at nexts) T same_on follows)

      lines_counted : count live m ≡ m
      lines_counted = count_same live (λ k. true) m (λ k h. all_live k h) ∙ count_all m

      pub mesh_meshed : Meshed m mesh
      mesh_meshed =
          record {
            few = fit.few_lines;
            mesh_long = omega (arith, N.mesh_long, fit.few_lines);
            small = λ d h. omega (arith, number_is d h, below d h, walks_are, N.few, fit.few_lines);
          }
        where
          below : (d : ℕ) → d < 2 * m → mesh_of live m ends list d < walks (either_way live) (next_direction ends list) (2 * m)
          below d h = subst (λ (x : ℕ). x < walks (either_way live) (next_direction ends list) (2 * m)) (sym (mesh_number live m ends list d)) (number_below (2 * m) (either_way live) (next_direction ends list) T d (a_way d h))

      pub mesh_none : m ≡ 0 → 1 ≡ mesh_count live m ends list
      unfolding mesh_count
      mesh_none e = sym (rw (eq-eqb (count live m) 0 (lines_counted ∙ e)))

      pub mesh_some : (m ≡ 0 → ⊥) → c ≡ mesh_count live m ends list
      unfolding mesh_count
      mesh_some d = walks_are ∙ sym (rw (ne_eqb (count live m) 0 (λ e. d (sym lines_counted ∙ e))))

      pub meshes_listed : take (2 * m) mesh ≡ mesh_list live m ends list
      unfolding mesh_list
      meshes_listed = take_map (mesh_of live m ends list) (2 * m) mesh (omega (arith, N.mesh_long, fit.few_lines)) number_is

      module _ {sizes : List ℕ} (Z : Sized m mesh sizes) where
        size_is : (j : ℕ) → j < 4097 → get_or sizes j 0 ≡ mesh_size live m ends list j
        unfolding mesh_size borders on_mesh both
        size_is j h =
            Z.sizes_are j h
            ∙ count_same (on_mesh mesh j) (borders live m ends list j) m
            (λ k g. rw (all_live k g, number_is (2 * k) (omega arith), number_is (2 * k + 1) (omega arith)))

        pub sizes_listed : {count : ℕ} → count ≡ mesh_count live m ends list → count ≤ 4097 → take count sizes ≡ size_list live m ends list
        unfolding size_list
        sizes_listed {count} e few =
            take_map (mesh_size live m ends list) count sizes (omega (arith, Z.sizes_long)) (λ j h. size_is j (omega arith))
            ∙ ap (λ (k : ℕ). map (mesh_size live m ends list) (upto k)) e

-- The whole drawing

module _ {S : Tree} {n : ℕ} {ends parents : List ℕ} {forks : Forks} {choice : List ℕ} (P : Sketchable S n ends parents forks choice) where
  abbrev m : ℕ
  m = length ends / 2

  all_live : (k : ℕ) → k < length ends / 2 → S.live k ≡ true
  all_live k h = (P.orderable.finished.every k (omega (arith, P.orderable.same_lines))).yes

  module _ {order starts : List ℕ} (L : LaidOut n (order_at S (at choice)) order starts) where
    pub drawn_laid : Laid (network n ends) order starts
    drawn_laid = mesh_laid P.fits all_live P.whole L

    module _ {nexts : List ℕ} (K : Linked (network n ends) order starts n nexts) where
      pub drawn_numberable : Numberable (2 * (length ends / 2)) nexts
      drawn_numberable = mesh_numberable P.fits all_live P.whole L K

      module _ {c : ℕ} {mesh : List ℕ} (N : Numbered (2 * (length ends / 2)) nexts c mesh) where
        pub drawn_meshed : Meshed (length ends / 2) mesh
        drawn_meshed = mesh_meshed P.fits all_live P.whole L K N

        module _ {sizes : List ℕ} (Z : Sized (length ends / 2) mesh sizes) where
          drawn : (count : ℕ) → count ≤ 2 * (length ends / 2) + 1 → count ≡ mesh_count S.live (length ends / 2) ends (order_at S (at choice)) → Drawn S n ends choice order count mesh sizes
          drawn count few e =
              let F = P.fits in
              record {
                order_long = L.order_long;
                mesh_long = N.mesh_long;
                sizes_long = Z.sizes_long;
                count_few = few;
                order_is =
                    subst (λ (k : ℕ). take k order ≡ flat n (order_at S (at choice)))
                    (flat_full (network n ends) F S.live (order_at S (at choice)) P.whole all_live) L.written;
                count_is = e;
                mesh_is = meshes_listed F all_live P.whole L K N;
                sizes_are = sizes_listed F all_live P.whole L K N Z e (omega (arith, F.few_lines));
              }

          pub drawn_lone : length ends / 2 ≡ 0 → Drawn S n ends choice order 1 mesh sizes
          drawn_lone e = drawn 1 (omega arith) (mesh_none P.fits all_live P.whole L K N e)

          pub drawn_some : (length ends / 2 ≡ 0 → ⊥) → Drawn S n ends choice order c mesh sizes
          drawn_some d = drawn c (omega (arith, N.few)) (mesh_some P.fits all_live P.whole L K N d)
