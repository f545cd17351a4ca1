-- `visit` meets its contract: the loop keeps `Going`, and at each call of itself the unfound vertices and the unused lines are fewer.
use mathlib.Core.Path.{refl}
use native.Mathlib.Omega.{arith}
use Rattle.search.proofs.Going.{visit_half, visit_start, visit_done, visit_further, visit_skip, visit_room, visit_back, visit_enter, visit_in, visit_less, visit_deep}
use Rattle.search.proofs.visits.+visit.Goals as goal

pub offset_bounds-chains-v : goal.offset_bounds-chains-v
offset_bounds-chains-v t c = let a = c.requires.some_count.asked in omega (arith, a.fit.few_vertices, a.ready.here)

pub bounds-chains-v : goal.bounds-chains-v
bounds-chains-v t c = let a = c.requires.some_count.asked in omega (arith, a.fit.few_vertices, a.ready.here)

pub loop-h-init : goal.loop-h-init
loop-h-init t c = λ n a. visit_start c.requires.chained a _ refl

pub offset_bounds-chains-h : goal.offset_bounds-chains-h
offset_bounds-chains-h t c = let a = c.requires.some_count.asked in omega (arith, a.fit.few_lines, a.fit.ends_long)

pub bounds-chains-h : goal.bounds-chains-h
bounds-chains-h t c = let a = c.requires.some_count.asked in omega (arith, a.fit.few_lines, a.fit.ends_long)

pub far-w-requires : goal.far-w-requires
far-w-requires t c = visit_half _ _ c.requires.some_count.asked.fit _ c.loop-h-test.true

pub bounds-finds-w : goal.bounds-finds-w
bounds-finds-w t c = visit_room c.requires.chained c.requires.some_count.asked (c.loop-h.invariant _ c.requires.some_count.asked) c.loop-h-test.true refl c.if-finds-k-eq-UNUSED.true c.far-w.ensures

pub enter-requires : goal.enter-requires
enter-requires t c = visit_enter c.requires.chained c.requires.some_count.asked (c.loop-h.invariant _ c.requires.some_count.asked) c.loop-h-test.true refl c.if-finds-k-eq-UNUSED.true c.far-w.ensures c.if-finds-w-eq0.true

pub visit-requires : goal.visit-requires
visit-requires t c = (
  omega (arith, visit_less c.requires.chained c.requires.some_count.asked (c.loop-h.invariant _ c.requires.some_count.asked) c.loop-h-test.true refl c.if-finds-k-eq-UNUSED.true c.far-w.ensures c.if-finds-w-eq0.true c.enter.ensures, c.decreases),
  (
    c.requires.chained,
    record {
      count = c.requires.some_count.count;
      asked = record { fit = c.requires.some_count.asked.fit; ready = visit_in c.requires.chained c.requires.some_count.asked (c.loop-h.invariant _ c.requires.some_count.asked) c.loop-h-test.true refl c.if-finds-k-eq-UNUSED.true c.far-w.ensures c.if-finds-w-eq0.true c.enter.ensures };
    },
  ),
)

pub loop-h-smaller-then-finds-w-eq0 : goal.loop-h-smaller-then-finds-w-eq0
loop-h-smaller-then-finds-w-eq0 t c = visit_further c.requires.chained c.requires.some_count.asked (c.loop-h.invariant _ c.requires.some_count.asked) c.loop-h-test.true refl

pub loop-h-preserved-then-finds-w-eq0 : goal.loop-h-preserved-then-finds-w-eq0
loop-h-preserved-then-finds-w-eq0 t c =
    λ n a.
    visit_deep c.requires.chained a (c.loop-h.invariant n a) c.loop-h-test.true refl c.if-finds-k-eq-UNUSED.true c.far-w.ensures c.if-finds-w-eq0.true c.enter.ensures
    (c.visit.ensures n (record { fit = a.fit; ready = visit_in c.requires.chained a (c.loop-h.invariant n a) c.loop-h-test.true refl c.if-finds-k-eq-UNUSED.true c.far-w.ensures c.if-finds-w-eq0.true c.enter.ensures }))

pub loop-h-smaller-else-finds-w-eq0 : goal.loop-h-smaller-else-finds-w-eq0
loop-h-smaller-else-finds-w-eq0 t c = visit_further c.requires.chained c.requires.some_count.asked (c.loop-h.invariant _ c.requires.some_count.asked) c.loop-h-test.true refl

pub loop-h-preserved-else-finds-w-eq0 : goal.loop-h-preserved-else-finds-w-eq0
loop-h-preserved-else-finds-w-eq0 t c = λ n a. visit_back c.requires.chained a (c.loop-h.invariant n a) c.loop-h-test.true refl c.if-finds-k-eq-UNUSED.true c.far-w.ensures c.if-finds-w-eq0.false

pub loop-h-smaller : goal.loop-h-smaller
loop-h-smaller t c = visit_further c.requires.chained c.requires.some_count.asked (c.loop-h.invariant _ c.requires.some_count.asked) c.loop-h-test.true refl

pub loop-h-preserved : goal.loop-h-preserved
loop-h-preserved t c = λ n a. visit_skip c.requires.chained a (c.loop-h.invariant n a) c.loop-h-test.true refl c.if-finds-k-eq-UNUSED.false

pub returns : goal.returns
returns t c = λ n a. visit_done c.requires.chained a (c.loop-h.invariant n a) c.loop-h-test.false
