-- `walks::leaf::measure_slice` meets its contract, for either walk.
use mathlib.Core.Path.{◌≡◌, ap, subst, ◌∙◌}
use mathlib.Core.List.{List}
use Prim.Native.Nat.{ℕ, ◌+◌}
use native.Mathlib.Omega.{arith}
use lib.ListN.{length, get_or}
use lib.Ieee.{Float, binary32}
use Rattle.shapes.specs.Values.{as_point}
use Rattle.spec_lists.proofs.Reading.{triangle_inside}
use Rattle.spec_search.specs.Marked.{below}
use Rattle.spec_search.specs.Walk.{Sought}
use Rattle.spec_search.proofs.Steps.{few_sorted}
use Rattle.spec_search.proofs.Turns.{one_more, none_remaining}
use Rattle.walks.specs.declared.answer.Measures.{Measures}
use Rattle.walks.specs.declared.answer.Probe.{Probe}
use Rattle.walks.specs.declared.answer.Measures.TheVariants.{Held, Computed}
use Rattle.walks.specs.Places.{most_of, Lent, Keeps, kept_in, Ready, sought_of, Holds}
use Rattle.walks.proofs.Slots.{sound_after}
use Rattle.walks.proofs.leaf.measure_slice.Invariants.{took}
use Rattle.walks.proofs.leaf.measure_slice.Goals as goal

as_many : (by : Measures) (triangles : List Float) (probe : Probe) (t : ℕ) (s : Keeps by) {best : List Float} {which : List ℕ} {m n : ℕ} → m ≡ n
    → Holds by best which m (took by triangles probe m t s) → Holds by best which n (took by triangles probe n t s)
as_many by triangles probe t s {best} {which} e = subst (λ (n : ℕ). Holds by best which n (took by triangles probe n t s)) e

ready_lent : (by : Measures) (best : List Float) (which : List ℕ) → Ready by best which → Lent best which
ready_lent Held best which r = r.lent
ready_lent Computed best which r = r

ready_again : (by : Measures) (triangles : List Float) (probe : Probe) (t : ℕ) (best : List Float) (which : List ℕ) (best' : List Float) (which' : List ℕ)
    → Ready by best which → Holds by best' which' (most_of which) (took by triangles probe (most_of which) t (kept_in by best which))
    → Ready by best' which'
ready_again Held triangles probe t best which best' which' r h =
    sound_after best which r best' which' _ h
    (few_sorted binary32 triangles (as_point probe.point) (most_of which) (below probe.limit) t _ r.sorted)
ready_again Computed triangles probe t best which best' which' r h = h.lent

pub measure-requires-clause-t_in_bounds : goal.measure-requires-clause-t_in_bounds
measure-requires-clause-t_in_bounds c = triangle_inside _ _ (c.requires.entries_below c.loop-t.t-index (omega arith))

pub loop-t-preserved : goal.loop-t-preserved
loop-t-preserved c =
    let a = c.args in
    let loop = c.loop-t in
    let next : a.measured + (loop.t-index + 1) ≡ a.measured + loop.t-index + 1 = omega arith in
    let measured = c.measure.ensures in
    let holds =
    as_many a.measures a.triangles.now a.probe.now (get_or a.slice.now loop.t-index 0) (kept_in a.measures loop.places.best loop.places.which)
    loop.invariant.most_is measured in record {
      ready = ready_again a.measures a.triangles.now a.probe.now (get_or a.slice.now loop.t-index 0) loop.places.best loop.places.which _ _
          loop.invariant.ready measured;
      most_is = holds.most_is;
      rest_is = one_more (took a.measures a.triangles.now a.probe.now (most_of a.places.now.which)) a.slice.now loop.t-index
          (sought_of a.measures loop.places.best loop.places.which (a.measured + loop.t-index)) _
          (sought_of a.measures a.places.now.best a.places.now.which a.measured) (omega arith)
          (λ j. record { best = holds.kept_is j; measured = next j }) loop.invariant.rest_is;
    }

pub returns : goal.returns
returns c =
    let a = c.args in
    let loop = c.loop-t in
    let all =
    none_remaining (took a.measures a.triangles.now a.probe.now (most_of a.places.now.which)) a.slice.now loop.t-index
    (sought_of a.measures loop.places.best loop.places.which (a.measured + loop.t-index))
    (sought_of a.measures a.places.now.best a.places.now.which a.measured) (omega arith) (omega arith) loop.invariant.rest_is in
    let counted : a.measured + length a.slice.now ≡ a.measured + loop.t-index = omega arith in record {
      holds = record {
        lent = ready_lent a.measures loop.places.best loop.places.which loop.invariant.ready;
        most_is = loop.invariant.most_is;
        kept_is = ap (λ (s : Sought (Keeps a.measures)). s.best) all;
      };
      measured_is = counted ∙ ap (λ (s : Sought (Keeps a.measures)). s.measured) all;
    }
