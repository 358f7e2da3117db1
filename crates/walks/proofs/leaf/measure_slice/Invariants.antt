-- `walks::leaf::measure_slice` meets its contract, for either walk.
-- The invariant: the lists are ready, with as many places as there were, and measuring those that remain, from what is kept now, gives what the whole
-- slice gives.
use mathlib.Core.Path.{◌≡◌}
use mathlib.Core.List.{List}
use Prim.Native.Nat.{ℕ, ◌+◌}
use lib.ListN.{drop}
use lib.Ieee.{Float, binary32}
use Rattle.shapes.specs.Values.{as_point}
use Rattle.spec_search.specs.Walk.{took_all}
use Rattle.walks.specs.declared.answer.Measures.{Measures}
use Rattle.walks.specs.declared.answer.Probe.{Probe}
use Rattle.walks.specs.Places.{most_of, Keeps, took_by, Ready, sought_of}
use Rattle.walks.proofs.leaf.measure_slice.Given as goal

abbrev pub took : (by : Measures) → List Float → Probe → ℕ → ℕ → Keeps by → Keeps by
took by triangles probe most = took_by by binary32 triangles (as_point probe.point) probe.limit most

abbrev pub invariant-loop-t : goal.invariant-loop-t
invariant-loop-t l = record {
  ready : Ready l.measures l.places.best l.places.which;
  most_is : most_of l.places.which ≡ most_of l.initial.places.which;
  rest_is : took_all (took l.measures l.triangles l.probe (most_of l.initial.places.which)) (drop l.t-index l.slice)
      (sought_of l.measures l.places.best l.places.which (l.measured + l.t-index))
      ≡ took_all (took l.measures l.triangles l.probe (most_of l.initial.places.which)) l.slice
      (sought_of l.measures l.initial.places.best l.initial.places.which l.measured);
}
