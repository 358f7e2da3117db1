-- `stl::get::read_facets` meets its contract: a turn reads one triangle more (`Run`).
use Rattle.spec_tables.proofs.Runs.{Run}
use Rattle.spec_stl.specs.Stl.{corners_in}
use Rattle.stl.proofs.get.read_facets.Given as goal

abbrev pub invariant-loop-i : goal.invariant-loop-i
invariant-loop-i l = Run (corners_in l.bytes) 0 l.count l.initial.triangles l.triangles l.i
