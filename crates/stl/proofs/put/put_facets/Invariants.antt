-- `stl::put::put_facets` meets its contract: a turn puts one facet more (`Puts`).
use Rattle.spec_tables.proofs.Runs.{Puts}
use Rattle.spec_stl.specs.Stl.{facet_bytes}
use Rattle.stl.proofs.put.put_facets.Given as goal

abbrev pub invariant-loop-i : goal.invariant-loop-i
invariant-loop-i l = Puts (facet_bytes l.triangles) 50 l.at l.count l.initial.out l.out l.next l.i
