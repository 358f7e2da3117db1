-- `stl::put::put_facets` meets its contract: a turn puts one facet more (`Puts`).
use Rattle.spec_tables.proofs.Runs.{puts_start, puts_more}
use Rattle.stl.proofs.put.put_facets.Goals as goal

pub loop-i-init : goal.loop-i-init
loop-i-init c = puts_start _ _ _ _ _ c.requires.1

pub loop-i-preserved : goal.loop-i-preserved
loop-i-preserved c =
    puts_more _ _ _ _ c.loop-i-test.true c.loop-i.invariant c.put_facet-next.ensures.put c.put_facet-next.ensures.value
