-- `stl::get::read_facets` meets its contract: a turn reads one triangle more (`Run`).
use Rattle.spec_tables.proofs.Runs.{run_start, run_front, run_end}
use Rattle.spec_stl.specs.Stl.{corners_in}
use Rattle.spec_stl.proofs.Facets.{length_corners}
use Rattle.stl.proofs.get.read_facets.Goals as goal

pub loop-i-init : goal.loop-i-init
loop-i-init c = run_start _ 9 _ _ _

pub loop-i-preserved : goal.loop-i-preserved
unfolding corners_in
loop-i-preserved c =
    run_front _ 9 _ _ _ _ _ (length_corners c.args.bytes.now) c.requires.1 c.loop-i-test.true c.loop-i.invariant c.read_f32s.ensures

pub returns : goal.returns
returns c = run_end _ _ _ _ _ _ c.loop-i-test.false c.loop-i.invariant
