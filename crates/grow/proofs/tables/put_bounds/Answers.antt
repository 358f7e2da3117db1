-- `grow::tables::put_bounds` meets its contract: a turn writes one box behind those that stand there.
use mathlib.Core.Path.{refl, ◌∙◌, ap}
use Prim.Native.Nat.{◌*◌}
use Rattle.spec_tables.specs.Tables.{overwrite}
use Rattle.spec_tables.proofs.Runs.{run_start, run_front, run_end}
use Rattle.spec_lists.specs.Reading.{box_at}
use Rattle.spec_shapes.specs.Boxes.{Box}
use Rattle.spec_tree.specs.Trees.{six_of}
use Rattle.grow.proofs.tables.put_bounds.Goals as goal

pub loop-t-init : goal.loop-t-init
loop-t-init c = run_start _ 6 0 _ _

pub loop-t-preserved : goal.loop-t-preserved
loop-t-preserved c =
    run_front (λ k. six_of (box_at c.args.triangles.now k)) 6 _ _ _ _ _ (λ j. refl) c.requires.1 c.loop-t-test.true c.loop-t.invariant
    (c.put_box.ensures ∙ ap (λ (b : Box). overwrite (6 * c.loop-t.t) (six_of b) c.loop-t.bounds) c.box_at.ensures)

pub returns : goal.returns
returns c = run_end _ 0 _ _ _ _ c.loop-t-test.false c.loop-t.invariant
