-- `tree::calls::depth` meets its contract: the refusal, or the depth of lists that pass.
use mathlib.Core.Path.{sym}
use native.Mathlib.Omega.{arith}
use Rattle.spec_tree.proofs.Leaves.{passed_sound, passed_some}
use Rattle.spec_tree.proofs.Depth.{sound_descends, depth_refused, depth_read_lem}
use Rattle.tree.proofs.calls.depth.Goals as goal

pub depth_of-requires : goal.depth_of-requires
depth_of-requires c =
    let p = sym c.in-Ok.ensures in
    let some = passed_some _ _ _ _ _ p in
    record { some = some; descends = sound_descends _ _ _ _ _ _ (passed_sound _ _ _ _ _ p) (omega (arith, some)) }

pub returns-in-Ok : goal.returns-in-Ok
returns-in-Ok c = depth_read_lem _ _ _ _ _ _ (sym c.in-Ok.ensures) c.depth_of.ensures

pub returns-in-Err : goal.returns-in-Err
returns-in-Err c = depth_refused _ _ _ _ _ _ _ (sym c.in-Err.ensures)
