-- `angles::winding::put_windings` meets its contract: a turn stores the number of one point more (`AboutPut`).
use Rattle.std.proofs.Common.{arith}
use Rattle.spec_lists.proofs.Reading.{point_inside}
use Rattle.spec_angles.proofs.Windings.{about_start, about_more, about_end}
use Rattle.angles.proofs.winding.put_windings.Goals as goal

pub loop-k-init : goal.loop-k-init
loop-k-init g c = λ number gives. about_start _ _ _ _

pub point_at-requires : goal.point_at-requires
point_at-requires g c =
    point_inside _ _ (rw c.point_count-k-end.ensures at c.loop-k-test.true)

pub loop-k-preserved : goal.loop-k-preserved
loop-k-preserved g c = λ number gives.
    about_more number _ _ _ _ _ _ _ (omega (arith, c.requires.room, c.point_count-k-end.ensures)) c.loop-k-test.true
    (c.loop-k.invariant number gives) c.point_at.ensures (gives _ _ c.winding.ensures)

pub returns : goal.returns
returns g c = λ number gives.
    about_end number _ _ _ _ _ c.point_count-k-end.ensures c.loop-k-test.false (c.loop-k.invariant number gives)
