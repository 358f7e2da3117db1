-- `grow::tries::Cutter::sort_on` meets its contract: `sort_by_key` sorts by the slice of the table that the axis has.
use Prim.Native.Nat.{◌+◌, ◌-◌}
use native.Mathlib.Omega.{arith}
use Rattle.shapes.specs.Values.{as_axis}
use Rattle.spec_build.specs.Growing.{rows}
use Rattle.grow.proofs.Sorting.{sort_gives}
use Rattle.grow.proofs.tries.Cutter.sort_on.Goals as goal

pub returns : goal.returns
returns c =
    let first = c.first_key-first.result in
    let centres = c.args.self.now.centres.now in
    sort_gives (as_axis c.args.axis) centres _ first (first + rows centres - first)
    c.first_key-first.ensures (omega arith) _ c.sort_by_key.ensures
