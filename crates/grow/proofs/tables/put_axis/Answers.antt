-- `grow::tables::put_axis` meets its contract: the slice that was lent comes back with the centres in it.
use Prim.Native.Nat.{◌+◌, ◌-◌}
use mathlib.Core.Path.{refl}
use native.Mathlib.Omega.{arith}
use lib.Ieee.{binary32}
use Rattle.spec_build.specs.Growing.{rows}
use Rattle.spec_build.proofs.Tabling.{centres_put}
use Rattle.grow.proofs.tables.put_axis.Goals as goal

pub returns : goal.returns
returns c =
    let first = c.first_key-first.result in
    let centres = c.args.centres.now in
    centres_put binary32 _ _ _ first (first + rows centres - first) _ _ c.requires.room c.first_key-first.ensures (omega arith)
    c.put_keys.ensures _ refl
