-- `host_ask::windings::put_windings` meets its contract: a turn writes the number of one point more (`NumbersPut`).
use mathlib.Core.Path.{refl, ap, ◌∙◌}
use native.Mathlib.Omega.{arith}
use lib.Ieee.{binary32, to_bits}
use Rattle.spec_host.proofs.PointBytes.{numbers_start, numbers_more, numbers_end}
use Rattle.host_ask.specs.Windings.{number_at}
use Rattle.host_ask.proofs.windings.put_windings.Goals as goal

pub loop-k-init : goal.loop-k-init
loop-k-init g c = λ number gives. numbers_start (number_at number c.args.points.now) c.args.points.now c.args.out.now _

pub loop-k-preserved : goal.loop-k-preserved
loop-k-preserved g c = λ number gives.
    numbers_more (number_at number c.args.points.now) c.args.points.now c.args.out.now _ _ _ _ _ c.requires.room (omega arith)
    (c.loop-k.invariant number gives)
    (ap (to_bits binary32) (gives _ _ c.winding.ensures ∙ ap number c.point_in.ensures)) c.put_winding_bytes.ensures

pub returns : goal.returns
returns g c = λ number gives.
    numbers_end (number_at number c.args.points.now) c.args.points.now c.args.out.now _ _ _ refl (omega arith) (c.loop-k.invariant number gives)
