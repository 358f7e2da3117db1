-- `walks::places::Places::insert` meets its contract: each turn of the loop is one of the moves, and it ends where the hit goes.
use mathlib.Core.Path.{◌≡◌, sym, ◌∙◌}
use Prim.Native.Nat.{◌-◌}
use native.Mathlib.Omega.{arith}
use Rattle.walks.specs.Values.{as_hit}
use Rattle.walks.specs.Places.{most_of}
use Rattle.walks.proofs.Slots.{moving_starts, moving_goes_on, moving_ends, moving_ends_nearest}
use Rattle.walks.proofs.places.Places.insert.Goals as goal

pub loop-j-init : goal.loop-j-init
loop-j-init c =
    let a = c.args in
    moving_starts (as_hit a.hit) a.self.now.best a.self.now.which c.requires.sound c.requires.before_last

pub returns-then-not-goes_before : goal.returns-then-not-goes_before
returns-then-not-goes_before c =
    let a = c.args in
    let loop = c.loop-j in
    moving_ends (as_hit a.hit) a.self.now.best a.self.now.which c.requires.sound c.requires.before_last loop.self.best loop.self.which loop.j
    loop.invariant _ _ (omega arith) (sym c.goes_before.ensures ∙ c.if-not-goes_before.true) c.put_slot.ensures

pub loop-j-preserved : goal.loop-j-preserved
loop-j-preserved c =
    let a = c.args in
    let loop = c.loop-j in
    moving_goes_on (as_hit a.hit) a.self.now.best a.self.now.which c.requires.sound c.requires.before_last loop.self.best loop.self.which loop.j
    loop.invariant (as_hit c.slot_at-next.result) _ _ (omega arith)
    (sym c.goes_before.ensures ∙ c.if-not-goes_before.false) c.slot_at-next.ensures c.put_slot-in-loop-j.ensures

pub returns : goal.returns
returns c =
    let a = c.args in
    let loop = c.loop-j in
    let there : most_of a.self.now.which - 1 ≡ loop.j = omega arith in
    moving_ends_nearest (as_hit a.hit) a.self.now.best a.self.now.which c.requires.sound c.requires.before_last loop.self.best loop.self.which loop.j
    loop.invariant _ _ (omega arith) (rw there at c.put_slot-2.ensures)
