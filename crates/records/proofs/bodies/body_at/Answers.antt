-- `records::bodies::body_at` meets its contract: each test is one of those of `is_record`.
use native.Mathlib.Omega.{arith}
use Prim.Native.Nat.{◌+◌, ◌≤◌, ◌<◌}
use lib.ListN.{length}
use borrow.Author.Tests.{lt-leb}
use Rattle.spec_records.specs.Records.{size_at}
use Rattle.spec_records.proofs.Records.{record_past}
use Rattle.records.proofs.Answers.{kind_decides}
use Rattle.records.proofs.bodies.body_at.Goals as goal
use Rattle.records.proofs.bodies.body_at.Goals.{then-size-room, else-size-room}

pub returns-in_err-checked_sub : goal.returns-in_err-checked_sub
returns-in_err-checked_sub c =
    rw (record_past c.args.kind c.args.bytes.now c.args.at (omega (arith, c.in_err-checked_sub.ensures))) c.from_residual.ensures

pub returns-in_err-room : goal.returns-in_err-room
returns-in_err-room c =
    rw (record_past c.args.kind c.args.bytes.now c.args.at (omega (arith, c.in_ok-checked_sub.ensures, c.in_err-room.ensures)))
    c.from_residual-in_err-room.ensures

pub returns : goal.returns
returns c =
    let a = c.args in
    let s = a.bytes.now in
    elim c.if-size-room.branch [
      | then-size-room w ↦
          let fits : a.at + 6 + size_at s a.at ≤ length s =
          omega (arith, c.in_ok-checked_sub.ensures, c.in_ok-room.ensures, c.u32_at-size.ensures) in
          rw (kind_decides a.kind s a.at fits, ← c.u32_at-size.ensures, ← w.u16_at.ensures.value, ← w.then_some-is) c.then_some.ensures
      | else-size-room w ↦
          let past : length s < a.at + 6 + size_at s a.at =
          omega (arith, c.in_ok-checked_sub.ensures, c.in_ok-room.ensures, c.u32_at-size.ensures) in
          rw (record_past a.kind s a.at past) (rw (w.then_some-is, lt-leb _ _ w.if-size-room.false) at c.then_some.ensures)
    ]
