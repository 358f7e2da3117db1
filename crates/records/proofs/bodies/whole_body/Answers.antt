-- `records::bodies::whole_body` meets its contract: where the record is there its size decides.
use Rattle.spec_records.specs.Records.{whole}
use Rattle.spec_records.proofs.Records.{none_there}
use Rattle.spec_records.proofs.Layouts.{whole_decides}
use Rattle.records.proofs.Answers.{is_there, is_missing}
use Rattle.records.proofs.bodies.whole_body.Goals as goal

pub returns-in_err-size : goal.returns-in_err-size
returns-in_err-size c =
    let a = c.args in
    rw (none_there a.kind (whole a.entry) a.bytes.now a.at
    (is_missing a.kind a.bytes.now a.at c.body_at.ensures c.in_err-size.was)) c.from_residual.ensures

pub returns : goal.returns
returns c =
    let a = c.args in
    let size = c.in_ok-size.size in
    let there = is_there a.kind a.bytes.now a.at c.body_at.ensures c.in_ok-size.was in
    rw (whole_decides a.kind a.bytes.now a.at size there.0 there.1 a.entry, there.1) c.then_some.ensures
