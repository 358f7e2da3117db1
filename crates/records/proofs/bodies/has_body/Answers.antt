-- `records::bodies::has_body` meets its contract: where the record is there its size decides.
use Rattle.records.proofs.Answers.{size_decides}
use Rattle.records.proofs.bodies.has_body.Goals as goal

pub returns : goal.returns
returns c =
    let a = c.args in
    let decides = size_decides a.kind a.bytes.now a.at a.wanted in cc
