-- `host_bytes::answers::put_answer_bytes` meets its contract: the words of the answer, as bytes.
use mathlib.Core.Path.{refl, ap, ◌∙◌}
use mathlib.Core.List.{List}
use Prim.Native.Nat.{ℕ}
use Rattle.spec_tables.specs.Tables.{overwrite}
use Rattle.spec_records.specs.Entries.{number_bytes}
use Rattle.spec_search.specs.Answers.{answer_width}
use Rattle.spec_host.proofs.PointBytes.{words_bytes}
use Rattle.walks.specs.Values.{as_answer}
use Rattle.host_bytes.proofs.answers.put_answer_bytes.Goals as goal

pub returns : goal.returns
returns c =
    let a = c.args in
    c.put_numbers.ensures.put.written
    ∙ ap (λ (words : List ℕ). overwrite a.at (number_bytes 4 words 0 answer_width) a.out.now) c.put_answer.ensures
    ∙ ap (λ (new : List ℕ). overwrite a.at new a.out.now) (words_bytes (as_answer a.answer) _ refl)
