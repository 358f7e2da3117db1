-- What a call that counts answers, as the verdict and the count of a status. The contracts compare by these.
use Rattle.std.specs.Prelude.{ℕ, Result, Ok, Err}
use Rattle.spec_lists.specs.Refusals.{Verdict, passes, refused}
use Rattle.lists.specs.declared.refusal.Refusal.{Refusal}
use Rattle.lists.specs.Values.{number_of, place_of}

abbrev pub verdict_of : Result ℕ Refusal → Verdict
verdict_of (Ok count) = passes
verdict_of (Err r) = refused (number_of r) (place_of r)

-- 0 where it refuses
abbrev pub count_of : Result ℕ Refusal → ℕ
count_of (Ok count) = count
count_of (Err r) = 0
