-- A call that answers no more than its verdict, and then the count of what is done: what is encoded is that verdict.
use Rattle.std.proofs.Common.{◌≡◌, ℕ, Result, Ok, Err, refl}
use Rattle.std.specs.Result.{result_and}
use Rattle.lists.specs.declared.refusal.Refusal.{Refusal}
use Rattle.lists.specs.Values.{as_verdict}
use Rattle.host_bytes.specs.Values.{verdict_of}

-- a call that counts once its test passed answers the test's verdict
pub counted_verdict : (r : Result (Unit {0}) Refusal) (n : ℕ) (a : Result ℕ Refusal) → a ≡ result_and r (Ok n) → verdict_of a ≡ as_verdict r
counted_verdict (Ok done) n a e = rw e refl
counted_verdict (Err refusal) n a e = rw e refl
