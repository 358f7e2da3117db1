-- No two answers of a test that tells its refusal by number and place (`lists::refusal::listed_if`) stand for the same of the definitions.
-- It stands here and not in `lists`, whose proofs need it nowhere.
use Rattle.std.proofs.Common.{◌≡◌, ℕ, refl, ap}
use Rattle.std.specs.Prelude.{Result, Ok, Err}
use Rattle.spec_lists.specs.Refusals.{Verdict, passes, refused}
use Rattle.lists.specs.declared.refusal.Listed.{Listed}
use Rattle.lists.specs.Values.{as_listed}

abbrev back_listed : Verdict → Listed
back_listed passes = record { number = 0; place = 0 }
back_listed (refused number place) = record { number = number; place = place }

-- what such an answer stands for fixes it
pub listed_unique : (a b : Result (Unit {0}) Listed) → as_listed a ≡ as_listed b → a ≡ b
listed_unique (Ok x) (Ok y) e = refl
listed_unique (Ok x) (Err r) e = cc
listed_unique (Err r) (Ok x) e = cc
listed_unique (Err r) (Err q) e = let same : r ≡ q = ap back_listed e in ap Err same
