-- Refusals and settings of the code as the definitions' own. The contracts compare by these.
use Rattle.std.specs.Prelude.{ℕ, Result, Ok, Err}
use Rattle.spec_lists.specs.Refusals as Refusals
use Rattle.lists.specs.declared.refusal.Refusal.{Refusal}
use Rattle.lists.specs.declared.refusal.Refusal.TheVariants as Refusal
use Rattle.lists.specs.declared.refusal.Listed.{Listed}
use Rattle.lists.specs.declared.settings.Settings.{Settings}

-- the number of a refusal in the table
abbrev pub number_of : Refusal → ℕ
number_of Refusal.RaggedTriangles = 1
number_of Refusal.NoTriangle = 2
number_of Refusal.TooManyTriangles = 3
number_of (Refusal.BadCoordinate place) = 4
number_of Refusal.BadSetting = 5
number_of Refusal.NoRoom = 6
number_of (Refusal.BadOrder place) = 71
number_of Refusal.BadNodeCount = 72
number_of (Refusal.BadListing place) = 73
number_of (Refusal.TooDeep place) = 74
number_of (Refusal.BadBox place) = 75
number_of (Refusal.BadPoint place) = 8
number_of Refusal.BadDistance = 9
number_of (Refusal.BadLayout place) = 10
number_of (Refusal.BadStlSize place) = 11
number_of Refusal.BadScale = 14

-- the place that it tells
abbrev pub place_of : Refusal → ℕ
place_of Refusal.RaggedTriangles = 0
place_of Refusal.NoTriangle = 0
place_of Refusal.TooManyTriangles = 0
place_of (Refusal.BadCoordinate place) = place
place_of Refusal.BadSetting = 0
place_of Refusal.NoRoom = 0
place_of (Refusal.BadOrder place) = place
place_of Refusal.BadNodeCount = 0
place_of (Refusal.BadListing place) = place
place_of (Refusal.TooDeep place) = place
place_of (Refusal.BadBox place) = place
place_of (Refusal.BadPoint place) = place
place_of Refusal.BadDistance = 0
place_of (Refusal.BadLayout place) = place
place_of (Refusal.BadStlSize place) = place
place_of Refusal.BadScale = 0

-- what a test, or a call that answers nothing else, answers
abbrev pub as_verdict : Result (Unit {0}) Refusal → Refusals.Verdict
as_verdict (Ok done) = Refusals.passes
as_verdict (Err r) = Refusals.refused (number_of r) (place_of r)

-- the same of a test that tells its refusal by number and place
abbrev pub as_listed : Result (Unit {0}) Listed → Refusals.Verdict
as_listed (Ok done) = Refusals.passes
as_listed (Err r) = Refusals.refused r.number r.place

abbrev pub as_settings : Settings → Refusals.Settings
as_settings s = record { strategy = s.strategy; leaf_minimum = s.leaf_minimum; maximum_depth = s.maximum_depth }
