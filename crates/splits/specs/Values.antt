-- The buckets, costs, splits and strategies of the code as the definitions' own. The contracts compare by these.
use Rattle.std.specs.Prelude.{List, map, Option, Some, None, ℕ}
use Rattle.std.specs.Float.{binary32}
use Rattle.spec_shapes.specs.Boxes.{Box}
use Rattle.shapes.specs.Values.{as_axis, as_box}
use Rattle.spec_splits.specs.Buckets as Buckets
use Rattle.spec_splits.specs.Area as Area
use Rattle.splits.specs.declared.bucketing.Span.{Span}
use Rattle.splits.specs.declared.buckets.Bucket.{Bucket}
use Rattle.splits.specs.declared.buckets.Buckets.{Buckets}
use Rattle.splits.specs.declared.costs.Cheapest.{Cheapest}
use Rattle.spec_splits.specs.Splits as Splits
use Rattle.splits.specs.declared.strategy.Strategy.{Strategy}
use Rattle.splits.specs.declared.strategy.Strategy.TheVariants.{Median, Area}

abbrev pub as_bucket : Bucket → Buckets.Bucket
as_bucket s = record { count = s.count; bounds = as_box s.bounds }

abbrev pub as_buckets : Buckets → List Buckets.Bucket
as_buckets s = map as_bucket s.each

-- the cheapest of the first n costs
abbrev pub cheapest_among : ℕ → Cheapest → Area.Cheapest
cheapest_among n s = record { seen = n; index = s.index; cost = s.cost; are_numbers = s.are_numbers }

-- of the costs of all the 11 cuts
abbrev pub as_cheapest : Cheapest → Area.Cheapest
as_cheapest s = cheapest_among 11 s

-- the bucket of a box by where its centre lies on an axis between these ends
abbrev pub bucket_in : Span → Box → ℕ
bucket_in s = Area.bucket_between binary32 (as_axis s.axis) s.lo s.hi

-- where a rule cuts a slice, if it does
abbrev pub as_split : Option ℕ → Splits.Split
as_split (Some k) = Splits.cut_at k
as_split None = Splits.nowhere

-- a strategy's number among the settings
abbrev pub number_of : Strategy → ℕ
number_of Median = 1
number_of Area = 2
