-- The twelve buckets of the area rule: how many boxes fell into each, and their union; and the sides of a cut gathered by two sweeps.
use mathlib.Core.List.{List, [], ◌∷◌, foldl}
use Rattle.std.specs.Prelude.{ℕ, ◌+◌, ◌^◌, ◌<◌, get_or, set, replicate}
use Rattle.std.specs.Float.{Format}
use Rattle.spec_shapes.specs.Boxes.{Box, empty, union}
use Rattle.spec_shapes.specs.Plain.{PlainBox}

abbrev pub bucket_count : ℕ
bucket_count = 12

pub record Bucket : Type 0 where
  pub count : ℕ
  pub bounds : Box

unfoldable pub empty_bucket : Format → Bucket
empty_bucket f = record { count = 0; bounds = empty f }

-- a bucket with one box more
unfoldable pub with_box : Bucket → Box → Bucket
with_box s b = record { count = s.count + 1; bounds = union s.bounds b }

-- a bucket with the boxes of another
unfoldable pub merged : Bucket → Bucket → Bucket
merged s t = record { count = s.count + t.count; bounds = union s.bounds t.bounds }

unfoldable pub empty_buckets : Format → List Bucket
empty_buckets f = replicate bucket_count (empty_bucket f)

abbrev pub bucket_at : Format → List Bucket → ℕ → Bucket
bucket_at f buckets k = get_or buckets k (empty_bucket f)

unfoldable pub put_in : Format → List Bucket → ℕ → Box → List Bucket
put_in f buckets k b = set buckets k (with_box (bucket_at f buckets k) b)

-- the buckets of one side of a cut, as one
unfoldable pub side_of : Format → List Bucket → Bucket
side_of f buckets = foldl merged (empty_bucket f) buckets

-- ---- by two sweeps
-- one side gathered going down: its last bucket first
unfoldable pub side_down : Format → List Bucket → Bucket
side_down f [] = empty_bucket f
side_down f (b ∷ bs) = merged (side_down f bs) b

-- the side behind each bucket, gathered going down
unfoldable pub sides_down : Format → List Bucket → List Bucket
sides_down f [] = []
sides_down f (b ∷ bs) = side_down f bs ∷ sides_down f bs

-- ---- what the costs need of buckets
-- each count is so small that the sum of twelve fits 32 bits
abbrev pub AreSmall : Format → List Bucket → Type 0
AreSmall f buckets = (k : ℕ) → (bucket_at f buckets k).count < 2 ^ 28

-- no box has a NaN or a -0, so that both sweeps give the same boxes
abbrev pub ArePlain : Format → List Bucket → Type 0
ArePlain f buckets = (k : ℕ) → PlainBox f (bucket_at f buckets k).bounds
