-- The area rule: 12 buckets by 12 × offset in the centres' bounds, cut to a whole number, at most 11; the cost of each of the 11 cuts;
-- and the first smallest cost, if below the object count, cuts before the first object in a later bucket.
-- Where a cost is no number, there is no split.
use Rattle.std.specs.Prelude.{◌≡◌, Bool, true, false, not, cond, ◌&&◌, ◌||◌, ℕ, zero, suc, min, ◌+◌, eqb, ltb, pos, negsuc, length, Float}
use mathlib.Core.List.{List, [], ◌∷◌, map, foldl}
use Rattle.std.proofs.Math.Seq.{slice}
use Rattle.std.specs.Float.{Format, fin, inf}
use Rattle.std.specs.Float.Ieee.{add, mul, div, lt, is_nan, of_int}
use Rattle.spec_numbers.specs.Values.{cut}
use Rattle.spec_numbers.specs.Axes.{Axis}
use Rattle.spec_shapes.specs.Points.{on}
use Rattle.spec_shapes.specs.Boxes.{Box, empty, union_point, centre, area, offset_on, offset}
use Rattle.spec_splits.specs.Splits.{Split, cut_at, nowhere}
use Rattle.spec_splits.specs.Buckets.{Bucket, bucket_count, empty_buckets, put_in, side_of}

-- ---- into buckets
-- bounds that hold the centre of one box more
unfoldable pub with_centre : Format → Box → Box → Box
with_centre f bounds b = union_point bounds (centre f b)

unfoldable pub centre_bounds : Format → List Box → Box
centre_bounds f bs = foldl (with_centre f) (empty f) bs

abbrev pub twelve : Float
twelve = fin false 3 (pos 2)

-- 12 × offset, cut to a whole number, at most 11
unfoldable pub bucket_for : Format → Float → ℕ
bucket_for f share = min (cut (mul f twelve share)) 11

-- the bucket of a box, on an axis, where the centres lie in these bounds
unfoldable pub bucket_of : Format → Axis → Box → Box → ℕ
bucket_of f axis bounds b = bucket_for f (on axis (offset f bounds (centre f b)))

-- lo and hi are the ends of the bounds on the axis
pub record EndsOf (axis : Axis) (bounds : Box) (lo hi : Float) : Type 0 where
  pub lo_is : lo ≡ on axis bounds.min
  pub hi_is : hi ≡ on axis bounds.max

-- the bucket by the ends alone: code needs one axis of the bounds
unfoldable pub bucket_between : Format → Axis → Float → Float → Box → ℕ
bucket_between f axis lo hi b = bucket_for f (offset_on f lo hi (on axis (centre f b)))

-- the boxes put into their buckets
unfoldable pub put_box : Format → (Box → ℕ) → List Bucket → Box → List Bucket
put_box f bucket buckets b = put_in f buckets (bucket b) b

unfoldable pub filled : Format → (Box → ℕ) → List Box → List Bucket
filled f bucket bs = foldl (put_box f bucket) (empty_buckets f) bs

-- ---- the cost of each cut
-- count × area
unfoldable pub weight : Format → Bucket → Float
weight f s = mul f (of_int f (pos s.count)) (area f s.bounds)

-- 0.125 + (count0 × area0 + count1 × area1) / parent area; infinite where a side is empty
unfoldable pub cost : Format → Box → Bucket → Bucket → Float
cost f parent left right =
    cond (eqb left.count 0 || eqb right.count 0) (inf false)
    (add f (fin false 1 (negsuc 2)) (div f (add f (weight f left) (weight f right)) (area f parent)))

-- the cost of the cut after bucket i
unfoldable pub cost_at : Format → Box → List Bucket → ℕ → Float
cost_at f parent buckets i = cost f parent (side_of f (slice 0 (i + 1) buckets)) (side_of f (slice (i + 1) bucket_count buckets))

-- the n numbers from k on
unfoldable pub up_from : ℕ → ℕ → List ℕ
up_from k zero = []
up_from k (suc n) = k ∷ up_from (suc k) n

-- the costs of the 11 cuts
unfoldable pub costs : Format → Box → List Bucket → List Float
costs f parent buckets = map (cost_at f parent buckets) (up_from 0 11)

-- ---- the first smallest
-- of the costs seen so far the first smallest, and whether each was a number
pub record Cheapest : Type 0 where
  pub seen : ℕ
  pub index : ℕ
  pub cost : Float
  pub are_numbers : Bool

unfoldable pub none_yet : Cheapest
none_yet = record { seen = 0; index = 0; cost = inf false; are_numbers = true }

-- what is known with one cost more
unfoldable pub with_cost : Cheapest → Float → Cheapest
with_cost s c = record {
  seen = s.seen + 1;
  index = cond (lt c s.cost) s.seen s.index;
  cost = cond (lt c s.cost) c s.cost;
  are_numbers = s.are_numbers && not (is_nan c);
}

unfoldable pub cheapest_of : List Float → Cheapest
cheapest_of cs = foldl with_cost none_yet cs

-- ---- where it cuts
-- the cut before the first object, counted from n, that lies in a bucket later than k
unfoldable pub first_later : (Box → ℕ) → ℕ → List Box → ℕ → Split
first_later bucket k [] n = nowhere
first_later bucket k (b ∷ bs) n = cond (ltb k (bucket b)) (cut_at n) (first_later bucket k bs (suc n))

unfoldable pub cut_by : Format → (Box → ℕ) → Cheapest → List Box → Split
cut_by f bucket best bs = cond (best.are_numbers && lt best.cost (of_int f (pos (length bs)))) (first_later bucket best.index bs 0) nowhere

unfoldable pub area_split : Format → Axis → Box → List Box → Split
area_split f axis parent bs =
    let bucket = bucket_of f axis (centre_bounds f bs) in
    cut_by f bucket (cheapest_of (costs f parent (filled f bucket bs))) bs
