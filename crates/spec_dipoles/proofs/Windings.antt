-- What the two loops of `fast_winding` leave, by the laws of such loops: a leaf's exact winding number, and the numbers about all points.
use mathlib.Core.Path.{◌≡◌}
use mathlib.Core.List.{List}
use Prim.Native.Nat.{ℕ, ◌≤◌}
use lib.ListN.{length, get_or}
use lib.Ieee.{Float, Format, mul, div}
use Rattle.spec_tables.specs.Tables.{overwrite}
use Rattle.spec_shapes.specs.Points.{Point}
use Rattle.spec_lists.specs.Reading.{triangle_at, point_count}
use Rattle.spec_angles.specs.Winding.{pi, four}
use Rattle.spec_angles.proofs.Windings.{Summed, sum_end, AboutPut, about_end}
use Rattle.spec_dipoles.specs.Fast.{slice_winding}
use Rattle.spec_dipoles.specs.Calls.{fast_about, fast_windings}

-- the winding number of the triangles that a slice numbers, under its name
pub slice_end : (f : Format) (triangles : List Float) (slice : List ℕ) (q : Point) (sum : Float) (k : ℕ) → length slice ≤ k
    → Summed f (λ i. triangle_at triangles (get_or slice i 0)) q (length slice) sum k
    → div f sum (mul f four (pi f)) ≡ slice_winding f (triangle_at triangles) slice q
unfolding slice_winding
slice_end f triangles slice q sum k l s = sum_end f (λ i. triangle_at triangles (get_or slice i 0)) q (length slice) sum k l s

-- the numbers by dipoles about all points are as the definition writes them
pub fast_end : (f : Format) (triangles : List Float) (order links : List ℕ) (nodes : ℕ) (sums : List Float) (accuracy : Float) (points old : List Float)
    (count : ℕ) (out : List Float) (k : ℕ) → count ≡ point_count points → count ≤ k
    → AboutPut (fast_about f triangles order links nodes sums accuracy) points old count out k
    → out ≡ overwrite 0 (fast_windings f triangles order links nodes sums accuracy points) old
unfolding fast_windings
fast_end f triangles order links nodes sums accuracy points old count out k C l h =
    about_end (fast_about f triangles order links nodes sums accuracy) points old count out k C l h
