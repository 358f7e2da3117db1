-- The call `winding` over lists: what it refuses, and what it writes, one number a point.
use Rattle.std.specs.Prelude.{List, [], ◌∷◌, ℕ, ◌*◌, length, Float}
use Rattle.std.specs.Float.{Format}
use Rattle.spec_tables.specs.Tables.{overwrite, concat_map}
use Rattle.spec_lists.specs.Reading.{triangle_at, triangle_count, point_at, point_count}
use Rattle.spec_lists.specs.Refusals.{Verdict, first_refusal, triangles_refusal, room_refusal, points_refusal, after_verdict}
use Rattle.spec_shapes.specs.Points.{Point}
use Rattle.spec_angles.specs.Winding.{winding_number}

-- the winding number of a list of triangles about a point
unfoldable pub winding_about : Format → (triangles : List Float) → Point → Float
winding_about f triangles q = winding_number f (triangle_at triangles) (triangle_count triangles) q

-- about the point number k
unfoldable pub winding_at : Format → (triangles points : List Float) → ℕ → Float
winding_at f triangles points k = winding_about f triangles (point_at points (3 * k))

-- refusals 1 to 4, 6, 8: the triangles, then the room for a number a point, then the points
unfoldable pub winding_refusal : (triangles points : List Float) (room : ℕ) → Verdict
winding_refusal triangles points room = first_refusal (triangles_refusal triangles ∷ room_refusal room (point_count points) ∷ points_refusal points ∷ [])

-- the lent list with one winding number a point from the front, and behind them what it held
unfoldable pub written : Format → (triangles points old : List Float) → List Float
written f triangles points old = overwrite 0 (concat_map (λ k. winding_at f triangles points k ∷ []) (point_count points)) old

-- the lent list afterwards: on a refusal, as it was
unfoldable pub after_winding : Format → (triangles points old : List Float) → List Float
after_winding f triangles points old = after_verdict (winding_refusal triangles points (length old)) (written f triangles points old) old
