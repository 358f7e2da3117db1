-- The winding numbers that a call writes, whatever computes them.
use Rattle.std.specs.Prelude.{◌≡◌, ◌*◌, List, [], ◌∷◌, Float}
use Rattle.spec_tables.specs.Tables.{overwrite, concat_map}
use Rattle.spec_shapes.specs.Points.{Point}
use Rattle.spec_lists.specs.Reading.{point_at, point_count}
use Rattle.shapes.specs.declared.vec3.Vec3.{Vec3}
use Rattle.shapes.specs.Values.{as_point}

-- what is computed at each point is the point's number
abbrev pub Gives : (computes : Vec3 → Float → Type 0) → (number : Point → Float) → Type 0
Gives computes number = (p : Vec3) (r : Float) → computes p r → r ≡ number (as_point p)

-- the numbers that are computed at the points stand at the front
abbrev pub Written : (computes : Vec3 → Float → Type 0) → (points old new : List Float) → Type 0
Written computes points old new =
    (number : Point → Float) → Gives computes number
    → new ≡ overwrite 0 (concat_map (λ k. number (point_at points (3 * k)) ∷ []) (point_count points)) old
