-- Which query is made, and its answer: nothing, or a found surface point with its triangle number, its squared distance and the part that was hit;
-- and its numbers in a lent list.
use Rattle.std.specs.Prelude.{List, [], ◌∷◌, ℕ, Float}
use Rattle.std.specs.Float.{Format}
use Rattle.std.specs.Float.Ieee.{to_bits}
use Rattle.spec_shapes.specs.Points.{Point, squared_distance}
use Rattle.spec_shapes.specs.Triangles.{Spot, part_number}

-- the query that was added, with the number of its measuring rule; the same for so many answers a point; or the one that is carried over, which has
-- no rule
pub data Query : Type 0 where
  sure : (rule : ℕ) → Query
  few : (rule most : ℕ) → Query
  source : Query

pub record Hit : Type 0 where
  pub point : Point
  pub squared : Float
  pub triangle : ℕ
  -- its number: 0 face, 1 to 3 corners a, b, c, 4 to 6 edges ab, ac, bc
  pub part : ℕ

abbrev pub squared_of : Hit → Float
squared_of h = h.squared

abbrev pub number_of : Hit → ℕ
number_of h = h.triangle

-- what is measured from p of triangle t, at a spot of it
abbrev pub hit_at : Format → Spot → Point → ℕ → Hit
hit_at f s p t = record { point = s.point; squared = squared_distance f s.point p; triangle = t; part = part_number s.part }

pub data Answer : Type 0 where
  nothing : Answer
  found : Hit → Answer

-- a hit, and an answer, with its part told otherwise
abbrev pub retold : (ℕ → ℕ) → Hit → Hit
retold told h = record { point = h.point; squared = h.squared; triangle = h.triangle; part = told h.part }

abbrev pub retold_in : (ℕ → ℕ) → Answer → Answer
retold_in told nothing = nothing
retold_in told (found h) = found (retold told h)

-- how many numbers of a list an answer takes
abbrev pub answer_width : ℕ
answer_width = 7

-- these: 1 or 0, triangle, x y z bits, squared distance bits, part; nothing is zeros alone
unfoldable pub words_of : Format → Answer → List ℕ
words_of f nothing = 0 ∷ 0 ∷ 0 ∷ 0 ∷ 0 ∷ 0 ∷ 0 ∷ []
words_of f (found h) =
    1 ∷ h.triangle ∷ to_bits f h.point.x ∷ to_bits f h.point.y ∷ to_bits f h.point.z ∷ to_bits f h.squared ∷ h.part ∷ []
