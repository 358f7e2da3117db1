-- The engine's limits, each named once: tests and proofs go by the name.
use Rattle.std.specs.Prelude.{false, ℕ, pos, Float}
use Rattle.std.specs.Float.{fin}

-- the max number of triangles of a list
abbrev pub max_triangles : ℕ
max_triangles = 65536

-- 1,048,576: the max magnitude of a coordinate
abbrev pub furthest_coordinate : Float
furthest_coordinate = fin false 1 (pos 20)

-- 4,194,304: the max search distance
abbrev pub longest_distance : Float
longest_distance = fin false 1 (pos 22)

-- 1,000: the max accuracy scale
abbrev pub largest_scale : Float
largest_scale = fin false 125 (pos 3)

-- the max of the setting that limits the depth
abbrev pub deepest : ℕ
deepest = 64

-- the max leaf minimum, which is the count up to which a leaf is made
abbrev pub max_leaf_minimum : ℕ
max_leaf_minimum = 65536
