-- The calls `node_sums` and `fast_winding` over lists: what they refuse, and what they write. A dipole is sixteen numbers a node.
use Rattle.std.specs.Prelude.{List, [], ◌∷◌, ◌++◌, ℕ, ◌+◌, ◌-◌, ◌*◌, ◌/◌, length, get_or, Float}
use Rattle.std.specs.Float.{Format, nan}
use Rattle.spec_tables.specs.Tables.{overwrite, concat_map}
use Rattle.spec_lists.specs.Limits.{deepest}
use Rattle.spec_lists.specs.Reading.{triangle_at, point_at, point_count}
use Rattle.spec_lists.specs.Refusals.{Verdict, first_refusal, triangles_refusal, room_refusal, points_refusal, scale_refusal, after_verdict}
use Rattle.spec_shapes.specs.Points.{Point}
use Rattle.spec_tree.specs.Trees.{point_from, node_box}
use Rattle.spec_tree.specs.Refusals.{tree_refusal}
use Rattle.spec_dipoles.specs.Matrices.{Matrix}
use Rattle.spec_dipoles.specs.Sums.{node_sums, Dipole, dipole_of}
use Rattle.spec_dipoles.specs.Fast.{fast_at}

-- ---- sixteen numbers a node
abbrev pub three_of : Point → List Float
three_of p = p.x ∷ p.y ∷ p.z ∷ []

-- by columns
abbrev pub nine_of : Matrix → List Float
nine_of m = three_of m.x ++ (three_of m.y ++ three_of m.z)

-- first order 3, second order 9, radius, centre 3
abbrev pub sixteen_of : Dipole → List Float
sixteen_of d = three_of d.first ++ (nine_of d.second ++ (d.radius ∷ three_of d.centre))

-- and back
abbrev pub matrix_from : List Float → ℕ → Matrix
matrix_from l at = record { x = point_from l at; y = point_from l (at + 3); z = point_from l (at + 6) }

abbrev pub dipole_from : List Float → ℕ → Dipole
dipole_from l at = record { first = point_from l at; second = matrix_from l (at + 3); radius = get_or l (at + 12) nan; centre = point_from l (at + 13) }

-- the dipole of a node, as it is lent
unfoldable pub dipole_at : List Float → ℕ → Dipole
dipole_at sums node = dipole_from sums (16 * node)

-- ---- node_sums
-- 1 to 4, 6, 71 to 75; `room` is the lent list's length
unfoldable pub sums_refusal : (triangles : List Float) (order links : List ℕ) (boxes : List Float) (nodes room : ℕ) → Verdict
sums_refusal triangles order links boxes nodes room =
    first_refusal (triangles_refusal triangles ∷ room_refusal (room / 16) nodes ∷ tree_refusal triangles order links boxes nodes ∷ [])

-- the dipole that a node has
unfoldable pub dipole_in : Format → (triangles : List Float) (order links : List ℕ) (boxes : List Float) → ℕ → Dipole
dipole_in f triangles order links boxes node = dipole_of f (node_box boxes node) (node_sums f (triangle_at triangles) order links node)

-- the dipoles of all nodes, in their order
unfoldable pub dipoles : Format → (triangles : List Float) (order links : List ℕ) (boxes : List Float) (nodes : ℕ) → List Float
dipoles f triangles order links boxes nodes = concat_map (λ node. sixteen_of (dipole_in f triangles order links boxes node)) nodes

-- the lent list afterwards: the dipoles from the front, and behind them what it held; on a refusal as it was
unfoldable pub after_sums : Format → (triangles : List Float) (order links : List ℕ) (boxes : List Float) (nodes : ℕ) (old : List Float) → List Float
after_sums f triangles order links boxes nodes old =
    after_verdict (sums_refusal triangles order links boxes nodes (length old)) (overwrite 0 (dipoles f triangles order links boxes nodes) old) old

-- ---- fast_winding
-- 1 to 4, 6, 71 to 75, 8, 14: room for a number a point, and sixteen numbers a node
unfoldable pub fast_refusal : (triangles : List Float) (order links : List ℕ) (boxes : List Float) (nodes : ℕ) (sums points : List Float) (accuracy : Float)
    (room : ℕ) → Verdict
fast_refusal triangles order links boxes nodes sums points accuracy room =
    first_refusal
    (triangles_refusal triangles
    ∷ room_refusal room (point_count points)
    ∷ room_refusal (length sums / 16) nodes
    ∷ tree_refusal triangles order links boxes nodes
    ∷ points_refusal points
    ∷ scale_refusal accuracy
    ∷ [])

-- the winding number by dipoles about a point, from the root, which is the last node; the dipoles are the numbers that are lent
unfoldable pub fast_about : Format → (triangles : List Float) (order links : List ℕ) (nodes : ℕ) (sums : List Float) (accuracy : Float) → Point → Float
fast_about f triangles order links nodes sums accuracy q =
    fast_at f (triangle_at triangles) order links (dipole_at sums) accuracy q deepest (nodes - 1)

-- about each point of a list
unfoldable pub fast_windings : Format → (triangles : List Float) (order links : List ℕ) (nodes : ℕ) (sums : List Float) (accuracy : Float) (points : List Float)
    → List Float
fast_windings f triangles order links nodes sums accuracy points =
    concat_map (λ k. fast_about f triangles order links nodes sums accuracy (point_at points (3 * k)) ∷ []) (point_count points)

-- the lent list afterwards: a number a point from the front, and behind them what it held; on a refusal as it was
unfoldable pub after_fast : Format → (triangles : List Float) (order links : List ℕ) (boxes : List Float) (nodes : ℕ) (sums : List Float) (accuracy : Float)
    (points old : List Float) → List Float
after_fast f triangles order links boxes nodes sums accuracy points old =
    after_verdict (fast_refusal triangles order links boxes nodes sums points accuracy (length old))
    (overwrite 0 (fast_windings f triangles order links nodes sums accuracy points) old) old
