-- Which records an image has and which the input of `gauge`, and where their bodies stand.
-- All goes by a `Shape`: another version of the image is another shape, and the number of triangles says which.
use Rattle.std.specs.Prelude.{ℕ, ◌+◌, ◌*◌, ◌/◌, List, [], ◌∷◌, Bool, true, false, cond, ◌&&◌, length, ltb, eqb}
use Rattle.std.specs.Float.{Format, binary32}
use Rattle.spec_records.specs.Little.{little_at}
use Rattle.spec_records.specs.Entries.{float_size}
use Rattle.spec_records.specs.Records.{Span, Wants, done, one, optional, exactly, whole}

-- ---- versions
-- a version of the image: how many bytes an order entry and a node's left and right take, the format of its floats,
-- its max leaf minimum, and what a stored leaf minimum of 0 stands for
pub record Shape : Type 0 where
  pub version : ℕ
  pub entry : ℕ
  pub float : Format
  pub max_leaf : ℕ
  pub zero_leaf : ℕ

abbrev pub version1 : Shape
version1 = record { version = 1; entry = 2; float = binary32; max_leaf = 4096; zero_leaf = 0 }

-- two bytes are too few for a leaf minimum of 65,536, and nobody asks for one of 0
abbrev pub version2 : Shape
version2 = record { version = 2; entry = 4; float = binary32; max_leaf = 65536; zero_leaf = 65536 }

-- wide images have entries of four bytes
abbrev pub shape_by : (wide : Bool) → Shape
shape_by false = version1
shape_by true = version2

-- the max number of triangles that version 1 keeps
abbrev pub max_small : ℕ
max_small = 4096

-- the version that keeps so many triangles, the only one: so one tree has one image
unfoldable pub version_for : ℕ → Shape
version_for t = shape_by (ltb max_small t)

abbrev pub triangle_size : Shape → ℕ
triangle_size sh = 9 * float_size sh.float

abbrev pub node_size : Shape → ℕ
node_size sh = 2 + 2 * sh.entry + 6 * float_size sh.float

-- ---- which records
-- the versions that are read
abbrev pub is_known : (version : ℕ) → Bool
is_known version = cond (eqb version 1) true (eqb version 2)

-- 1: version, strategy, leaf minimum, depth
abbrev pub settings_right : List ℕ → Bool
settings_right body = exactly 8 body && is_known (little_at 2 body 0)

-- how many triangles a body has, 36 bytes each
abbrev pub triangles_of : (body : List ℕ) → ℕ
triangles_of body = length body / 36

-- 2: whole triangles, as many as this version is for
abbrev pub triangles_right : (version : ℕ) → List ℕ → Bool
triangles_right version body = whole 36 body && eqb (version_for (triangles_of body)).version version

-- 1 and 2, and what is wanted behind the triangles
abbrev pub opening : (List ℕ → Wants) → Wants
opening next = one 1 settings_right (λ settings. one 2 (triangles_right (little_at 2 settings 0)) next)

-- 3 and 4: as many order entries as triangles, and the nodes
abbrev pub tree_wants : Shape → (triangles : ℕ) → Wants
tree_wants sh t = one 3 (exactly (sh.entry * t)) (λ _. one 4 (whole (node_size sh)) (λ _. done))

abbrev pub image_wants : Wants
image_wants = opening (λ triangles. tree_wants (version_for (triangles_of triangles)) (triangles_of triangles))

-- 7: the measuring rule, which may be left out
abbrev pub rule_wants : Wants
rule_wants = optional 7 (exactly 2) (λ _. done)

-- 5 and 6: points, and the search distance
abbrev pub query_wants : List ℕ → Wants
query_wants triangles = one 5 (whole 12) (λ _. one 6 (exactly 4) (λ _. rule_wants))

abbrev pub gauge_wants : Wants
gauge_wants = opening query_wants

-- ---- the bodies of an image of t triangles and n nodes
abbrev pub order_start : Shape → ℕ → ℕ
order_start sh t = 20 + triangle_size sh * t + 6

abbrev pub nodes_start : Shape → ℕ → ℕ
nodes_start sh t = order_start sh t + sh.entry * t + 6

abbrev pub image_size : Shape → ℕ → ℕ → ℕ
image_size sh t n = nodes_start sh t + node_size sh * n

unfoldable pub image_spans : Shape → ℕ → ℕ → List Span
image_spans sh t n =
    record { start = 6; size = 8 }
    ∷ record { start = 20; size = triangle_size sh * t }
    ∷ record { start = order_start sh t; size = sh.entry * t }
    ∷ record { start = nodes_start sh t; size = node_size sh * n }
    ∷ []

-- ---- the bodies of an input of t triangles and p points
abbrev pub points_start : ℕ → ℕ
points_start t = 20 + 36 * t + 6

abbrev pub distance_start : ℕ → ℕ → ℕ
distance_start t p = points_start t + 12 * p + 6

abbrev pub rule_start : ℕ → ℕ → ℕ
rule_start t p = distance_start t p + 4 + 6

-- the rule's body, where there is one
abbrev pub rule_spans : ℕ → ℕ → (ruled : Bool) → List Span
rule_spans t p false = []
rule_spans t p true = record { start = rule_start t p; size = 2 } ∷ []

unfoldable pub gauge_spans : ℕ → ℕ → (ruled : Bool) → List Span
gauge_spans t p ruled =
    record { start = 6; size = 8 }
    ∷ record { start = 20; size = 36 * t }
    ∷ record { start = points_start t; size = 12 * p }
    ∷ record { start = distance_start t p; size = 4 }
    ∷ rule_spans t p ruled
