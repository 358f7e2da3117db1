-- The image of a tree: the bytes that are written, and the values that are read.
-- All goes by a `Shape`: another version of the image is another shape.
use Rattle.std.specs.Prelude.{ℕ, ◌+◌, ◌*◌, List, ◌++◌, cond, length, eqb, Float}
use Rattle.spec_tables.specs.Tables.{concat_map}
use Rattle.spec_records.specs.Little.{little, little_at}
use Rattle.spec_records.specs.Entries.{number_bytes, float_bytes, numbers_in, floats_in}
use Rattle.spec_records.specs.Records.{record_of}
use Rattle.spec_records.specs.Layouts.{Shape, node_size, order_start, nodes_start}
use Rattle.spec_lists.specs.Refusals.{Settings}

-- what an image is written from, in lent lists: of the first `nodes` nodes three links and six numbers each
pub record Image : Type 0 where
  pub settings : Settings
  pub triangles : List Float
  pub order : List ℕ
  pub nodes : ℕ
  pub links : List ℕ
  pub boxes : List Float

-- ---- the bytes of an image
-- the version stands in front of the settings, so that a reader sees it first; of 65,536 the two lowest bytes are 0
unfoldable pub settings_bytes : Shape → Settings → List ℕ
settings_bytes sh s = little 2 sh.version ++ little 2 s.strategy ++ little 2 s.leaf_minimum ++ little 2 s.maximum_depth

-- node i: its kind, left and right, and its box
unfoldable pub node_bytes : Shape → List ℕ → List Float → ℕ → List ℕ
node_bytes sh links boxes i = number_bytes 2 links (3 * i) 1 ++ number_bytes sh.entry links (3 * i + 1) 2 ++ float_bytes sh.float boxes (6 * i) 6

-- the bodies of the four records
abbrev pub triangles_body : Shape → Image → List ℕ
triangles_body sh x = float_bytes sh.float x.triangles 0 (length x.triangles)

abbrev pub order_body : Shape → Image → List ℕ
order_body sh x = number_bytes sh.entry x.order 0 (length x.order)

abbrev pub nodes_body : Shape → Image → List ℕ
nodes_body sh x = concat_map (node_bytes sh x.links x.boxes) x.nodes

-- the four records, one behind the other
unfoldable pub image_bytes : Shape → Image → List ℕ
image_bytes sh x =
    record_of 1 (settings_bytes sh x.settings) ++ record_of 2 (triangles_body sh x) ++ record_of 3 (order_body sh x) ++ record_of 4 (nodes_body sh x)

-- ---- what an image of t triangles and n nodes holds
-- the leaf minimum that a stored one stands for
unfoldable pub leaf_in : Shape → (stored : ℕ) → ℕ
leaf_in sh stored = cond (eqb stored 0) sh.zero_leaf stored

-- the settings' record is the first, so its numbers stand at fixed places
unfoldable pub settings_in : Shape → List ℕ → Settings
settings_in sh s = record { strategy = little_at 2 s 8; leaf_minimum = leaf_in sh (little_at 2 s 10); maximum_depth = little_at 2 s 12 }

-- kind, left and right of node i, of the nodes that stand from start on
unfoldable pub links_in : Shape → List ℕ → ℕ → ℕ → List ℕ
links_in sh s start i = numbers_in 2 s (start + node_size sh * i) 1 ++ numbers_in sh.entry s (start + node_size sh * i + 2) 2

-- the box of node i, behind its links
unfoldable pub sides_in : Shape → List ℕ → ℕ → ℕ → List Float
sides_in sh s start i = floats_in sh.float s (start + node_size sh * i + (2 + 2 * sh.entry)) 6

-- every record begins where the one before it ends, which the counts say
unfoldable pub image_in : Shape → List ℕ → ℕ → ℕ → Image
image_in sh s t n = record {
  settings = settings_in sh s;
  triangles = floats_in sh.float s 20 (9 * t);
  order = numbers_in sh.entry s (order_start sh t) t;
  nodes = n;
  links = concat_map (links_in sh s (nodes_start sh t)) n;
  boxes = concat_map (sides_in sh s (nodes_start sh t)) n;
}
