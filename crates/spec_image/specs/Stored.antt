-- What can be written, what comes back, and what a right layout says.
use Rattle.std.specs.Prelude.{ℕ, ◌+◌, ◌*◌, ◌%◌, ◌^◌, ◌≤◌, ◌<◌, ◌≡◌, List, length, take}
use Rattle.spec_records.specs.Little.{little_at}
use Rattle.spec_records.specs.Entries.{FitBytes, FitFormat}
use Rattle.spec_records.specs.Records.{size_at}
use Rattle.spec_records.specs.Layouts.{Shape, triangle_size, node_size, order_start, image_size}
use Rattle.spec_image.specs.Image.{Image, leaf_in}

-- nine numbers a triangle, as many order entries as triangles, and the nodes' links and boxes
pub record Complete (x : Image) : Type 0 where
  pub triples : length x.triangles ≡ 9 * length x.order
  pub linked : 3 * x.nodes ≤ length x.links
  pub boxed : 6 * x.nodes ≤ length x.boxes

-- every number fits its bytes, and every float is one of the format
pub record Storable (sh : Shape) (x : Image) : Type 0 where
  pub complete : Complete x
  pub version : sh.version < 256 ^ 2
  pub strategy : x.settings.strategy < 256 ^ 2
  pub leaf_minimum : leaf_in sh (x.settings.leaf_minimum % 256 ^ 2) ≡ x.settings.leaf_minimum
  pub maximum_depth : x.settings.maximum_depth < 256 ^ 2
  pub corners : FitFormat sh.float x.triangles 0 (length x.triangles)
  pub entries : FitBytes sh.entry x.order 0 (length x.order)
  pub kinds : (i : ℕ) → i < x.nodes → FitBytes 2 x.links (3 * i) 1
  pub sides : (i : ℕ) → i < x.nodes → FitBytes sh.entry x.links (3 * i + 1) 2
  pub bounds : (i : ℕ) → i < x.nodes → FitFormat sh.float x.boxes (6 * i) 6
  pub few : triangle_size sh * length x.order < 256 ^ 4
  pub few_entries : sh.entry * length x.order < 256 ^ 4
  pub few_nodes : node_size sh * x.nodes < 256 ^ 4

-- the image with no more links and boxes than its nodes have
abbrev pub used : Image → Image
used x = record {
  settings = x.settings;
  triangles = x.triangles;
  order = x.order;
  nodes = x.nodes;
  links = take (3 * x.nodes) x.links;
  boxes = take (6 * x.nodes) x.boxes;
}

-- the sizes, the kinds and the version that stand in an image of t triangles and n nodes
pub record ImageIs (sh : Shape) (s : List ℕ) (t n : ℕ) : Type 0 where
  pub size1 : size_at s 0 ≡ 8
  pub kind1 : little_at 2 s 4 ≡ 1
  pub version : little_at 2 s 6 ≡ sh.version
  pub size2 : size_at s 14 ≡ triangle_size sh * t
  pub kind2 : little_at 2 s 18 ≡ 2
  pub size3 : size_at s (20 + triangle_size sh * t) ≡ sh.entry * t
  pub kind3 : little_at 2 s (20 + triangle_size sh * t + 4) ≡ 3
  pub size4 : size_at s (order_start sh t + sh.entry * t) ≡ node_size sh * n
  pub kind4 : little_at 2 s (order_start sh t + sh.entry * t + 4) ≡ 4
  pub long : image_size sh t n ≡ length s
