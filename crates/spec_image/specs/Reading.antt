-- What reading an image answers and leaves in the lent lists: layout first, then room.
use Rattle.std.specs.Prelude.{ℕ, ◌*◌, ◌/◌, List, [], Bool, cond, ◌&&◌, get_or, leb}
use Rattle.spec_records.specs.Records.{Span, Layout, wrong, bodies, laid_out}
use Rattle.spec_records.specs.Layouts.{version_for, node_size, image_wants}
use Rattle.spec_lists.specs.Refusals.{Settings}
use Rattle.spec_image.specs.Image.{Image, settings_in, image_in}

-- how many entries the lent lists have
pub record Rooms : Type 0 where
  pub triangles : ℕ
  pub order : ℕ
  pub links : ℕ
  pub boxes : ℕ

-- a refusal's number and place, or what was read besides the lists
pub data ImageRead : Type 0 where
  refused : (number place : ℕ) → ImageRead
  holds : (settings : Settings) (triangles nodes : ℕ) → ImageRead

-- the lent lists have room for t triangles and n nodes
abbrev pub room_for : Rooms → ℕ → ℕ → Bool
room_for r t n = leb (9 * t) r.triangles && leb t r.order && leb (3 * n) r.links && leb (6 * n) r.boxes

-- 6 where there is no room for t triangles and n nodes
abbrev pub by_room : List ℕ → Rooms → ℕ → ℕ → ImageRead
by_room s r t n = cond (room_for r t n) (holds (settings_in (version_for t) s) t n) (refused 6 0)

-- the size of body k
abbrev pub size_of : List Span → ℕ → ℕ
size_of bs k = (get_or bs k (record { start = 0; size = 0 })).size

-- how many triangles the bodies of an image have, and how many nodes
abbrev pub triangles_in : List Span → ℕ
triangles_in bs = size_of bs 1 / 36

abbrev pub nodes_in : List Span → ℕ
nodes_in bs = size_of bs 3 / node_size (version_for (triangles_in bs))

-- 10 where the layout is wrong, and only then the room
abbrev pub judged : List ℕ → Rooms → Layout → ImageRead
judged s r (wrong at) = refused 10 at
judged s r (bodies bs) = by_room s r (triangles_in bs) (nodes_in bs)

-- what reading answers
unfoldable pub image_read : List ℕ → Rooms → ImageRead
image_read s r = judged s r (laid_out image_wants s 0)

-- what is written to the front of the lent lists: nothing on a refusal
abbrev pub filled_by : List ℕ → ImageRead → Image
filled_by s (refused number place) = record {
  settings = settings_in (version_for 0) s;
  triangles = [];
  order = [];
  nodes = 0;
  links = [];
  boxes = [];
}
filled_by s (holds settings t n) = image_in (version_for t) s t n
