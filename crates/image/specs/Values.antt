-- The image and the answers of the code as the definitions' own, and what the calls leave in the lent lists. The contracts compare by these.
use Rattle.std.specs.Prelude.{ℕ, List, Float, Result, Ok, Err, ◌≡◌, ◌≤◌, ◌*◌, length}
use Rattle.spec_image.specs.Image.{Image}
use Rattle.lists.specs.declared.settings.Settings.{Settings}
use Rattle.lists.specs.declared.refusal.Refusal.{Refusal}
use Rattle.lists.specs.Values.{number_of, place_of, as_settings}
use Rattle.spec_tables.specs.Tables.{overwrite}
use Rattle.spec_image.specs.Reading as Reading
use Rattle.spec_image.specs.Writing as Writing
use Rattle.image.specs.declared.read.Rooms.{Rooms}
use Rattle.image.specs.declared.read.ImageRead.{ImageRead}

abbrev pub image_of : Settings → List Float → List ℕ → List ℕ → List Float → ℕ → Image
image_of s triangles order links boxes nodes = record {
  settings = as_settings s;
  triangles = triangles;
  order = order;
  nodes = nodes;
  links = links;
  boxes = boxes;
}

-- lists with three links and six box numbers for each of so many nodes
abbrev pub NodesFit : (nodes : ℕ) → List ℕ → List Float → Type 0
NodesFit nodes links boxes = (3 * nodes ≤ length links) × (6 * nodes ≤ length boxes)

-- the image's triangles and its tree stand at the front of the lent lists, and all else is as it was
pub record ListsRead (x : Image) (t : List Float) (o l : List ℕ) (b t' : List Float) (o' l' : List ℕ) (b' : List Float) : Type 0 where
  pub triangles : t' ≡ overwrite 0 x.triangles t
  pub order : o' ≡ overwrite 0 x.order o
  pub links : l' ≡ overwrite 0 x.links l
  pub boxes : b' ≡ overwrite 0 x.boxes b

abbrev pub image_from : (strategy leaf_minimum maximum_depth : ℕ) → List Float → List ℕ → List ℕ → List Float → ℕ → Image
image_from strategy leaf_minimum maximum_depth triangles order links boxes nodes = record {
  settings = record { strategy = strategy; leaf_minimum = leaf_minimum; maximum_depth = maximum_depth };
  triangles = triangles;
  order = order;
  nodes = nodes;
  links = links;
  boxes = boxes;
}

abbrev pub rooms_of : Rooms → Reading.Rooms
rooms_of r = record { triangles = r.triangles; order = r.order; links = r.links; boxes = r.boxes }

abbrev pub answer_of : Result ImageRead Refusal → Reading.ImageRead
answer_of (Ok read) = Reading.holds (as_settings read.settings) read.triangles read.nodes
answer_of (Err r) = Reading.refused (number_of r) (place_of r)

abbrev pub rooms_in : List Float → List ℕ → List ℕ → List Float → Reading.Rooms
rooms_in t o l b = record { triangles = length t; order = length o; links = length l; boxes = length b }

-- what reading an image answers and leaves: the layout, then the room, then the lists
pub record ReadIs (s : List ℕ) (r : Result ImageRead Refusal)
    (t : List Float) (o l : List ℕ) (b t' : List Float) (o' l' : List ℕ) (b' : List Float) : Type 0 where
  pub answer : answer_of r ≡ Reading.image_read s (rooms_in t o l b)
  pub filled : ListsRead (Reading.filled_by s (answer_of r)) t o l b t' o' l' b'

abbrev pub as_written : Result ℕ Refusal → Writing.ImageWritten
as_written (Ok bytes) = Writing.wrote bytes
as_written (Err r) = Writing.refused (number_of r) (place_of r)

-- what writing an image answers and leaves: the tests, then the bytes
pub record WrittenIs (x : Image) (r : Result ℕ Refusal) (out out' : List ℕ) : Type 0 where
  pub answer : as_written r ≡ Writing.image_written x (length out)
  pub filled : out' ≡ Writing.bytes_after x out
