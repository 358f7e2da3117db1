-- Images for a C host: how large they get, what one holds, and the contracts of writing a drawing's lists and of reading them back.
use Rattle.std.specs.Prelude.{ℕ, ◌^◌, ◌<◌, ◌≡◌, not, cond, ◌&&◌, List, [], ◌∷◌, leb, length, Float}
use Rattle.spec_tables.specs.Tables.{overwrite}
use Rattle.spec_records.specs.Records.{Layout, wrong, bodies, laid_out}
use Rattle.spec_records.specs.Layouts.{version_for, image_wants, image_size}
use Rattle.spec_lists.specs.Limits.{max_triangles}
use Rattle.spec_lists.specs.Refusals.{Verdict, passes, refused, refused_if, first_refusal, Settings, room_refusal}
use Rattle.spec_build.specs.Build.{max_nodes, left_by}
use Rattle.spec_image.specs.Image.{Image, image_in}
use Rattle.spec_image.specs.Reading as Reading
use Rattle.spec_image.specs.Reading.{Rooms, ImageRead, room_for, triangles_in, nodes_in}
use Rattle.spec_image.specs.Writing as Writing
use Rattle.spec_image.specs.Writing.{ImageWritten, exact_size, write_refusal, bytes_after}
use Rattle.spec_host.specs.Status.{status, refusal_status, Placed}

-- the maximum size of an image of n triangles, by which a host lends room; 0 where there is no such image
unfoldable pub image_max : ℕ → ℕ
image_max n = cond (leb 1 n && leb n max_triangles) (image_size (version_for n) n (max_nodes n)) 0

-- ---- what an image holds, by its layout; of one that is laid out wrong nothing is used
abbrev pub layout_by : Layout → Verdict
layout_by (wrong at) = refused 10 at
layout_by (bodies spans) = passes

abbrev pub triangles_by : Layout → ℕ
triangles_by (wrong at) = 0
triangles_by (bodies spans) = triangles_in spans

abbrev pub nodes_by : Layout → ℕ
nodes_by (wrong at) = 0
nodes_by (bodies spans) = nodes_in spans

-- 10: the layout is wrong
unfoldable pub layout_refusal : (image : List ℕ) → Verdict
layout_refusal image = layout_by (laid_out image_wants image 0)

-- how many triangles
unfoldable pub image_triangles : (image : List ℕ) → ℕ
image_triangles image = triangles_by (laid_out image_wants image 0)

-- how many nodes
unfoldable pub image_nodes : (image : List ℕ) → ℕ
image_nodes image = nodes_by (laid_out image_wants image 0)

-- the settings and the lists, read by these counts
unfoldable pub contents : (image : List ℕ) → Image
contents image = image_in (version_for (image_triangles image)) image (image_triangles image) (image_nodes image)

-- ---- writing: 1 to 6 and 71 to 75 by the list call, and its bytes; the status counts bytes
pub record WritePut (x : Image) (old : List ℕ) (r : ℕ) (new : List ℕ) : Type 0 where
  pub status_is : r ≡ status (write_refusal x (length old)) (exact_size x)
  pub bytes_are : new ≡ bytes_after x old

-- ---- reading
-- the lists of a drawing that a host lends
pub record Drawing : Type 0 where
  pub settings : List ℕ
  pub triangles : List Float
  pub order : List ℕ
  pub links : List ℕ
  pub boxes : List Float

-- how many entries they have
abbrev pub rooms_of : Drawing → Rooms
rooms_of lent = record { triangles = length lent.triangles; order = length lent.order; links = length lent.links; boxes = length lent.boxes }

-- 10, then 6: the three settings, and what the image holds
unfoldable pub read_refusal : (image : List ℕ) → Drawing → Verdict
read_refusal image lent =
    first_refusal
    (layout_refusal image
    ∷ room_refusal (length lent.settings) 3
    ∷ refused_if (not (room_for (rooms_of lent) (image_triangles image) (image_nodes image))) 6 0
    ∷ [])

-- the settings as a list of three
abbrev pub settings_list : Settings → List ℕ
settings_list s = s.strategy ∷ s.leaf_minimum ∷ s.maximum_depth ∷ []

-- the lists hold what the image holds from the front, and behind it what they held; on a refusal what they held. The status counts nodes
pub record ReadPut (image : List ℕ) (old : Drawing) (r : ℕ) (new : Drawing) : Type 0 where
  pub status_is : r ≡ status (read_refusal image old) (image_nodes image)
  pub settings_are : new.settings ≡ left_by (read_refusal image old) (settings_list (contents image).settings) old.settings
  pub triangles_are : new.triangles ≡ left_by (read_refusal image old) (contents image).triangles old.triangles
  pub order_is : new.order ≡ left_by (read_refusal image old) (contents image).order old.order
  pub links_are : new.links ≡ left_by (read_refusal image old) (contents image).links old.links
  pub boxes_are : new.boxes ≡ left_by (read_refusal image old) (contents image).boxes old.boxes

-- 10, or else 6: what is refused where the list of the settings is short
unfoldable pub short_refusal : (image : List ℕ) → Verdict
short_refusal image = first_refusal (layout_refusal image ∷ refused 6 0 ∷ [])

-- ---- the list calls' answers as a status: a count, or a refusal whose place has bits enough
abbrev pub written_status : ImageWritten → ℕ
written_status (Writing.refused number place) = refusal_status number place
written_status (Writing.wrote bytes) = bytes

abbrev pub WrittenPlaced : ImageWritten → Type 0
WrittenPlaced (Writing.refused number place) = Placed number place
WrittenPlaced (Writing.wrote bytes) = Unit {0}

abbrev pub read_status : ImageRead → ℕ
read_status (Reading.refused number place) = refusal_status number place
read_status (Reading.holds settings t n) = n

-- settings that fit a list of u32
pub record SmallSettings (s : Settings) : Type 0 where
  pub strategy : s.strategy < 2 ^ 32
  pub leaf_minimum : s.leaf_minimum < 2 ^ 32
  pub maximum_depth : s.maximum_depth < 2 ^ 32

abbrev pub ReadPlaced : ImageRead → Type 0
ReadPlaced (Reading.refused number place) = Placed number place
ReadPlaced (Reading.holds settings t n) = SmallSettings settings

-- the list of the settings by what was read
abbrev pub settings_left : ImageRead → (old : List ℕ) → List ℕ
settings_left (Reading.refused number place) old = old
settings_left (Reading.holds settings t n) old = overwrite 0 (settings_list settings) old
