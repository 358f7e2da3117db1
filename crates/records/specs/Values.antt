-- Bodies and layouts of the code as the definitions' own. The contracts compare by these.
use Rattle.std.specs.Prelude.{◌≡◌, ℕ, ◌*◌, ◌/◌, Bool, cond, List, Option, Result, Ok, Err}
use Rattle.std.specs.Bool.{then_some}
use Rattle.spec_records.specs.Little.{little_at}
use Rattle.spec_records.specs.Records.{Layout, wrong, bodies, size_at, is_right}
use Rattle.spec_records.specs.Layouts.{Shape, version1, version2, version_for, node_size, settings_right, triangles_right, image_spans, gauge_spans}
use Rattle.records.specs.declared.layout.WrongRecord.{WrongRecord}
use Rattle.records.specs.declared.layout.ImageCounts.{ImageCounts}
use Rattle.records.specs.declared.layout.GaugeCounts.{GaugeCounts}
use Rattle.records.specs.declared.versions.Version.{Version}

-- the shape of a version
abbrev pub shape_of : Version → Shape
shape_of Version.One = version1
shape_of Version.Two = version2

-- the size of the body of a record, if it is right
abbrev pub body_if : Bool → ℕ → Option ℕ
body_if right size = then_some right size

-- records 1 and 2 at the front: the size of the second's body, or the first that is wrong
abbrev pub opening_if : (settings triangles : Bool) (size : ℕ) → Result ℕ WrongRecord
opening_if settings triangles size = cond settings (cond triangles (Ok size) (Err (record { at = 14 }))) (Err (record { at = 0 }))

abbrev pub opening_of : List ℕ → Result ℕ WrongRecord
opening_of s = opening_if (is_right 1 settings_right s 0) (is_right 2 (triangles_right (little_at 2 s 6)) s 14) (size_at s 14)

-- the two are right, and behind them come so many bytes of order entries, and nodes of so many bytes each
pub record TreeNext (s : List ℕ) (triangles order node : ℕ) : Type 0 where
  pub front : opening_of s ≡ Ok triangles
  pub order_is : order ≡ (version_for (triangles / 36)).entry * (triangles / 36)
  pub node_is : node ≡ node_size (version_for (triangles / 36))

abbrev pub image_laid : Result ImageCounts WrongRecord → Layout
image_laid (Ok counts) = bodies (image_spans (version_for counts.triangles) counts.triangles counts.nodes)
image_laid (Err first) = wrong first.at

abbrev pub gauge_laid : Result GaugeCounts WrongRecord → Layout
gauge_laid (Ok counts) = bodies (gauge_spans counts.triangles counts.points counts.ruled)
gauge_laid (Err first) = wrong first.at
