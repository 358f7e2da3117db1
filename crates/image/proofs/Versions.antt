-- What is the same in both versions, and which of the two code picked.
use mathlib.Core.Path.{◌≡◌, refl, ap, ◌∙◌}
use Prim.Native.Nat.{ℕ}
use lib.Ieee.{Float, binary32}
use mathlib.Core.List.{List}
use Rattle.spec_lists.specs.Reading.{triangle_count}
use Rattle.spec_records.specs.Layouts.{Shape, version_for}
use Rattle.records.specs.declared.versions.Version.{Version}
use Rattle.records.specs.Values.{shape_of}

-- the floats of both versions are f32
pub same_float : (version : Version) → (shape_of version).float ≡ binary32
same_float Version.One = refl
same_float Version.Two = refl

-- the version that code picked for a list, by how many triangles it has
pub version_counted : {shape : Shape} {t : ℕ} (xs : List Float) → shape ≡ version_for t → t ≡ triangle_count xs → shape ≡ version_for (triangle_count xs)
version_counted xs picked counted = picked ∙ ap version_for counted
