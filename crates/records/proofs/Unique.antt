-- No two layouts of the code stand for the same of the definitions.
use mathlib.Core.Path.{◌≡◌, refl, sym, ap, ◌∙◌}
use mathlib.Core.List.{List, [], ◌∷◌}
use mathlib.Core.Bool.{Bool, true, false}
use Prim.Native.Nat.{ℕ, zero, suc, ◌*◌, ◌/◌}
use native.Mathlib.Nat.{mul-div_cancel_left}
use native.Mathlib.Omega.{arith}
use lib.Dec.{ltb}
use Rattle.spec_records.specs.Records.{Span, Layout, wrong, bodies}
use Rattle.spec_records.specs.Layouts.{Shape, version_for, node_size, image_spans, rule_spans, gauge_spans}
use Rattle.spec_records.proofs.Layouts.{version_triangle}
use Rattle.std.specs.Prelude.{Result, Ok, Err}
use Rattle.records.specs.declared.layout.WrongRecord.{WrongRecord}
use Rattle.records.specs.declared.layout.ImageCounts.{ImageCounts}
use Rattle.records.specs.declared.layout.GaugeCounts.{GaugeCounts}
use Rattle.records.specs.Values.{image_laid, gauge_laid}

-- the size of the body in place i
abbrev size_at : List Span → ℕ → ℕ
size_at [] i = 0
size_at (s ∷ ss) zero = s.size
size_at (s ∷ ss) (suc i) = size_at ss i

triangles_counted : (n : ℕ) → 36 * n / 36 ≡ n
triangles_counted n = omega arith

-- ---- an image
abbrev back_image : Layout → Result ImageCounts WrongRecord
back_image (wrong at) = Err (record { at = at })
back_image (bodies ss) = Ok (record { triangles = size_at ss 1 / 36; nodes = size_at ss 3 / node_size (version_for (size_at ss 1 / 36)) })

image_is : (a : Result ImageCounts WrongRecord) → back_image (image_laid a) ≡ a
unfolding image_spans
image_is (Ok n) = rw (version_triangle n.triangles, triangles_counted n.triangles, nodes_counted (version_for n.triangles) n.nodes)
  where
    nodes_counted : (sh : Shape) (n : ℕ) → node_size sh * n / node_size sh ≡ n
    nodes_counted sh n = mul-div_cancel_left n (omega arith)
image_is (Err w) = refl

-- what the layout of an image stands for fixes it
pub image_unique : (a b : Result ImageCounts WrongRecord) → image_laid a ≡ image_laid b → a ≡ b
image_unique a b e = sym (image_is a) ∙ ap back_image e ∙ image_is b

-- ---- an input of `gauge`
-- a rule's body is not empty, and there is none of size 0
abbrev back_gauge : Layout → Result GaugeCounts WrongRecord
back_gauge (wrong at) = Err (record { at = at })
back_gauge (bodies ss) = Ok (record { triangles = size_at ss 1 / 36; points = size_at ss 2 / 12; ruled = ltb 0 (size_at ss 4) })

gauge_is : (a : Result GaugeCounts WrongRecord) → back_gauge (gauge_laid a) ≡ a
unfolding gauge_spans
gauge_is (Ok n) =
    rw (triangles_counted n.triangles, points_counted n.points)
    (ap (λ (ruled : Bool). Ok (record { triangles = n.triangles; points = n.points; ruled = ruled })) (told n.ruled))
  where
    points_counted : (n : ℕ) → 12 * n / 12 ≡ n
    points_counted n = omega arith

    told : (ruled : Bool) → ltb 0 (size_at (rule_spans n.triangles n.points ruled) 0) ≡ ruled
    told true = refl
    told false = refl
gauge_is (Err w) = refl

-- what the layout of an input stands for fixes it
pub gauge_unique : (a b : Result GaugeCounts WrongRecord) → gauge_laid a ≡ gauge_laid b → a ≡ b
gauge_unique a b e = sym (gauge_is a) ∙ ap back_gauge e ∙ gauge_is b
