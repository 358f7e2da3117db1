-- The bytes of an image depend on the links and boxes of its nodes alone, whatever stands behind them in the lent lists.
use mathlib.Core.Path.{◌≡◌, sym, ap, ◌∙◌}
use mathlib.Core.List.{List}
use Prim.Native.Nat.{ℕ, ◌+◌, ◌*◌, ◌≤◌, ◌<◌}
use native.Mathlib.Nat.{le_refl}
use native.Mathlib.Omega.{arith}
use lib.ListN.{take, get_or}
use lib.Seq.{get_or-take, take-take}
use lib.Ieee.{Float, nan, Format, to_bits}
use Rattle.spec_tables.proofs.Tables.{concat_map_same}
use Rattle.spec_records.specs.Little.{little}
use Rattle.spec_records.specs.Entries.{float_size, number_bytes, float_bytes}
use Rattle.spec_records.specs.Layouts.{Shape}
use Rattle.spec_image.specs.Image.{Image, node_bytes, image_bytes}
use Rattle.spec_image.specs.Stored.{used}

same_get_d : {A : Type 0} (d : A) (n k : ℕ) (l l' : List A) → take n l ≡ take n l' → k < n → get_or l k d ≡ get_or l' k d
same_get_d {A} d n k l l' e h = sym (get_or-take n l k d h) ∙ ap (λ (x : List A). get_or x k d) e ∙ get_or-take n l' k d h

numbers_same : (w n : ℕ) (l l' : List ℕ) (from m : ℕ) → take n l ≡ take n l' → from + m ≤ n → number_bytes w l from m ≡ number_bytes w l' from m
numbers_same w n l l' from m e h = concat_map_same _ _ m (λ i k. ap (little w) (same_get_d 0 n (from + i) l l' e (omega arith)))

floats_same : (f : Format) (n : ℕ) (l l' : List Float) (from m : ℕ) → take n l ≡ take n l' → from + m ≤ n → float_bytes f l from m ≡ float_bytes f l' from m
floats_same f n l l' from m e h =
    concat_map_same _ _ m (λ i k. ap (λ (x : Float). little (float_size f) (to_bits f x)) (same_get_d nan n (from + i) l l' e (omega arith)))

node_same : (sh : Shape) (n i : ℕ) (l l' : List ℕ) (b b' : List Float) → take (3 * n) l ≡ take (3 * n) l' → take (6 * n) b ≡ take (6 * n) b' → i < n
    → node_bytes sh l b i ≡ node_bytes sh l' b' i
unfolding node_bytes
node_same sh n i l l' b b' e f h =
    rw (
      numbers_same 2 (3 * n) l l' (3 * i) 1 e (omega arith),
      numbers_same sh.entry (3 * n) l l' (3 * i + 1) 2 e (omega arith),
      floats_same sh.float (6 * n) b b' (6 * i) 6 f (omega arith),
    )

-- images that agree on the nodes are written as the same bytes
pub image_used : (sh : Shape) (x : Image) (l : List ℕ) (b : List Float) → take (3 * x.nodes) l ≡ take (3 * x.nodes) x.links
    → take (6 * x.nodes) b ≡ take (6 * x.nodes) x.boxes
    → image_bytes sh (record { settings = x.settings; triangles = x.triangles; order = x.order; nodes = x.nodes; links = l; boxes = b }) ≡ image_bytes sh x
unfolding image_bytes
image_used sh x l b e f =
    rw (concat_map_same (node_bytes sh l b) (node_bytes sh x.links x.boxes) x.nodes (λ i h. node_same sh x.nodes i l x.links b x.boxes e f h))

-- so what stands behind the nodes' links and boxes is never written
pub used_bytes : (sh : Shape) (x : Image) → image_bytes sh (used x) ≡ image_bytes sh x
used_bytes sh x =
    image_used sh x (take (3 * x.nodes) x.links) (take (6 * x.nodes) x.boxes)
    (take-take (3 * x.nodes) (3 * x.nodes) x.links (le_refl _)) (take-take (6 * x.nodes) (6 * x.nodes) x.boxes (le_refl _))
