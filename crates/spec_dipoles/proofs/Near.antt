-- Where no node is used as far, the winding number by dipoles is the leaves' exact winding numbers added up along the tree.
use mathlib.Core.Path.{◌≡◌}
use mathlib.Core.Bool.{false}
use mathlib.Core.List.{List}
use Prim.Native.Nat.{ℕ, zero, suc, ◌-◌, ◌≤◌, ◌<◌}
use native.Mathlib.Omega.{arith}
use lib.Ieee.{Float, Format}
use Rattle.spec_lists.specs.Limits.{deepest}
use Rattle.spec_lists.specs.Reading.{triangle_at, box_at, triangle_count}
use Rattle.spec_shapes.specs.Points.{Point}
use Rattle.spec_shapes.specs.Boxes.{Box}
use Rattle.spec_shapes.specs.Triangles.{Triangle}
use Rattle.spec_tree.specs.Trees.{Tree, leaf, branch, levels, left_at, right_at}
use Rattle.spec_tree.specs.Accepted.{Listing}
use Rattle.spec_tree.specs.Hangs.{Hangs}
use Rattle.spec_tree.proofs.Accepted.{listing_some}
use Rattle.spec_tree.proofs.Hangs.{listing_hangs}
use Rattle.spec_dipoles.specs.Sums.{Dipole}
use Rattle.spec_dipoles.specs.Far.{is_used}
use Rattle.spec_dipoles.specs.Fast.{fast_at, along_tree}
use Rattle.spec_dipoles.specs.Calls.{dipole_at, fast_about}

module _ (f : Format) (triangle : ℕ → Triangle) (over : ℕ → Box) (order links : List ℕ) (boxes : List Float) (dipole : ℕ → Dipole) (accuracy : Float)
    (q : Point) where
  hangs_near : (t : Tree) (most node : ℕ) → levels t ≤ most → Hangs over order links boxes t node
      → ((k : ℕ) → k ≤ node → is_used f (dipole k) accuracy q ≡ false)
      → fast_at f triangle order links dipole accuracy q most node ≡ along_tree f triangle q t
  unfolding fast_at along_tree levels
  hangs_near (leaf slice) zero node w h near = absurd (omega arith)
  hangs_near (leaf slice) (suc most) node w h near = rw (near node (omega arith), h.kind_is, h.slice_is)
  hangs_near (branch l r) zero node w h near = absurd (omega arith)
  hangs_near (branch l r) (suc most) node w h near =
      let left =
      hangs_near l most (left_at links node) (omega arith) h.left (λ (k : ℕ) (b : k ≤ left_at links node). near k (omega (arith, h.left_before))) in
      let right =
      hangs_near r most (right_at links node) (omega arith) h.right (λ (k : ℕ) (b : k ≤ right_at links node). near k (omega (arith, h.right_before))) in
      rw (near node (omega arith), h.kind_is, left, right)

-- A point from which no node is used as far has its exact winding number, summed along the tree, whatever the dipoles are.
pub near_is_exact : (f : Format) (triangles : List Float) (order links : List ℕ) (boxes : List Float) (nodes : ℕ) (sums : List Float) (accuracy : Float)
    (q : Point) (t : Tree)
    → Listing (box_at triangles) (triangle_count triangles) order links boxes nodes t
    → ((k : ℕ) → k < nodes → is_used f (dipole_at sums k) accuracy q ≡ false)
    → fast_about f triangles order links nodes sums accuracy q ≡ along_tree f (triangle_at triangles) q t
unfolding fast_about
near_is_exact f triangles order links boxes nodes sums accuracy q t s near =
    let some : 1 ≤ nodes = listing_some (box_at triangles) (triangle_count triangles) order links boxes nodes t s in
    hangs_near f (triangle_at triangles) (box_at triangles) order links boxes (dipole_at sums) accuracy q t deepest (nodes - 1) s.shallow
    (listing_hangs (box_at triangles) (triangle_count triangles) order links boxes nodes t s) (λ (k : ℕ) (b : k ≤ nodes - 1). near k (omega arith))
