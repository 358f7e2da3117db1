-- What the sums and the walk need of the lists, from the tree check.
use mathlib.Core.Path.{◌≡◌}
use mathlib.Core.Bool.{true}
use mathlib.Core.List.{List}
use Prim.Native.Nat.{ℕ, ◌*◌, ◌/◌, ◌≤◌, ◌<◌}
use native.Mathlib.Omega.{arith}
use lib.ListN.{length}
use lib.Ieee.{Float}
use Rattle.spec_lists.specs.Reading.{box_at, triangle_count}
use Rattle.spec_tree.specs.Accepted.{accepted}
use Rattle.spec_tree.specs.Hangs.{Sound}
use Rattle.spec_tree.proofs.Accepted.{accepted_listed, listing_some}
use Rattle.spec_tree.proofs.Hangs.{listing_sound}
use Rattle.spec_dipoles.specs.Stored.{Readable, RootIn}

module _ (triangles : List Float) (order links : List ℕ) (boxes : List Float) (nodes : ℕ)
    (yes : accepted (box_at triangles) (triangle_count triangles) order links boxes nodes ≡ true) where
  sound : Sound (triangle_count triangles) order links boxes nodes
  sound =
      let listed = accepted_listed (box_at triangles) (triangle_count triangles) order links boxes nodes yes in
      listing_sound (box_at triangles) (triangle_count triangles) order links boxes nodes listed.0 listed.1

  -- every node of an accepted tree can be read, and so can the triangles of its leaves
  pub accepted_readable : Readable triangles order links nodes
  accepted_readable = record { links_there = sound.links_there; node_is = sound.node_is; entries = sound.entries }

  -- an accepted tree has a root, so a walk can begin at the last node
  pub accepted_some : 0 < nodes
  accepted_some =
      let listed = accepted_listed (box_at triangles) (triangle_count triangles) order links boxes nodes yes in
      listing_some (box_at triangles) (triangle_count triangles) order links boxes nodes listed.0 listed.1

  -- each node of an accepted tree has its box
  pub accepted_boxed : 6 * nodes ≤ length boxes
  accepted_boxed = sound.boxes_there

  -- with sixteen numbers a node the walk can begin at the root
  pub accepted_root : (sums : List Float) → nodes ≤ length sums / 16 → RootIn triangles order links sums nodes
  accepted_root sums enough = record { some = accepted_some; readable = accepted_readable; room = omega arith }
