-- The call `fast_winding`: what its tests give the walk, and what stands in the lent list when it is done, or refused.
use mathlib.Core.Path.{◌≡◌}
use mathlib.Core.Bool.{true}
use mathlib.Core.List.{List}
use Prim.Native.Nat.{ℕ, ◌/◌, ◌≤◌}
use lib.ListN.{length}
use lib.Ieee.{Float, Format}
use Rattle.spec_tables.specs.Tables.{overwrite}
use Rattle.spec_lists.specs.Reading.{point_count}
use Rattle.spec_lists.specs.Refusals.{Verdict, passes, refuses}
use Rattle.spec_lists.proofs.Verdicts.{all_pass, refusal_leaves}
use Rattle.spec_lists.proofs.Passed.{room_passed}
use Rattle.spec_dipoles.specs.Calls.{fast_refusal, fast_windings, after_fast}
use Rattle.spec_dipoles.specs.Stored.{RootIn}
use Rattle.spec_tree.proofs.Unchanged.{tree_passed}
use Rattle.spec_dipoles.proofs.Readable.{accepted_root}

module _ (triangles : List Float) (order links : List ℕ) (boxes : List Float) (nodes : ℕ) where
  module _ (sums points : List Float) (accuracy : Float) (old : List Float) where
    -- a call that refuses keeps its contract by leaving the lent list as it was
    pub fast_as_it_was : (f : Format) (v : Verdict) → v ≡ fast_refusal triangles order links boxes nodes sums points accuracy (length old) → refuses v ≡ true
        → old ≡ after_fast f triangles order links boxes nodes sums accuracy points old
    unfolding after_fast
    fast_as_it_was f v is h = rw (← is) (refusal_leaves v (overwrite 0 (fast_windings f triangles order links nodes sums accuracy points) old) old h)

    module _ (pass : fast_refusal triangles order links boxes nodes sums points accuracy (length old) ≡ passes) where
      -- a call that passed its tests has room for a number a point
      pub fast_room : point_count points ≤ length old
      unfolding fast_refusal
      fast_room = room_passed (length old) (point_count points) (all_pass _ pass).1.0

      -- and has all that the walk needs from the root down
      pub fast_root : RootIn triangles order links sums nodes
      unfolding fast_refusal
      fast_root =
          let each = all_pass _ pass in
          accepted_root triangles order links boxes nodes (tree_passed triangles order links boxes nodes each.1.1.1.0) sums
          (room_passed (length sums / 16) nodes each.1.1.0)

      -- and keeps its contract by writing every number
      pub fast_written : (f : Format) (new : List Float) → new ≡ overwrite 0 (fast_windings f triangles order links nodes sums accuracy points) old
          → new ≡ after_fast f triangles order links boxes nodes sums accuracy points old
      unfolding after_fast
      fast_written f new e = rw (e, pass)
