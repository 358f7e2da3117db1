-- What the listing's check gives the depth's: where nothing broke, a way down from the root ends, and the look for a node that is too deep finds the first.
use mathlib.Core.Path.{◌≡◌}
use mathlib.Core.List.{List, [], ◌∷◌}
use Prim.Native.Nat.{ℕ, ◌-◌, ◌*◌, ◌≤◌, ◌<◌}
use native.Mathlib.Omega.{arith}
use lib.ListN.{length, replicate, length-replicate}
use Rattle.spec_lists.specs.Limits.{deepest}
use Rattle.spec_lists.specs.Refusals.{passes}
use Rattle.spec_tree.specs.Depth.{Descends}
use Rattle.spec_tree.specs.Reasons.{first_failing, scan, listing_refusal, is_shallow}
use Rattle.spec_tree.specs.Ways.{first_deep, Scanned, OneTree}
use Rattle.spec_tree.proofs.Scanned.{ended, listing_whole}
use Rattle.spec_tree.proofs.Down.{before_descends}
use Rattle.spec_tree.proofs.Deep.{deep_first}
use Rattle.spec_tree.proofs.Scanning.{scanned_falls}

-- where nothing broke, the way down from the last node ends
pub scanned_descends : (n : ℕ) (links : List ℕ) (nodes entry : ℕ) → 0 < nodes → 3 * nodes ≤ length links → Scanned n links nodes entry
    → Descends links (nodes - 1)
scanned_descends n links nodes entry some there s =
    before_descends links nodes some there (scanned_falls n links nodes there nodes entry s (omega arith))

-- where 73 passed, nothing broke
passed_scanned : (n : ℕ) (links : List ℕ) (nodes : ℕ) → listing_refusal n links nodes ≡ passes → Scanned n links nodes n
unfolding listing_refusal
passed_scanned n links nodes e = let end = ended n [] links (nodes - 1) (scan n links nodes) e in record { roots = end.0 ∷ []; is = end.1 }

module _ (links : List ℕ) (nodes : ℕ) (one : OneTree links nodes) where
  -- the way down from the root of one tree ends
  pub one_descends : Descends links (nodes - 1)
  one_descends =
      scanned_descends one.triangles links nodes one.triangles one.some one.there
      (passed_scanned one.triangles links nodes one.listed)

  -- the look for a node that is too deep finds the first
  pub one_deep : first_deep links deepest (nodes - 1) ≡ first_failing (is_shallow links nodes) nodes
  one_deep =
      let found = listing_whole one.triangles (replicate one.triangles 0) links (omega (arith, length-replicate {A = ℕ} one.triangles 0)) nodes
      one.there one.listed in
      deep_first links nodes found.0 found.1.root_is found.1.links_stand
