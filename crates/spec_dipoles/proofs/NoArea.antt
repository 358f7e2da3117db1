-- Nodes without area: triangles without a normal leave the sums empty, and the dipole of empty sums has no centre and is never used.
use mathlib.Core.Path.{◌≡◌, refl, ap₂, ◌∙◌}
use mathlib.Core.Bool.{false}
use mathlib.Core.List.{List, [], ◌∷◌}
use Prim.Native.Nat.{ℕ}
use lib.Ieee.{Float, Format, binary32, binary64, nan, inf, fin, add, sub, neg, mul, div, lt, round}
use Rattle.spec_numbers.specs.Axes.{Axis, X, Y, Z}
use Rattle.spec_tables.specs.Each.{Each}
use Rattle.spec_tables.proofs.Each.{each_in_front, each_behind}
use Rattle.spec_shapes.specs.Points.{Point, at, plus, minus, divided_by, dot}
use Rattle.spec_shapes.specs.Boxes.{Box}
use Rattle.spec_shapes.specs.Triangles.{Triangle}
use Rattle.spec_angles.specs.Root.{root_or_nan}
use Rattle.spec_angles.specs.Winding.{norm}
use Rattle.spec_tree.specs.Trees.{Tree, leaf, branch, numbers}
use Rattle.spec_dipoles.specs.Matrices.{zeros, added}
use Rattle.spec_dipoles.specs.Sums.{Dipole, dipole_of, has_normal, no_sums, with_next, leaf_sums, joined_sums, tree_sums}
use Rattle.spec_dipoles.specs.Far.{is_far, is_used}

-- ---- empty sums
-- two nodes without sums make a node without sums
pub nothing_joined : (f : Format) → joined_sums f no_sums no_sums ≡ no_sums
unfolding joined_sums no_sums added plus zeros add round
nothing_joined binary32 = refl
nothing_joined binary64 = refl

module _ (f : Format) (triangle : ℕ → Triangle) where
  -- the triangle has no normal
  abbrev Flat : ℕ → Type 0
  Flat k = has_normal f (triangle k) ≡ false

  -- a leaf of triangles without a normal has no sums
  pub flat_leaf : (slice : List ℕ) → Each Flat slice → leaf_sums f triangle slice ≡ no_sums
  unfolding leaf_sums with_next
  flat_leaf [] h = refl
  flat_leaf (k ∷ ks) h = rw h.0 (flat_leaf ks h.1)

  -- nor has a tree of them
  pub flat_tree : (t : Tree) → Each Flat (numbers t) → tree_sums f triangle t ≡ no_sums
  unfolding tree_sums numbers
  flat_tree (leaf slice) h = flat_leaf slice h
  flat_tree (branch l r) h =
      ap₂ (joined_sums f) (flat_tree l (each_in_front Flat (numbers l) (numbers r) h)) (flat_tree r (each_behind Flat (numbers l) (numbers r) h))
      ∙ nothing_joined f

-- ---- their dipole
-- without an area there is no centre
pub no_area_no_centre : (f : Format) (box : Box) (i : Axis) → at (dipole_of f box no_sums).centre i ≡ nan
unfolding dipole_of no_sums divided_by div
no_area_no_centre f box X = refl
no_area_no_centre f box Y = refl
no_area_no_centre f box Z = refl

less_nan : (f : Format) (x : Float) → sub f x nan ≡ nan
unfolding sub add neg
less_nan f nan = refl
less_nan f (inf s) = refl
less_nan f (fin s m e) = refl

under_nan : (x : Float) → lt x nan ≡ false
unfolding lt
under_nan nan = refl
under_nan (inf s) = refl
under_nan (fin s m e) = refl

-- from a centre that is no number nothing is far
pub no_centre_is_near : (f : Format) (d : Dipole) (accuracy : Float) (q : Point) → d.centre.x ≡ nan → is_used f d accuracy q ≡ false
unfolding is_used is_far norm minus dot root_or_nan mul add
no_centre_is_near f d accuracy q h = rw (h, less_nan f q.x) (rw (under_nan _))

-- so a node without area is never used as far: the walk goes down, whatever box it has
pub no_area_is_near : (f : Format) (box : Box) (accuracy : Float) (q : Point) → is_used f (dipole_of f box no_sums) accuracy q ≡ false
no_area_is_near f box accuracy q = no_centre_is_near f (dipole_of f box no_sums) accuracy q (no_area_no_centre f box X)
