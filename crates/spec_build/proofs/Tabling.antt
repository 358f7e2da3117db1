-- The tables: the boxes that were put there are read again, and so are the centres, on each axis.
use mathlib.Core.Path.{◌≡◌, refl, sym, ap, ap₂, ◌∙◌}
use mathlib.Core.Logic.{◌⊎◌, inl, inr, ⊎_elim}
use mathlib.Core.List.{List, [], ◌∷◌, ◌++◌}
use Prim.Native.Nat.{ℕ, ◌+◌, ◌*◌, ◌/◌, ◌≤◌, ◌<◌}
use native.Mathlib.Decide.{dec_lt}
use native.Mathlib.Omega.{arith}
use lib.ListN.{length, take, drop, get_or}
use lib.Ieee.{Float, Format, nan}
use Rattle.spec_tables.specs.Tables.{overwrite, concat_map, slice}
use Rattle.spec_tables.proofs.Tables.{length_concat_map, length_overwrite}
use Rattle.spec_numbers.specs.Axes.{Axis, X, Y, Z}
use Rattle.spec_splits.specs.Splits.{place, box_in}
use Rattle.spec_tree.proofs.Standing.{slice_length}
use Rattle.spec_build.specs.Tries.{centre_on}
use Rattle.spec_build.specs.Growing.{rows, keys_on, CentresPut, Centred}
use Rattle.spec_build.proofs.Slices.{put_back, slice_written, slice_in_front, slice_behind, concat_map_at, front_at}

-- ---- the slices of the table of centres
-- an axis's slice lies within the three
pub place_room : (axis : Axis) (r : ℕ) → place axis * r + r ≤ 3 * r
place_room X r = omega arith
place_room Y r = omega arith
place_room Z r = omega arith

-- the slice of an earlier axis ends where the next one begins, or in front of it
place_apart : (a b : Axis) (r : ℕ) → place a < place b → place a * r + r ≤ place b * r
place_apart X Y r h = omega arith
place_apart X Z r h = omega arith
place_apart Y Z r h = omega arith
place_apart X X r h = absurd (omega arith)
place_apart Y X r h = absurd (omega arith)
place_apart Y Y r h = absurd (omega arith)
place_apart Z X r h = absurd (omega arith)
place_apart Z Y r h = absurd (omega arith)
place_apart Z Z r h = absurd (omega arith)

-- the slices make up no more than the table
pub rows_within : (axis : Axis) (centres : List Float) → place axis * rows centres + rows centres ≤ length centres
rows_within axis centres = omega (arith, place_room axis (rows centres))

-- the slice of the table that is lent to the sort is the axis's centres
pub keys_lent : (axis : Axis) (centres : List Float) (first size : ℕ) → first ≡ place axis * rows centres → size ≡ rows centres
    → slice centres first size ≡ keys_on axis centres
keys_lent axis centres first size e sized = ap₂ (λ (a k : ℕ). slice centres a k) e sized

-- it has an entry a triangle that the table has room for
pub keys_long : (axis : Axis) (centres : List Float) (first size : ℕ) → first ≡ place axis * rows centres → size ≡ rows centres
    → length (slice centres first size) ≡ rows centres
keys_long axis centres first size e sized = slice_length centres first size (omega (arith, rows_within axis centres)) ∙ sized

-- ---- the centres on one axis
module _ (f : Format) (bounds : List Float) (axis : Axis) (count first size : ℕ) (old keys' : List Float) (few : count ≤ rows old)
    (at : first ≡ place axis * rows old) (sized : size ≡ rows old)
    (keys-are : keys' ≡ overwrite 0 (concat_map (λ t. centre_on f (box_in bounds) axis t ∷ []) count) (slice old first size)) where
  pieces : List Float
  pieces = concat_map (λ t. centre_on f (box_in bounds) axis t ∷ []) count

  pieces_long : length pieces ≡ count
  unfolding pieces
  pieces_long = length_concat_map (λ t. centre_on f (box_in bounds) axis t ∷ []) 1 count (λ t. refl) ∙ omega arith

  slice_long : length (slice old first size) ≡ rows old
  slice_long = keys_long axis old first size at sized

  keys_long' : length keys' ≡ rows old
  unfolding pieces
  keys_long' = ap length keys-are ∙ length_overwrite 0 pieces (slice old first size) (omega (arith, pieces_long, slice_long)) ∙ slice_long

  centres : List Float
  centres = overwrite (place axis * rows old) keys' old

  room : place axis * rows old + length keys' ≤ length old
  room = omega (arith, keys_long', rows_within axis old)

  centres_long : length centres ≡ length old
  unfolding centres
  centres_long = length_overwrite (place axis * rows old) keys' old room

  -- the slices lie where they lay
  keys_now : (other : Axis) → keys_on other centres ≡ slice centres (place other * rows old) (rows old)
  keys_now other =
      let same : rows old ≡ rows centres = ap (λ (n : ℕ). n / 3) (sym centres_long) in
      sym (keys_lent other centres (place other * rows old) (rows old) (ap (λ (r : ℕ). place other * r) same) same)

  apart : (other : Axis) → (place other ≡ place axis → ⊥) → (place other < place axis) ⊎ (place axis < place other)
  apart other e = go (dec_lt (place other) (place axis))
    where
      go : Dec (place other < place axis) → (place other < place axis) ⊎ (place axis < place other)
      go (yes l) = inl l
      go (no l) = inr (omega arith)

  -- one axis's centres, lent and put back, stand in their slice of the table, and the other axes are as they were
  pub centres_put : (new : List Float) → new ≡ take first old ++ (keys' ++ drop size (drop first old)) → CentresPut f bounds axis count old new
  unfolding pieces centres
  centres_put new e =
      let is : new ≡ centres = e ∙ put_back first size keys' old (keys_long' ∙ sym sized) ∙ ap (λ (k : ℕ). overwrite k keys' old) at in
      record {
        here = λ t h.
            ap (λ (l : List Float). get_or (keys_on axis l) t nan) is
            ∙ ap (λ (l : List Float). get_or l t nan) (keys_now axis ∙ slice_written (place axis * rows old) keys' old room (rows old) keys_long' ∙ keys-are)
            ∙ front_at pieces (slice old first size) t nan (omega (arith, pieces_long))
            ∙ concat_map_at (centre_on f (box_in bounds) axis) count t nan h;
        elsewhere = λ other d.
            ap (keys_on other) is
            ∙ keys_now other
            ∙ ⊎_elim
            (λ (l : place other < place axis).
            slice_in_front (place axis * rows old) keys' old room (place other * rows old) (rows old) (place_apart other axis (rows old) l))
            (λ (l : place axis < place other).
            slice_behind (place axis * rows old) keys' old room (place other * rows old) (rows old)
            (omega (arith, keys_long', place_apart axis other (rows old) l)))
            (apart other d);
        long = ap length is ∙ centres_long;
      }

-- made axis by axis, the table holds the centres on all three
pub all_centred : (f : Format) (bounds : List Float) (count : ℕ) (old x y z : List Float) → CentresPut f bounds X count old x → CentresPut f bounds Y count x y
    → CentresPut f bounds Z count y z → Centred f bounds count old z
all_centred f bounds count old x y z p q r = record { centre_is = at; long = r.long ∙ q.long ∙ p.long }
  where
    at : (axis : Axis) (t : ℕ) → t < count → get_or (keys_on axis z) t nan ≡ centre_on f (box_in bounds) axis t
    at X t h = ap (λ (l : List Float). get_or l t nan) (r.elsewhere X (λ e. omega arith) ∙ q.elsewhere X (λ e. omega arith)) ∙ p.here t h
    at Y t h = ap (λ (l : List Float). get_or l t nan) (r.elsewhere Y (λ e. omega arith)) ∙ q.here t h
    at Z t h = r.here t h
