-- `angles::arc_tangent::ArcTable::angle_of` meets its contract: the ratio, its units, their arc, and the arc mirrored into its quadrant.
use Rattle.std.proofs.Common.{◌≡◌, ℕ, ◌^◌, ◌≤◌, Bool, refl, le_trans, lit≤}
use lib.Ieee.{Float, binary32, lt, of_bits}
use Rattle.spec_numbers.specs.Values.{zero, abs}
use Rattle.spec_angles.specs.Angle.{Askable, AtMostOne, ratio, in_units, arc, quarter_turn, half_turn, mirrored, angle}
use Rattle.spec_angles.proofs.Ratio.{ratio_at_most_one}
use Rattle.spec_angles.proofs.InUnits.{in_units_few}
use Rattle.spec_angles.proofs.Arc.{arc_most, mirrored_most}
use Rattle.angles.proofs.arc_tangent.ArcTable.angle_of.Goals as goal

-- the steps one after another: the ratio t, its units u, the arc v, and the arc in its quarter w
module _ (n d t : Float) (k : Askable n d) (T' : t ≡ ratio binary32 n d) where
  at_most_one : AtMostOne binary32 t
  at_most_one = rw T' (ratio_at_most_one binary32 n d k)

  module _ (u : ℕ) (U : u ≡ in_units t) where
    few : u ≤ 2 ^ 30
    few = rw U (in_units_few binary32 t at_most_one)

    module _ (v : ℕ) (V' : v ≡ arc u) where
      in_quarter : v ≤ quarter_turn
      in_quarter = rw V' (le_trans (arc_most u few) (lit≤ tt))

      module _ (s : Bool) (w : ℕ) (W : w ≡ mirrored quarter_turn s v) where
        in_half : w ≤ half_turn
        in_half = rw W (le_trans (mirrored_most quarter_turn s v in_quarter) (lit≤ tt))

        all : (a b : Float) (r : ℕ) → a ≡ abs n → b ≡ abs d → s ≡ lt b a → r ≡ mirrored half_turn (lt d zero) w → r ≡ angle binary32 n d
        unfolding angle
        all a b r A B S R = rw (R, W, S, A, B, V', U, T') refl

pub units_of-requires : goal.units_of-requires
units_of-requires c = at_most_one _ _ _ c.requires c.ratio_of.ensures

pub arc_of-arc-requires : goal.arc_of-arc-requires
arc_of-arc-requires c = few _ _ _ c.requires c.ratio_of.ensures _ c.units_of.ensures

pub mirrored-requires : goal.mirrored-requires
mirrored-requires c =
    in_quarter _ _ _ c.requires c.ratio_of.ensures _ c.units_of.ensures _ c.arc_of-arc.ensures

pub mirrored-requires-2 : goal.mirrored-requires-2
mirrored-requires-2 c =
    in_half _ _ _ c.requires c.ratio_of.ensures _ c.units_of.ensures _ c.arc_of-arc.ensures _ _
    c.mirrored.ensures

pub returns : goal.returns
unfolding of_bits
returns c =
    all _ _ _ c.requires c.ratio_of.ensures _ c.units_of.ensures _ c.arc_of-arc.ensures _ _
    c.mirrored.ensures
    _ _ _ c.absolute.ensures c.absolute-2.ensures refl c.mirrored-2.ensures
