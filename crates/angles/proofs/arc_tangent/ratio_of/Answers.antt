-- `angles::arc_tangent::ratio_of` meets its contract: the smaller magnitude is divided by the larger.
use Rattle.std.proofs.Common.{◌≡◌, true, false}
use lib.Ieee.{Float, binary32, lt, div}
use Rattle.spec_numbers.specs.Values.{abs}
use Rattle.spec_angles.specs.Angle.{ratio}
use Rattle.angles.proofs.arc_tangent.ratio_of.Goals as goal

-- a and b are the magnitudes of n and d
module _ (n d a b : Float) (p : a ≡ abs n) (q : b ≡ abs d) where
  steep : lt b a ≡ true → div binary32 b a ≡ ratio binary32 n d
  unfolding ratio
  steep h = rw (p, q, rw (p, q) at h)

  flat : lt b a ≡ false → div binary32 a b ≡ ratio binary32 n d
  unfolding ratio
  flat h = rw (p, q, rw (p, q) at h)

pub returns-then-a-b : goal.returns-then-a-b
returns-then-a-b c = steep _ _ _ _ c.absolute-a.ensures c.absolute-b.ensures c.if-a-b.true

pub returns-else-a-b : goal.returns-else-a-b
returns-else-a-b c = flat _ _ _ _ c.absolute-a.ensures c.absolute-b.ensures c.if-a-b.false
