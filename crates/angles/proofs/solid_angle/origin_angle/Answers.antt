-- `angles::solid_angle::origin_angle` meets its contract: the lengths, their test, and the angle of the directions.
use Rattle.std.proofs.Common.{◌≡◌, true, false, ◌||◌}
use lib.Ieee.{Float, binary32, eq, of_bits}
use Rattle.spec_numbers.specs.Values.{zero}
use Rattle.spec_shapes.specs.Points.{Point, divided_by}
use Rattle.spec_shapes.specs.Triangles.{Triangle}
use Rattle.spec_angles.specs.Winding.{norm, unit_angle, origin_angle}
use Rattle.angles.proofs.solid_angle.origin_angle.Goals as goal

-- l, m, n are the norms of the corners
module _ (t : Triangle) (l m n : Float) (L : l ≡ norm binary32 t.a) (M : m ≡ norm binary32 t.b) (N : n ≡ norm binary32 t.c) where
  here : (eq l zero || eq m zero || eq n zero) ≡ true → zero ≡ origin_angle binary32 t
  unfolding origin_angle
  here h = rw (rw (L, M, N) at h)

  away : (p q s : Point) (r : Float) → p ≡ divided_by binary32 t.a l → q ≡ divided_by binary32 t.b m → s ≡ divided_by binary32 t.c n
      → r ≡ unit_angle binary32 record { a = p; b = q; c = s }
      → (eq l zero || eq m zero || eq n zero) ≡ false → r ≡ origin_angle binary32 t
  unfolding origin_angle
  away p q s r P Q S R h = rw (rw (L, M, N) at h, R, P, Q, S, L, M, N)

pub returns-then-a-b : goal.returns-then-a-b
unfolding of_bits
returns-then-a-b c = here _ _ _ _ c.norm_of-a.ensures c.norm_of-b.ensures c.norm_of-c.ensures c.if-a-b.true

pub returns : goal.returns
unfolding of_bits
returns c =
    away _ _ _ _ c.norm_of-a.ensures c.norm_of-b.ensures c.norm_of-c.ensures
    _ _ _ _ c.over.ensures c.over-2.ensures c.over-3.ensures c.unit_angle.ensures
    c.if-a-b.false
