-- `dipoles::sums::Sums::with_triangle` meets its contract: what each call ensures, put in.
use lib.Ieee.{of_bits}
use Rattle.spec_dipoles.specs.Sums.{area_of, normal_of, with_triangle}
use Rattle.dipoles.proofs.sums.Sums.with_triangle.Goals as goal

pub returns : goal.returns
unfolding with_triangle area_of normal_of of_bits
returns c =
    rw (
      c.plus-3.ensures,
      c.plus-2.ensures,
      c.outer.ensures,
      c.plus.ensures,
      c.scale.ensures,
      c.scale-weighted.ensures,
      c.centre_of.ensures,
      c.over-normal.ensures,
      c.norm_of-norm.ensures,
      c.cross_of-cross.ensures,
    )
