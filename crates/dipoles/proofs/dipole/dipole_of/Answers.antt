-- `dipoles::dipole::dipole_of` meets its contract: what each call ensures, put in.
use Rattle.spec_dipoles.specs.Sums.{dipole_of}
use Rattle.dipoles.proofs.dipole.dipole_of.Goals as goal

pub returns : goal.returns
unfolding dipole_of
returns c =
    rw (
      c.root_or_nan.ensures,
      c.max2.ensures,
      c.dot-2.ensures,
      c.dot.ensures,
      c.minus.ensures,
      c.outer.ensures,
      c.minus-high.ensures,
      c.minus-low.ensures,
      c.over-centre.ensures,
    )
