-- The matrices, sums and dipoles of the code as the records that the definitions speak of. The contracts compare by these.
use Rattle.shapes.specs.Values.{as_point}
use Rattle.spec_dipoles.specs.Matrices as Matrices
use Rattle.spec_dipoles.specs.Sums as Sums
use Rattle.dipoles.specs.declared.matrix3.Matrix3.{Matrix3}
use Rattle.dipoles.specs.declared.sums.Sums.{Sums}
use Rattle.dipoles.specs.declared.dipole.Dipole.{Dipole}

abbrev pub as_matrix : Matrix3 → Matrices.Matrix
as_matrix m = record { x = as_point m.x; y = as_point m.y; z = as_point m.z }

abbrev pub as_sums : Sums → Sums.Sums
as_sums s = record { normal = as_point s.normal; moments = as_matrix s.moments; area = s.area; centre = as_point s.centre }

abbrev pub as_dipole : Dipole → Sums.Dipole
as_dipole d = record { first = as_point d.first; second = as_matrix d.second; radius = d.radius; centre = as_point d.centre }
