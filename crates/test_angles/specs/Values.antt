-- The case and the kind of the code as the definitions' own. The contracts compare by them.
use Rattle.std.specs.Prelude.{ℕ}
use Rattle.test_angles.specs.Cases.{Compared}
use Rattle.test_angles.specs.declared.cases.Case.{Case}
use Rattle.test_angles.specs.declared.cases.Kind.{Kind}
use Rattle.test_angles.specs.declared.cases.Kind.TheVariants.{Root, Angle, Solid}

abbrev pub as_compared : Case → Compared
as_compared c = record { right = c.right; ours = c.ours; theirs = c.theirs }

abbrev pub as_kind : Kind → ℕ
as_kind Root = 0
as_kind Angle = 1
as_kind Solid = 2
