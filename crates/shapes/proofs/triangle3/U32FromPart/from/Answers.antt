-- `u32::from` of a `Part` meets its contract: the parts stand in the order of their numbers.
use Rattle.std.proofs.Common.{◌≡◌, refl}
use denote.Enum.Declared.{tag_of}
use Rattle.spec_shapes.specs.Triangles.{part_number}
use Rattle.shapes.specs.declared.triangle3.Part.{Part}
use Rattle.shapes.specs.declared.triangle3.Part.TheVariants.{Face, CornerA, CornerB, CornerC, EdgeAB, EdgeAC, EdgeBC}
use Rattle.shapes.specs.contracts.triangle3.Part.{the_type}
use Rattle.shapes.specs.Values.{as_part}
use Rattle.shapes.proofs.triangle3.U32FromPart.from.Goals as goal

number_is : (p : Part) → tag_of the_type p ≡ part_number (as_part p)
unfolding part_number
number_is Face = refl
number_is CornerA = refl
number_is CornerB = refl
number_is CornerC = refl
number_is EdgeAB = refl
number_is EdgeAC = refl
number_is EdgeBC = refl

pub returns : goal.returns
returns c = number_is c.args.part
