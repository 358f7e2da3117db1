-- `stl::get::Facets::coordinate_refusal` meets its contract. The invariant: the corners of the facets so far are coordinates.
use mathlib.Core.Path.{◌≡◌}
use Prim.Native.Nat.{◌*◌}
use Rattle.spec_tables.specs.Tables.{concat_map}
use Rattle.spec_lists.specs.Refusals.{first_bad}
use Rattle.spec_stl.specs.Stl.{corners_in}
use Rattle.stl.proofs.get.Facets.coordinate_refusal.Given as goal

abbrev pub invariant-loop-i : goal.invariant-loop-i
invariant-loop-i l = first_bad (concat_map (corners_in l.self.bytes.now) l.i) ≡ 9 * l.i
