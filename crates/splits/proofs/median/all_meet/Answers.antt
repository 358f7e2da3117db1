-- `splits::median::all_meet` meets its contract: `all` asks of each box of the slice, in turn, what the definition asks.
use Rattle.std.proofs.Common.{◌≡◌, ℕ, List, [], ◌∷◌, map, refl, ap, ◌∙◌, ◌&&◌, rules, tests}
use Rattle.std.specs.List.{list_all}
use Rattle.std.proofs.lemmas.Iterator.{YieldsList-from_slice}
use Rattle.std.proofs.lemmas.Iterator.Search.{all_from_yields_List}
use Rattle.std.proofs.lemmas.Iterator.Adapters.{serves_from_places}
use lib.Ieee.{Format, binary32}
use Rattle.spec_shapes.specs.Boxes.{Box}
use Rattle.spec_shapes.specs.Planes.{Plane, meets_box}
use Rattle.shapes.specs.Values.{as_plane}
use Rattle.spec_splits.specs.Splits.{box_in}
use Rattle.spec_splits.specs.Median.{all_meet}
use Rattle.splits.proofs.Reading.{in_table_read}
use Rattle.splits.proofs.median.all_meet.Goals as goal

meeting_all : (f : Format) (plane : Plane) (g : ℕ → Box) (ts : List ℕ) → list_all (λ t. meets_box f plane (g t)) ts ≡ all_meet f plane (map g ts)
unfolding all_meet
meeting_all f plane g [] = refl
meeting_all f plane g (t ∷ ts) = ap (λ b. meets_box f plane (g t) && b) (meeting_all f plane g ts)

pub all-requires-clause-callable : goal.all-requires-clause-callable
all-requires-clause-callable c =
    serves_from_places (YieldsList-from_slice c.args.slice.now cc) (λ x q k. search (rules, tests))
    (λ x k h e. let in_table = in_table_read c.args.bounds.now c.args.slice.now c.requires x.now k h e in search (rules, tests))

pub returns : goal.returns
returns c =
    let args = c.args in
    all_from_yields_List (λ t. meets_box binary32 (as_plane args.plane) (box_in args.bounds.now t)) _ _ c.all.result c.all.ensures.ran
    (YieldsList-from_slice args.slice.now cc) (λ x b q k. search (rules, tests))
    ∙ meeting_all binary32 (as_plane args.plane) (box_in args.bounds.now) args.slice.now
