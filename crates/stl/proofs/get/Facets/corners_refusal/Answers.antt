-- `stl::get::Facets::corners_refusal` meets its contract: the tests of the count, then that of the corners.
use Rattle.spec_lists.specs.Refusals.{coordinate_refusal}
use Rattle.spec_stl.proofs.Facets.{length_read}
use Rattle.spec_stl.proofs.Refused.{triangles_by_count}
use Rattle.lists.proofs.Rows.{handed_on, refused_first, passed_first, last}
use Rattle.stl.proofs.get.Facets.corners_refusal.Goals as goal

pub returns-in_err-refused_if : goal.returns-in_err-refused_if
returns-in_err-refused_if c =
    rw (triangles_by_count c.args.self.now.bytes.now, ← c.args.self.now.count_is)
    (handed_on _ _ _ c.from_residual.ensures.1 (refused_first _ _ _ _ c.in_err-refused_if.ensures))

pub returns-in_err-refused_if-2 : goal.returns-in_err-refused_if-2
returns-in_err-refused_if-2 c =
    rw (triangles_by_count c.args.self.now.bytes.now, ← c.args.self.now.count_is)
    (handed_on _ _ _ c.from_residual-in_err-refused_if-2.ensures.1
    (passed_first _ _ _ c.in_ok-refused_if.ensures (refused_first _ _ _ _ c.in_err-refused_if-2.ensures)))

pub returns : goal.returns
unfolding coordinate_refusal
returns c =
    let facets = c.args.self.now in
    rw (triangles_by_count facets.bytes.now, ← facets.count_is)
    (passed_first _ _ _ c.in_ok-refused_if.ensures
    (passed_first _ _ _ c.in_ok-refused_if-2.ensures
    (last _ _ (rw (length_read facets.bytes.now, ← facets.count_is) at c.coordinate_refusal.ensures))))
