-- `host_bytes::points::point_bytes_refusal` meets its contract: two tests in a row.
use mathlib.Core.Path.{◌∙◌}
use Rattle.lists.proofs.Rows.{handed_on, refused_first, passed_first, last}
use Rattle.spec_lists.specs.Refusals.{coordinate_refusal}
use Rattle.spec_host.specs.PointBytes.{point_bytes_refusal}
use Rattle.spec_host.proofs.PointBytes.{numbers_long}
use Rattle.host_bytes.proofs.points.point_bytes_refusal.Goals as goal

pub returns-in_err-refused_if : goal.returns-in_err-refused_if
unfolding point_bytes_refusal
returns-in_err-refused_if c =
    handed_on _ _ _ c.from_residual.ensures.1 (refused_first _ _ _ _ c.in_err-refused_if.ensures)

pub returns : goal.returns
unfolding point_bytes_refusal coordinate_refusal
returns c =
    passed_first _ _ _ c.in_ok-refused_if.ensures
    (last _ _ (c.refused_if-2.ensures ∙ rw (← c.first_bad_in-at.ensures, numbers_long)))
