-- `host_ask::fast_windings::fast_winding` meets its contract: a refusal leaves the bytes as they were, and otherwise each number is written.
use mathlib.Core.Path.{refl, sym, ap}
use lib.ListN.{length}
use Rattle.std.specs.Prelude.{Result}
use Rattle.lists.specs.declared.refusal.Refusal.{Refusal}
use Rattle.lists.specs.Values.{as_verdict}
use Rattle.lists.proofs.Rows.{handed, handed_on}
use Rattle.spec_lists.specs.Refusals.{refuses}
use Rattle.spec_host.proofs.PointBytes.{as_it_was, as_written}
use Rattle.spec_host.proofs.Requests.{fast_passed}
use Rattle.host_ask.proofs.fast_windings.fast_winding.Goals as goal

pub returns-in_err-fast_refusal : goal.returns-in_err-fast_refusal
returns-in_err-fast_refusal c = record {
  verdict = handed_on _ _ _ c.from_residual.ensures.1 c.in_err-fast_refusal.ensures;
  windings = as_it_was _ _ _ (ap (λ (r : Result (Unit {0}) Refusal). refuses (as_verdict r)) (handed _ _ c.from_residual.ensures.1));
}

pub put_fast-requires : goal.put_fast-requires
put_fast-requires c =
    let a = c.args in
    let d = a.drawing.now in
    let passed =
    fast_passed d.triangles.now d.order.now d.links.now d.boxes.now d.nodes a.sums.now a.points.now a.accuracy (length a.out.now)
    (sym c.in_ok-fast_refusal.ensures) in
    record { there = passed.0; room = passed.1 }

pub returns : goal.returns
returns c = record { verdict = c.in_ok-fast_refusal.ensures; windings = as_written _ _ _ _ refl c.put_fast.ensures }
