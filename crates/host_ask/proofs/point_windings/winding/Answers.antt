-- `host_ask::point_windings::winding` meets its contract: a refusal leaves the bytes as they were, and otherwise each winding number is written.
use mathlib.Core.Path.{refl, sym, ap}
use lib.Ieee.{binary32}
use lib.ListN.{length}
use Rattle.std.proofs.Common.{rules}
use Rattle.std.specs.Prelude.{Result}
use Rattle.lists.specs.declared.refusal.Refusal.{Refusal}
use Rattle.lists.specs.Values.{as_verdict}
use Rattle.lists.proofs.Rows.{handed, handed_on}
use Rattle.spec_lists.specs.Refusals.{refuses}
use Rattle.spec_angles.specs.Windings.{winding_about, winding_at}
use Rattle.spec_host.specs.PointBytes.{winding_bytes, windings}
use Rattle.spec_host.proofs.PointBytes.{as_it_was, as_written}
use Rattle.spec_host.proofs.Requests.{winding_passed}
use Rattle.host_ask.proofs.point_windings.winding.Goals as goal

pub returns-in_err-winding_refusal : goal.returns-in_err-winding_refusal
returns-in_err-winding_refusal c = record {
  verdict = handed_on _ _ _ c.from_residual.ensures.1 c.in_err-winding_refusal.ensures;
  windings = as_it_was _ _ _ (ap (λ (r : Result (Unit {0}) Refusal). refuses (as_verdict r)) (handed _ _ c.from_residual.ensures.1));
}

pub put_windings-requires-clause-room : goal.put_windings-requires-clause-room
put_windings-requires-clause-room c =
    let a = c.args in winding_passed a.triangles.now a.points.now (length a.out.now) (sym c.in_ok-winding_refusal.ensures)

pub returns : goal.returns
unfolding winding_bytes windings winding_at
returns c = record {
  verdict = c.in_ok-winding_refusal.ensures;
  windings = as_written _ _ _ _ refl (c.put_windings.ensures (winding_about binary32 c.args.triangles.now) (λ p r e. search rules));
}
