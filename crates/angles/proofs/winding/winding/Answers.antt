-- `angles::winding::winding` meets its contract: a refusal leaves the list as it was, and otherwise the list is written.
use lib.Ieee.{binary32}
use Rattle.std.proofs.Common.{refl, sym, rules}
use Rattle.lists.proofs.Rows.{handed_on}
use Rattle.spec_angles.specs.Windings.{winding_about, winding_at, written}
use Rattle.spec_angles.proofs.Windings.{as_it_was, room_for_all, is_written}
use Rattle.angles.proofs.winding.winding.Goals as goal

pub returns-in_err-winding_refusal : goal.returns-in_err-winding_refusal
returns-in_err-winding_refusal c =
    let refusal = c.in_err-winding_refusal.ensures in
    record { verdict = handed_on _ _ _ c.from_residual.ensures.1 refusal; windings = as_it_was _ _ _ binary32 _ refusal refl }

pub put_windings-requires-clause-room : goal.put_windings-requires-clause-room
put_windings-requires-clause-room c = room_for_all _ _ c.args.out.now (sym c.in_ok-winding_refusal.ensures)

pub returns : goal.returns
unfolding written winding_at
returns c =
    let pass = c.in_ok-winding_refusal.ensures in
    record {
      verdict = pass;
      windings = is_written _ _ _ binary32 _ (sym pass) (c.put_windings.ensures (winding_about binary32 c.args.triangles.now) (λ p r e. search rules));
    }
