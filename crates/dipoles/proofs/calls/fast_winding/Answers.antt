-- `dipoles::calls::fast_winding` meets its contract: a refusal leaves the list as it was, and otherwise the list is written.
use lib.Ieee.{binary32}
use mathlib.Core.Path.{refl, sym}
use Rattle.lists.proofs.Rows.{handed_on}
use Rattle.spec_dipoles.proofs.FastCall.{fast_as_it_was, fast_room, fast_root, fast_written}
use Rattle.dipoles.proofs.calls.fast_winding.Goals as goal

pub returns-in_err-fast_refusal : goal.returns-in_err-fast_refusal
returns-in_err-fast_refusal c =
    let refusal = c.in_err-fast_refusal.ensures in
    record { verdict = handed_on _ _ _ c.from_residual.ensures.1 refusal; windings = fast_as_it_was _ _ _ _ _ _ _ _ _ binary32 _ refusal refl }

pub write_windings-requires : goal.write_windings-requires
write_windings-requires c =
    let pass = sym c.in_ok-fast_refusal.ensures in
    record { there = fast_root _ _ _ _ _ _ _ _ c.args.out.now pass; room = fast_room _ _ _ _ _ _ _ _ c.args.out.now pass }

pub returns : goal.returns
returns c =
    let pass = c.in_ok-fast_refusal.ensures in
    record { verdict = pass; windings = fast_written _ _ _ _ _ _ _ _ _ (sym pass) binary32 _ c.write_windings.ensures }
