-- `dipoles::calls::node_sums` meets its contract: a refusal leaves the list as it was, and otherwise sums are stored and dipoles made of them.
use mathlib.Core.Path.{refl, sym}
use native.Mathlib.Omega.{arith}
use lib.Ieee.{binary32}
use Rattle.lists.proofs.Rows.{handed_on}
use Rattle.spec_dipoles.proofs.Storing.{sums_refused, sums_room, sums_readable, sums_boxed, sums_written, sums_between}
use Rattle.dipoles.proofs.calls.node_sums.Goals as goal

pub returns-in_err-sums_refusal : goal.returns-in_err-sums_refusal
returns-in_err-sums_refusal c =
    let refusal = c.in_err-sums_refusal.ensures in
    record { verdict = handed_on _ _ _ c.from_residual.ensures.1 refusal; sums = sums_refused _ _ _ _ _ _ binary32 _ refusal refl }

pub store_sums-requires : goal.store_sums-requires
store_sums-requires c =
    let pass = sym c.in_ok-sums_refusal.ensures in
    record { readable = sums_readable _ _ _ _ _ c.args.sums.now pass; room = sums_room _ _ _ _ _ c.args.sums.now pass }

pub make_dipoles-requires : goal.make_dipoles-requires
make_dipoles-requires c =
    let lent = c.args.sums.now in
    let pass = sym c.in_ok-sums_refusal.ensures in
    record {
      boxed = sums_boxed _ _ _ _ _ lent pass;
      room = omega (arith, sums_room _ _ _ _ _ lent pass, sums_between _ _ _ _ _ lent pass binary32 _ c.store_sums.ensures);
    }

pub returns : goal.returns
returns c =
    let pass = c.in_ok-sums_refusal.ensures in
    record { verdict = pass; sums = sums_written _ _ _ _ _ _ (sym pass) binary32 _ _ c.store_sums.ensures c.make_dipoles.ensures }
