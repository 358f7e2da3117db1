-- `records::numbers::number_at` meets its contract: a turn reads the byte behind those that were read.
use mathlib.Core.Path.{◌≡◌}
use native.Mathlib.Omega.{arith}
use Prim.Native.Nat.{◌+◌, ◌*◌, ◌%◌, ◌^◌}
use Rattle.spec_records.specs.Little.{little_at}
use Rattle.spec_records.proofs.Little.{number_below}
use Rattle.records.proofs.Little.{are_bytes, read_start, read_more, read_small}
use Rattle.records.proofs.numbers.number_at.Goals as goal

pub loop-k-init : goal.loop-k-init
loop-k-init g c = read_start c.args.bytes.now c.args.at

pub overflow_add-n : goal.overflow_add-n
overflow_add-n g c =
    let s = c.args.bytes.now in
    let bytes = are_bytes s c.type_inv.bytes in
    let turn : c.loop-k.n + c.from.result * 2 ^ (8 * c.loop-k.k) % 4294967296 ≡ little_at (c.loop-k.k + 1) s c.args.at =
    rw (c.loop-k.invariant, c.from.ensures) (read_more c.loop-k.k c.args.at s bytes (omega arith) (omega arith)) in
    omega (arith, turn, read_small c.loop-k.k c.args.at s bytes (omega arith) (omega arith))

pub loop-k-preserved : goal.loop-k-preserved
loop-k-preserved g c =
    let s = c.args.bytes.now in
    rw (c.loop-k.invariant, c.from.ensures)
    (read_more c.loop-k.k c.args.at s (are_bytes s c.type_inv.bytes) (omega arith) (omega arith))

pub returns-clause-upper_bound : goal.returns-clause-upper_bound
returns-clause-upper_bound g c =
    let s = c.args.bytes.now in
    let all : c.loop-k.k ≡ g.row.SIZE = omega arith in
    rw (c.loop-k.invariant, all) (number_below g.row.SIZE s c.args.at (are_bytes s c.type_inv.bytes) c.requires.at_in_bounds)
