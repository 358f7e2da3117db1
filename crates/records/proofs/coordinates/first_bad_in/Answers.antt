-- `records::coordinates::first_bad_in` meets its contract.
-- The invariant: the answer is the index and the number of coordinates from there on.
use mathlib.Core.Path.{◌≡◌, sym, ap, ◌∙◌}
use mathlib.Core.List.{List}
use Prim.Native.Nat.{ℕ, ◌+◌, ◌*◌, ◌<◌}
use native.Mathlib.Omega.{arith}
use lib.ListN.{get_or, length}
use lib.Ieee.{binary32, nan, of_bits}
use Rattle.spec_tables.proofs.Pieces.{length_singles, get_d_concat_map}
use Rattle.spec_records.specs.Little.{little_at}
use Rattle.spec_records.specs.Entries.{floats_in}
use Rattle.spec_lists.specs.Refusals.{is_coordinate}
use Rattle.spec_lists.proofs.Coordinates.{bad_here, good_here, none_remaining}
use Rattle.records.proofs.coordinates.first_bad_in.Goals as goal

long : (s : List ℕ) (start count : ℕ) → length (floats_in binary32 s start count) ≡ count
long s start count = length_singles _ count

number : (s : List ℕ) (start count i : ℕ) → i < count → get_or (floats_in binary32 s start count) i nan ≡ of_bits binary32 (little_at 4 s (start + 4 * i))
number s start count i h = get_d_concat_map nan _ count i h

pub returns-then-not-is_coordinate : goal.returns-then-not-is_coordinate
returns-then-not-is_coordinate c =
    let a = c.args in
    let loop = c.loop-i in
    let s = a.bytes.now in
    let taken = c.loop-i-test.true in
    let found = bad_here (floats_in binary32 s a.start a.count) loop.i (rw (long s a.start a.count) taken)
    (ap is_coordinate (number s a.start a.count loop.i taken ∙ sym c.f32_at.ensures) ∙ sym c.is_coordinate.ensures
    ∙ c.if-not-is_coordinate.true) in
    omega (arith, loop.invariant)

pub loop-i-preserved : goal.loop-i-preserved
loop-i-preserved c =
    let a = c.args in
    let loop = c.loop-i in
    let s = a.bytes.now in
    let taken = c.loop-i-test.true in
    let next = good_here (floats_in binary32 s a.start a.count) loop.i (rw (long s a.start a.count) taken)
    (ap is_coordinate (number s a.start a.count loop.i taken ∙ sym c.f32_at.ensures) ∙ sym c.is_coordinate.ensures
    ∙ c.if-not-is_coordinate.false) in
    omega (arith, loop.invariant)

pub returns : goal.returns
returns c =
    let loop = c.loop-i in
    let a = c.args in
    let s = a.bytes.now in
    let none = none_remaining (floats_in binary32 s a.start a.count) loop.i (rw (long s a.start a.count) c.loop-i-test.false) in
    omega (arith, loop.invariant)
