-- `stl::get::Facets::coordinate_refusal` meets its contract. The invariant: the corners of the facets so far are coordinates.
use mathlib.Core.Path.{◌≡◌, refl}
use mathlib.Core.List.{List}
use Prim.Native.Nat.{ℕ, ◌*◌, ◌≤◌, ◌<◌}
use native.Mathlib.Omega.{arith}
use borrow.Author.Tests.{lt-ltb, le-ltb}
use lib.Dec.{ltb}
use Rattle.spec_tables.specs.Tables.{concat_map}
use Rattle.spec_lists.specs.Refusals.{refused_if, first_bad, coordinate_refusal}
use Rattle.spec_stl.specs.Stl.{stl_count, corners_in, stl_triangles}
use Rattle.spec_stl.proofs.Facets.{length_facets}
use Rattle.spec_stl.proofs.Refused.{corners_good, corners_bad}
use Rattle.stl.proofs.get.Facets.coordinate_refusal.Goals as goal

by_corners : (s : List ℕ) (n : ℕ) → n ≡ stl_count s → coordinate_refusal 4 (stl_triangles s)
    ≡ refused_if (ltb (first_bad (concat_map (corners_in s) n)) (9 * n)) 4 (first_bad (concat_map (corners_in s) n))
unfolding coordinate_refusal stl_triangles
by_corners s n e = rw (e, length_facets s (stl_count s))

pub loop-i-init : goal.loop-i-init
unfolding concat_map first_bad
loop-i-init c = refl

pub loop-i-preserved : goal.loop-i-preserved
unfolding corners_in
loop-i-preserved c =
    corners_good c.args.self.now.bytes.now c.loop-i.i c.loop-i.invariant (rw c.first_bad_in-at.ensures at c.if-at-lt9.false)

pub returns-then-at-lt9 : goal.returns-then-at-lt9
unfolding corners_in
returns-then-at-lt9 c =
    let facets = c.args.self.now in
    let s = facets.bytes.now in
    let here = c.first_bad_in-at.ensures in
    let first = corners_bad s c.loop-i.i c.loop-i.invariant facets.count c.loop-i-test.true (rw here at c.if-at-lt9.true) in
    let inside : first_bad (concat_map (corners_in s) facets.count) < 9 * facets.count = omega (arith, first, here) in
    rw (by_corners s facets.count facets.count_is, lt-ltb _ _ inside, here, first)

pub returns : goal.returns
returns c =
    let facets = c.args.self.now in
    let s = facets.bytes.now in
    let all : c.loop-i.i ≡ facets.count = omega arith in
    let good : first_bad (concat_map (corners_in s) facets.count) ≡ 9 * facets.count = rw all at c.loop-i.invariant in
    let none : 9 * facets.count ≤ 9 * facets.count = omega arith in
    rw (by_corners s facets.count facets.count_is, good, le-ltb _ _ none)
