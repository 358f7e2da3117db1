-- `build::calls::build_passed` meets its contract: the tree is grown in the fronts of the working lists, and these are cleared.
use Rattle.std.proofs.Common.{◌*◌, ◌≤◌, length, rules, sym, arith}
use lib.Ieee.{binary32, of_bits}
use lib.Seq.{length-take-le}
use Rattle.spec_build.proofs.Build.{build_passed}
use Rattle.spec_build.proofs.Building.{fronts_lent, passed_gives}
use Rattle.grow.proofs.Stored.{front_filled}
use Rattle.build.proofs.calls.build_passed.Goals as goal

pub overflow_mul-bounds : goal.overflow_mul-bounds
overflow_mul-bounds c =
    let passed = build_passed _ _ _ c.requires in
    omega (arith, c.triangle_count-count.ensures, passed.triangles_good.few)

pub slice_bounds-bounds-end : goal.slice_bounds-bounds-end
slice_bounds-bounds-end c =
    let passed = build_passed _ _ _ c.requires in
    omega (arith, c.triangle_count-count.ensures, passed.bounds_room)

pub slice_bounds-bounds-end-2 : goal.slice_bounds-bounds-end-2
slice_bounds-bounds-end-2 c =
    let passed = build_passed _ _ _ c.requires in
    sym (length-take-le _ _ (omega (arith, c.triangle_count-count.ensures, passed.bounds_room)))

pub overflow_mul-centres : goal.overflow_mul-centres
overflow_mul-centres c =
    let passed = build_passed _ _ _ c.requires in
    omega (arith, c.triangle_count-count.ensures, passed.triangles_good.few)

pub slice_bounds-centres-end : goal.slice_bounds-centres-end
slice_bounds-centres-end c =
    let passed = build_passed _ _ _ c.requires in
    omega (arith, c.triangle_count-count.ensures, passed.centres_room)

pub slice_bounds-centres-end-2 : goal.slice_bounds-centres-end-2
slice_bounds-centres-end-2 c =
    let passed = build_passed _ _ _ c.requires in
    sym (length-take-le _ _ (omega (arith, c.triangle_count-count.ensures, passed.centres_room)))

pub slice_bounds-scratch-end : goal.slice_bounds-scratch-end
slice_bounds-scratch-end c =
    let passed = build_passed _ _ _ c.requires in
    omega (arith, c.triangle_count-count.ensures, passed.scratch_room)

pub slice_bounds-scratch-end-2 : goal.slice_bounds-scratch-end-2
slice_bounds-scratch-end-2 c =
    let passed = build_passed _ _ _ c.requires in
    sym (length-take-le _ _ (omega (arith, c.triangle_count-count.ensures, passed.scratch_room)))

pub grow_tree-built-requires : goal.grow_tree-built-requires
grow_tree-built-requires c =
    let passed = build_passed _ _ _ c.requires in
    let count = c.triangle_count-count.result in
    fronts_lent _ _ _ passed (6 * count) (3 * count) count (omega (arith, c.triangle_count-count.ensures))
    (omega (arith, c.triangle_count-count.ensures)) (omega (arith, c.triangle_count-count.ensures))

pub returns : goal.returns
unfolding of_bits
returns c =
    let passed = build_passed _ _ _ c.requires in
    let count = c.triangle_count-count.result in
    let tree = c.grow_tree-built in
    let bounds_room : 6 * count ≤ length c.args.bounds.now = omega (arith, c.triangle_count-count.ensures, passed.bounds_room) in
    let centres_room : 3 * count ≤ length c.args.centres.now = omega (arith, c.triangle_count-count.ensures, passed.centres_room) in
    let scratch_room : count ≤ length c.args.scratch.now = omega (arith, c.triangle_count-count.ensures, passed.scratch_room) in
    passed_gives binary32 _ _ _ _ _ count c.requires c.triangle_count-count.ensures tree.ensures
    (front_filled (6 * count) _ tree.new.bounds _ c.args.bounds.now bounds_room tree.auto.bounds (c.fill.ensures.after (λ y same. search (rules, same))))
    (front_filled (3 * count) _ tree.new.centres _ c.args.centres.now centres_room tree.auto.centres (c.fill-2.ensures.after (λ y same. search (rules, same))))
    (front_filled count _ tree.new.scratch _ c.args.scratch.now scratch_room tree.auto.scratch (c.fill-3.ensures.after (λ y same. search (rules, same))))
