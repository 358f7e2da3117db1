-- `walks::sure::node_walk` and `walks::sure::pair_walk` meet their contracts. `node_walk` calls `pair_walk` with one level less,
-- and `pair_walk` calls `node_walk` with the same levels, so the measures are 2d and 2d + 1.
-- Each answer applies a law of `spec_search` to what the calls and tests before it said; a place is named by what was just done there.
use mathlib.Core.Path.{◌≡◌, refl, sym}
use mathlib.Core.Bool.{true, false}
use Prim.Native.Nat.{ℕ, ◌+◌, ◌-◌, ◌<◌}
use native.Mathlib.Omega.{arith}
use lib.Ieee.{binary32}
use Rattle.spec_search.specs.Answers.{squared_of, number_of}
use Rattle.spec_search.specs.Ranked.{Sorted}
use Rattle.spec_search.proofs.Walked.{walk_skipped}
use Rattle.spec_search.proofs.Steps.{hangs_there, leaf_needs, pair_needs, levels_remaining, leaf_answers, pair_answers, then_left_needs, then_right_needs, right_answers, left_answers, right_alone, left_alone, skipped_here, right_first_here, few_sorted, few_skipped}
use Rattle.walks.specs.declared.answer.Measures.TheVariants.{Held}
use Rattle.walks.proofs.Links.{leaf_links, branch_links}
use Rattle.walks.proofs.Reached.{reached_is, reached_on, reached_still, walk_sound, few_then}
use Rattle.walks.proofs.sure.+node_walk_pair_walk.Goals as goal

falls_in : (d t : ℕ) → 0 < d → d + d ≡ t → (d - 1) + (d - 1) + 1 < t
falls_in d t z e = omega arith

falls_out : (d t : ℕ) → d + d + 1 ≡ t → d + d < t
falls_out d t e = omega arith

-- skipped
pub node_walk-returns-then-is_skipped : goal.node_walk-returns-then-is_skipped
node_walk-returns-then-is_skipped t c =
    reached_on (reached_still Held c.args.measured c.requires.sound.lent)
    (sym (walk_skipped _ _ _ _ _ _ (skipped_here binary32 _ _ _ _ _ _ _ _ true c.requires.squared_value c.is_skipped.ensures c.if-is_skipped.true)))

pub node_walk-node_at-requires : goal.node_walk-node_at-requires
node_walk-node_at-requires t c =
    let safe = c.requires.node_safe in
    (hangs_there _ _ _ _ safe.tree _ safe.hangs).links_there

pub node_walk-measure_leaf-requires-clause-first_le_last : goal.node_walk-measure_leaf-requires-clause-first_le_last
node_walk-measure_leaf-requires-clause-first_le_last t c =
    (leaf_needs _ _ _ _ _ _ _ _ _ _ (leaf_links c.in-Leaf.ensures) c.requires.node_safe refl).1.0

pub node_walk-measure_leaf-requires-clause-first_bound : goal.node_walk-measure_leaf-requires-clause-first_bound
node_walk-measure_leaf-requires-clause-first_bound t c =
    (leaf_needs _ _ _ _ _ _ _ _ _ _ (leaf_links c.in-Leaf.ensures) c.requires.node_safe refl).1.1

-- a leaf
pub node_walk-returns-in-Leaf : goal.node_walk-returns-in-Leaf
node_walk-returns-in-Leaf t c =
    reached_on c.measure_leaf.ensures
    (leaf_answers _ _ _ _ _ _ _ _ _ _ (leaf_links c.in-Leaf.ensures) c.requires.node_safe _ _ _
    (skipped_here binary32 _ _ _ _ _ _ _ _ false c.requires.squared_value c.is_skipped.ensures c.if-is_skipped.false)
    refl refl)

pub node_walk-overflow_sub-depth : goal.node_walk-overflow_sub-depth
node_walk-overflow_sub-depth t c =
    let safe = c.requires.node_safe in
    levels_remaining _ _ _ _ _ _ _ _ _ _ (branch_links c.in-Branch.ensures) safe c.in-Branch.ensures.no_leaf

pub node_walk-pair_walk-requires : goal.node_walk-pair_walk-requires
node_walk-pair_walk-requires t c =
    let safe = c.requires.node_safe in (
      falls_in c.args.depth t (levels_remaining _ _ _ _ _ _ _ _ _ _ (branch_links c.in-Branch.ensures) safe c.in-Branch.ensures.no_leaf) (omega arith),
      (pair_needs _ _ _ _ _ _ _ _ _ _ (branch_links c.in-Branch.ensures) safe c.in-Branch.ensures.no_leaf, c.requires.sound),
    )

-- a branch
pub node_walk-returns-in-Branch : goal.node_walk-returns-in-Branch
node_walk-returns-in-Branch t c =
    reached_on c.pair_walk.ensures
    (pair_answers _ _ _ _ _ _ _ _ _ _ (branch_links c.in-Branch.ensures) c.requires.node_safe _ _ _
    (skipped_here binary32 _ _ _ _ _ _ _ _ false c.requires.squared_value c.is_skipped.ensures c.if-is_skipped.false)
    c.in-Branch.ensures.no_leaf refl)

-- ---- a pair
pub pair_walk-node_squared-to_left-requires : goal.pair_walk-node_squared-to_left-requires
pair_walk-node_squared-to_left-requires t c =
    let safe = c.requires.pair_safe in
    (hangs_there _ _ _ _ safe.left_tree _ safe.left_hangs).boxes_there

pub pair_walk-node_squared-to_right-requires : goal.pair_walk-node_squared-to_right-requires
pair_walk-node_squared-to_right-requires t c =
    let safe = c.requires.pair_safe in
    (hangs_there _ _ _ _ safe.right_tree _ safe.right_hangs).boxes_there

-- the right one alone
pub pair_walk-returns-then-is_skipped : goal.pair_walk-returns-then-is_skipped
pair_walk-returns-then-is_skipped t c =
    reached_on c.node_walk.ensures
    (right_alone _ (Sorted squared_of number_of) (few_sorted binary32 _ _ _ _) (few_skipped binary32 _ _ _ _ _) _ _ _ _ _ _ _ c.requires.sound.sorted
    (right_first_here binary32 _ _ _ _ _ _ true c.node_squared-to_left.ensures c.node_squared-to_right.ensures c.if-to_right-to_left.true)
    (skipped_here binary32 _ _ _ _ _ _ _ _ true c.node_squared-to_left.ensures c.is_skipped.ensures c.if-is_skipped.true)
    refl)

pub pair_walk-node_walk-requires-then-to_right-to_left : goal.pair_walk-node_walk-requires-then-to_right-to_left
pair_walk-node_walk-requires-then-to_right-to_left t c =
    let safe = then_left_needs _ _ _ _ _ _ _ _ c.requires.pair_safe _ _ _ refl (reached_is c.node_walk-then.ensures) in
    let sound = walk_sound binary32 _ _ _ _ _ _ _ _ _ c.requires.sound c.node_walk-then.ensures in
    (falls_out c.args.depth t (omega arith), (safe, (c.node_squared-to_left.ensures, sound)))

-- the right one, then the left one
pub pair_walk-returns-then-to_right-to_left : goal.pair_walk-returns-then-to_right-to_left
pair_walk-returns-then-to_right-to_left t c =
    reached_on (few_then binary32 _ _ _ _ _ _ _ _ c.node_walk-then.ensures c.node_walk-then-to_right-to_left.ensures)
    (right_answers _ _ _ _ _ _ _ _ _
    (right_first_here binary32 _ _ _ _ _ _ true c.node_squared-to_left.ensures c.node_squared-to_right.ensures c.if-to_right-to_left.true) refl refl)

-- the left one alone
pub pair_walk-returns-then-is_skipped-2 : goal.pair_walk-returns-then-is_skipped-2
pair_walk-returns-then-is_skipped-2 t c =
    reached_on c.node_walk-then-is_skipped-2.ensures
    (left_alone _ (Sorted squared_of number_of) (few_sorted binary32 _ _ _ _) (few_skipped binary32 _ _ _ _ _) _ _ _ _ _ _ _ c.requires.sound.sorted
    (right_first_here binary32 _ _ _ _ _ _ false c.node_squared-to_left.ensures c.node_squared-to_right.ensures c.if-to_right-to_left.false)
    (skipped_here binary32 _ _ _ _ _ _ _ _ true c.node_squared-to_right.ensures c.is_skipped-2.ensures c.if-is_skipped-2.true)
    refl)

pub pair_walk-node_walk-requires-2 : goal.pair_walk-node_walk-requires-2
pair_walk-node_walk-requires-2 t c =
    let safe = then_right_needs _ _ _ _ _ _ _ _ c.requires.pair_safe _ _ _ refl (reached_is c.node_walk-then-2.ensures) in
    let sound = walk_sound binary32 _ _ _ _ _ _ _ _ _ c.requires.sound c.node_walk-then-2.ensures in
    (falls_out c.args.depth t (omega arith), (safe, (c.node_squared-to_right.ensures, sound)))

-- the left one, then the right one
pub pair_walk-returns : goal.pair_walk-returns
pair_walk-returns t c =
    reached_on (few_then binary32 _ _ _ _ _ _ _ _ c.node_walk-then-2.ensures c.node_walk-2.ensures)
    (left_answers _ _ _ _ _ _ _ _ _
    (right_first_here binary32 _ _ _ _ _ _ false c.node_squared-to_left.ensures c.node_squared-to_right.ensures c.if-to_right-to_left.false) refl refl)
