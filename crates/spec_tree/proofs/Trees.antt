-- How many nodes, links and box numbers a tree has: at least one node, and at most 2n - 1 over n triangles.
use mathlib.Core.Path.{◌≡◌, refl, ap, ◌∙◌}
use mathlib.Core.List.{List, ◌++◌}
use Prim.Native.Nat.{ℕ, ◌+◌, ◌*◌, ◌≤◌}
use native.Mathlib.Omega.{arith}
use lib.ListN.{length, length-append}
use Rattle.spec_shapes.specs.Boxes.{Box}
use Rattle.spec_tree.specs.Trees.{Tree, leaf, branch, numbers, node_count, levels, Filled, box_over, root_from, links_from, six_of, boxes_of}

-- the root of a listing is its last node
pub root_last : (node : ℕ) (t : Tree) → root_from node t + 1 ≡ node + node_count t
unfolding root_from node_count
root_last node (leaf slice) = refl
root_last node (branch l r) = omega arith

-- a tree has a node, so its root does not stand before its first node
pub count_least : (t : Tree) → 1 ≤ node_count t
unfolding node_count
count_least (leaf slice) = omega arith
count_least (branch l r) = omega arith

-- a tree has a level, so a walk with no level remaining meets none
pub levels_least : (t : Tree) → 1 ≤ levels t
unfolding levels
levels_least (leaf slice) = omega arith
levels_least (branch l r) = omega arith

-- a tree over n triangles, no leaf empty, has at most 2n - 1 nodes: the room that its lists must have
pub count_most : (t : Tree) → Filled t → node_count t + 1 ≤ 2 * length (numbers t)
unfolding node_count numbers
count_most (leaf slice) f = omega arith
count_most (branch l r) f =
    omega (arith, count_most l f.0, count_most r f.1, length-append (numbers l) (numbers r))

three_parts : {A : Type 0} (xs ys zs : List A) → length (xs ++ ys ++ zs) ≡ length xs + length ys + length zs
three_parts xs ys zs = length-append (xs ++ ys) zs ∙ ap (λ (n : ℕ). n + length zs) (length-append xs ys)

-- a listing has three links a node
pub links_length : (node entry : ℕ) (t : Tree) → length (links_from node entry t) ≡ 3 * node_count t
unfolding links_from node_count
links_length node entry (leaf slice) = refl
links_length node entry (branch l r) =
    three_parts (links_from node entry l) (links_from (node + node_count l) (entry + length (numbers l)) r) _
    ∙ omega (arith, links_length node entry l, links_length (node + node_count l) (entry + length (numbers l)) r)

-- a listing has six box numbers a node
pub boxes_length : (box_at : ℕ → Box) (t : Tree) → length (boxes_of box_at t) ≡ 6 * node_count t
unfolding boxes_of node_count
boxes_length box_at (leaf slice) = refl
boxes_length box_at (branch l r) =
    three_parts (boxes_of box_at l) (boxes_of box_at r) (six_of (box_over box_at (branch l r)))
    ∙ omega (arith, boxes_length box_at l, boxes_length box_at r)
