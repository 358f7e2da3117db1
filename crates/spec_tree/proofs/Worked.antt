-- Why a tree is refused, worked out: the number and the place, where the laws leave open which of several is told.
use mathlib.Core.Path.{◌≡◌, refl}
use mathlib.Core.List.{List, [], ◌∷◌, ◌++◌}
use Prim.Native.Nat.{ℕ, zero, suc, ◌*◌}
use lib.ListN.{replicate}
use lib.IntN.{pos}
use lib.Ieee.{Float, binary32, nan, lt, round, of_int, of_bits}
use Rattle.spec_numbers.specs.Values as Values
use Rattle.spec_numbers.specs.Same.{same}
use Rattle.spec_shapes.specs.Points.{Point, smallest, largest}
use Rattle.spec_shapes.specs.Boxes.{Box, union}
use Rattle.spec_lists.specs.Refusals.{Verdict, passes, refused, first_refusal}
use Rattle.spec_tree.specs.Trees.{Tree, leaf, branch, numbers, node_count, joined_to, joined, root_from, links_from}
use Rattle.spec_tree.specs.Order.{occurs}
use Rattle.spec_tree.specs.Accepted.{same_box, present}
use Rattle.spec_tree.specs.Reasons.{failing_from, refused_where, is_new, order_refusal, count_refusal, scan_leaf, scan, listing_refusal, level_under, is_shallow, depth_refusal, is_boxed, box_refusal, reason}

-- every triangle's box, all zeros
abbrev spot : Box
spot = let origin : Point = record { x = Values.zero; y = Values.zero; z = Values.zero } in record { min = origin; max = origin }

-- the boxes of so many nodes, right and wrong ones
abbrev spots : ℕ → List Float
spots nodes = replicate (6 * nodes) Values.zero

abbrev wrong : ℕ → List Float
wrong nodes = replicate (6 * nodes) nan

abbrev told : (n : ℕ) (order links : List ℕ) (boxes : List Float) (nodes : ℕ) → Verdict
told n order links boxes nodes = reason (λ k. spot) n order links boxes nodes

-- ---- three triangles
-- 71: the second of two that are equal; one out of range that stands twice, where there is no node either; an entry too few; an entry too many
pub order_worked : (links : List ℕ) (boxes : List Float)
    → (told 3 (0 ∷ 1 ∷ 1 ∷ []) links boxes 5 ∷ told 3 (0 ∷ 3 ∷ 3 ∷ []) links boxes 0
    ∷ told 3 (2 ∷ 0 ∷ []) links boxes 5 ∷ told 3 (0 ∷ 1 ∷ 2 ∷ 0 ∷ []) links boxes 5 ∷ [])
    ≡ (refused 71 2 ∷ refused 71 1 ∷ refused 71 2 ∷ refused 71 3 ∷ [])
unfolding first_refusal occurs failing_from refused_where is_new order_refusal reason
order_worked links boxes = refl

-- two leaves, the branch over them, a leaf, the branch over all
abbrev three : List ℕ
three = 1 ∷ 0 ∷ 1 ∷ 1 ∷ 1 ∷ 2 ∷ 2 ∷ 0 ∷ 1 ∷ 1 ∷ 2 ∷ 3 ∷ 2 ∷ 2 ∷ 3 ∷ []

abbrev of_three : (links : List ℕ) (boxes : List Float) (nodes : ℕ) → Verdict
of_three links boxes nodes = told 3 (2 ∷ 0 ∷ 1 ∷ []) links boxes nodes

-- 72: no node; a node too many for three leaves; a box list too short for the nodes, where the links are wrong too
pub count_worked :
    (of_three three (spots 6) 0 ∷ of_three (three ++ three) (spots 6) 6 ∷ of_three (2 ∷ three) (spots 4) 5 ∷ [])
    ≡ (refused 72 0 ∷ refused 72 0 ∷ refused 72 0 ∷ [])
unfolding first_refusal occurs failing_from refused_where is_new order_refusal present count_refusal reason
count_worked = refl

-- 73: an empty leaf; a leaf beyond n; a leaf that leaves an entry out; a branch whose children are turned round; one with no tree in front;
-- no kind; at the root, two trees and a cover that ends early. Wrong boxes are not told yet.
pub listing_worked :
    (of_three (1 ∷ 0 ∷ 1 ∷ 1 ∷ 1 ∷ 1 ∷ 2 ∷ 0 ∷ 1 ∷ []) (wrong 3) 3
    ∷ of_three (1 ∷ 0 ∷ 4 ∷ []) (wrong 1) 1
    ∷ of_three (1 ∷ 0 ∷ 1 ∷ 1 ∷ 2 ∷ 3 ∷ 2 ∷ 0 ∷ 1 ∷ []) (wrong 3) 3
    ∷ of_three (1 ∷ 0 ∷ 1 ∷ 1 ∷ 1 ∷ 3 ∷ 2 ∷ 1 ∷ 0 ∷ []) (wrong 3) 3
    ∷ of_three (1 ∷ 0 ∷ 3 ∷ 2 ∷ 0 ∷ 0 ∷ []) (wrong 2) 2
    ∷ of_three (0 ∷ 0 ∷ 3 ∷ []) (wrong 1) 1
    ∷ of_three three (wrong 5) 4
    ∷ of_three three (wrong 5) 3 ∷ [])
    ≡ (refused 73 1 ∷ refused 73 0 ∷ refused 73 1 ∷ refused 73 2 ∷ refused 73 1 ∷ refused 73 0 ∷ refused 73 3 ∷ refused 73 2 ∷ [])
unfolding first_refusal occurs failing_from refused_where is_new order_refusal present count_refusal scan_leaf scan listing_refusal reason
listing_worked = refl

-- 75: the first of two nodes that differ, a branch whose children's boxes are right; and none
pub boxes_worked :
    (of_three three (spots 2 ++ wrong 3) 5 ∷ of_three three (spots 5) 5 ∷ [])
    ≡ (refused 75 2 ∷ passes ∷ [])
unfolding lt same smallest largest union joined_to joined same_box first_refusal occurs failing_from refused_where is_new order_refusal present count_refusal
    scan_leaf scan listing_refusal level_under is_shallow depth_refusal is_boxed box_refusal reason
boxes_worked = refl

-- ---- three triangles in a row: the box of Tk reaches from (k, 0, 0) to (k + 1, 1, 1)
abbrev whole : ℕ → Float
whole k = of_int binary32 (pos k)

abbrev in_row : ℕ → Box
in_row k =
    record { min = record { x = whole k; y = whole 0; z = whole 0 }; max = record { x = whole (suc k); y = whole 1; z = whole 1 } }

-- T2 in a leaf, T0 and T1 in the next, which has x for the first number of its box, and the branch over them
abbrev row_with : (x : Float) → Verdict
row_with x =
    reason in_row 3 (2 ∷ 0 ∷ 1 ∷ []) (1 ∷ 0 ∷ 1 ∷ 1 ∷ 1 ∷ 3 ∷ 2 ∷ 0 ∷ 1 ∷ [])
    (whole 2 ∷ whole 0 ∷ whole 0 ∷ whole 3 ∷ whole 1 ∷ whole 1
    ∷ x ∷ whole 0 ∷ whole 0 ∷ whole 2 ∷ whole 1 ∷ whole 1
    ∷ whole 0 ∷ whole 0 ∷ whole 0 ∷ whole 3 ∷ whole 1 ∷ whole 1 ∷ []) 3

-- a box passes that just holds the leaf's triangles; not one that leaves a triangle out, and not -0 where they have 0
pub row_worked : (row_with (whole 0) ∷ row_with (whole 1) ∷ row_with (of_bits binary32 0x8000_0000) ∷ []) ≡ (passes ∷ refused 75 1 ∷ refused 75 1 ∷ [])
unfolding lt same of_int of_bits round smallest largest union joined_to joined same_box first_refusal occurs failing_from refused_where is_new order_refusal
    present count_refusal scan_leaf scan listing_refusal level_under is_shallow depth_refusal is_boxed box_refusal reason
row_worked = refl

-- ---- a chain: so many branches, each with a leaf on its right
abbrev chain : ℕ → Tree
chain zero = leaf (0 ∷ [])
chain (suc k) = branch (chain k) (leaf (suc k ∷ []))

-- 74: of 65 levels, at the first node, which is a leaf at the bottom; that all boxes are wrong is not told yet
pub depth_worked : told 65 (numbers (chain 64)) (links_from 0 0 (chain 64)) (wrong 129) 129 ≡ refused 74 0
unfolding lt same smallest largest union joined_to joined same_box first_refusal occurs failing_from refused_where is_new order_refusal present count_refusal
    scan_leaf scan listing_refusal level_under is_shallow depth_refusal is_boxed box_refusal reason numbers node_count root_from links_from
depth_worked = refl
