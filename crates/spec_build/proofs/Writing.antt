-- A leaf and a branch, written: the nodes of the left side, those of the right side and the branch, one behind the other, are the nodes of the
-- branch's tree.
use mathlib.Core.Path.{◌≡◌, refl, ap, ap₂, ◌∙◌}
use mathlib.Core.List.{List, [], ◌∷◌, ◌++◌, map}
use Prim.Native.Nat.{ℕ, ◌+◌, ◌*◌, ◌≤◌, ◌<◌, max}
use native.Mathlib.Omega.{arith}
use lib.ListN.{length, length-append}
use lib.Ieee.{Float, Format}
use Rattle.spec_tables.specs.Tables.{overwrite}
use Rattle.spec_tables.proofs.Tables.{then_overwrite}
use Rattle.spec_shapes.specs.Boxes.{Box, union}
use Rattle.spec_tree.specs.Trees.{Tree, leaf, branch, numbers, node_count, levels, joined, root_from, links_from, six_of, box_over, boxes_of}
use Rattle.spec_splits.specs.Splits.{union_of}
use Rattle.spec_tree.proofs.Trees.{root_last, links_length, boxes_length}
use Rattle.spec_build.specs.Growing.{BranchPut, Written}
use Rattle.spec_build.proofs.Boxes.{union_is_joined}

-- ---- a leaf
-- a leaf's links and box, written at its node, are the nodes of a tree that is a leaf
pub leaf_written : (f : Format) (box_at : ℕ → Box) (slice : List ℕ) (entry node : ℕ) (links links' : List ℕ) (boxes boxes' : List Float) (box : Box)
    → 0 < length slice
    → box ≡ union_of f (map box_at slice) → links' ≡ overwrite (3 * node) (1 ∷ entry ∷ (entry + length slice) ∷ []) links
    → boxes' ≡ overwrite (6 * node) (six_of box) boxes
    → Written box_at (leaf slice) entry node links links' boxes boxes' node 1 box
unfolding links_from boxes_of root_from levels box_over
leaf_written f box_at slice entry node links links' boxes boxes' box w b l e =
    let over_slice : box ≡ joined box_at slice = b ∙ union_is_joined f box_at slice w in
    record {
      links_are = l;
      boxes_are = e ∙ ap (λ (x : Box). overwrite (6 * node) (six_of x) boxes) over_slice;
      root_is = refl;
      levels_are = refl;
      box_is = over_slice;
    }

-- ---- a branch
-- three writes, one behind the other
three_writes : {A : Type 0} (at : ℕ) (xs ys zs old mid late out : List A) (i j : ℕ) → mid ≡ overwrite at xs old → late ≡ overwrite i ys mid
    → out ≡ overwrite j zs late
    → i ≡ at + length xs → j ≡ i + length ys → j + length zs ≤ length old → out ≡ overwrite at (xs ++ ys ++ zs) old
three_writes at xs ys zs old mid late out i j p q r e d room =
    then_overwrite at j (xs ++ ys) zs old late out (then_overwrite at i xs ys old mid late p q e (omega arith)) r (omega (arith, length-append xs ys)) room

module _ (box_at : ℕ → Box) (l r : Tree) (entry node : ℕ) (links mid late links' : List ℕ) (boxes bmid blate boxes' : List Float) (leftRoot leftLevels : ℕ)
    (leftBox : Box) (rightRoot rightLevels : ℕ) (rightBox : Box)
    (root deep : ℕ) (box : Box) (left : Written box_at l entry node links mid boxes bmid leftRoot leftLevels leftBox)
    (right : Written box_at r (entry + length (numbers l)) (leftRoot + 1) mid late bmid blate rightRoot rightLevels rightBox)
    (put : BranchPut leftRoot leftLevels leftBox rightRoot rightLevels rightBox late links' blate boxes' root deep box) where
  second : leftRoot + 1 ≡ node + node_count l
  second = ap (λ (k : ℕ). k + 1) left.root_is ∙ root_last node l

  third : rightRoot + 1 ≡ node + node_count l + node_count r
  third = ap (λ (k : ℕ). k + 1) right.root_is ∙ root_last (leftRoot + 1) r ∙ ap (λ (k : ℕ). k + node_count r) second

  -- the left side's nodes, the right side's and the branch's, one behind the other, are the nodes of its tree
  pub branch_written : 3 * (rightRoot + 1) + 3 ≤ length links → 6 * (rightRoot + 1) + 6 ≤ length boxes
      → Written box_at (branch l r) entry node links links' boxes boxes' root deep box
  unfolding links_from boxes_of root_from levels box_over
  branch_written links_room boxes_room = record {
    links_are =
        three_writes (3 * node) (links_from node entry l) (links_from (node + node_count l) (entry + length (numbers l)) r)
        (2 ∷ root_from node l ∷ root_from (node + node_count l) r ∷ []) links mid late links' (3 * (leftRoot + 1)) (3 * (rightRoot + 1))
        left.links_are
        (right.links_are ∙ ap (λ (k : ℕ). overwrite (3 * (leftRoot + 1)) (links_from k (entry + length (numbers l)) r) mid) second)
        (put.links_are
        ∙ ap₂ (λ (x y : ℕ). overwrite (3 * (rightRoot + 1)) (2 ∷ x ∷ y ∷ []) late) left.root_is (right.root_is ∙ ap (λ (k : ℕ). root_from k r) second))
        (omega (arith, second, links_length node entry l))
        (omega (arith, second, third, links_length (node + node_count l) (entry + length (numbers l)) r))
        (omega arith);
    boxes_are =
        three_writes (6 * node) (boxes_of box_at l) (boxes_of box_at r) (six_of (union (box_over box_at l) (box_over box_at r))) boxes bmid blate boxes'
        (6 * (leftRoot + 1)) (6 * (rightRoot + 1))
        left.boxes_are
        right.boxes_are
        (put.boxes_are ∙ ap₂ (λ (x y : Box). overwrite (6 * (rightRoot + 1)) (six_of (union x y)) blate) left.box_is right.box_is)
        (omega (arith, second, boxes_length box_at l))
        (omega (arith, second, third, boxes_length box_at r))
        (omega arith);
    root_is = put.root_is ∙ third;
    levels_are = put.levels_are ∙ ap₂ (λ (x y : ℕ). max x y + 1) left.levels_are right.levels_are;
    box_is = put.box_is ∙ ap₂ union left.box_is right.box_is;
  }
