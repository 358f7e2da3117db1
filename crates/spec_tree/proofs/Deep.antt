-- The look for a node that is too deep, left before right, finds the first of them in the listing.
use mathlib.Core.Path.{◌≡◌, refl, sym, subst, ◌∙◌}
use mathlib.Core.Bool.{Bool, true, false, cond}
use mathlib.Core.List.{List}
use Prim.Native.Nat.{ℕ, zero, suc, ◌+◌, ◌-◌, ◌≤◌, ◌<◌}
use native.Mathlib.Omega.{arith}
use native.Mathlib.Decide.{dec_lt}
use borrow.Author.Tests.{le-leb, lt-leb, leb-true, leb-false}
use lib.Dec.{leb}
use lib.ListN.{length}
use Rattle.spec_lists.specs.Limits.{deepest}
use Rattle.spec_tree.specs.Trees.{Tree, leaf, branch, numbers, node_count, levels, root_from, links_from}
use Rattle.spec_tree.specs.Reasons.{first_failing, level_under, is_shallow}
use Rattle.spec_tree.specs.Ways.{first_of, found_within, first_deep}
use Rattle.spec_tree.proofs.Failing.{none_fails, fails_at}
use Rattle.spec_tree.proofs.Nodes.{links_read}
use Rattle.spec_tree.proofs.Trees.{root_last, count_least, levels_least}
use Rattle.spec_tree.proofs.Links.{LinksStand, BranchLinks, branch_links, each_node, first_down}
use Rattle.spec_tree.proofs.Levels.{levels_count, level_least, level_root, level_alone, level_left, level_right}

module _ (links : List ℕ) where
  -- the first node of a listing more than so many levels down, the next node where there is none
  record FirstDeep (steps most first root found : ℕ) : Type 0 where
    low : first ≤ found
    high : found ≤ root + 1
    before : (k : ℕ) → first ≤ k → k < found → level_under links steps root k ≤ most
    here : found ≤ root → most < level_under links steps root found

  module _ (first start steps most : ℕ) (l r : Tree) (b : BranchLinks links first start l r) (inLeft inRight : ℕ)
      (left : FirstDeep steps most first (root_from first l) inLeft)
      (right : FirstDeep steps most (first + node_count l) (root_from (first + node_count l) r) inRight) where
    abbrev root : ℕ
    root = root_from first (branch l r)

    left_shallow : (k : ℕ) → first ≤ k → k < first + node_count l → k < inLeft → level_under links (suc steps) root k ≤ suc most
    left_shallow k a w h = omega (arith, level_left links first start steps l r b k w, left.before k a h)

    right_shallow : (k : ℕ) → first + node_count l ≤ k → k < root → k < inRight → level_under links (suc steps) root k ≤ suc most
    right_shallow k a w h = omega (arith, level_right links first start steps l r b k a w, right.before k a h)

    branch_deep : FirstDeep (suc steps) (suc most) first root
        (found_within inLeft (root_from first l) (found_within inRight (root_from (first + node_count l) r) (root + 1)))
    branch_deep = by_left (leb inLeft (root_from first l)) refl
      where
        by_right : root_from first l < inLeft → (y : Bool) → leb inRight (root_from (first + node_count l) r) ≡ y
            → FirstDeep (suc steps) (suc most) first root (cond y inRight (root + 1))
        by_right none true p =
            let found : inRight ≤ root_from (first + node_count l) r = leb-true inRight (root_from (first + node_count l) r) p in
            record {
              low = omega (arith, right.low);
              high = omega arith;
              before = λ k a h. each_node (λ j. j < inRight → level_under links (suc steps) root j ≤ suc most) first (first + node_count l) root
                  (λ j c w q. left_shallow j c w (omega arith)) (λ j c w q. right_shallow j c w q) (λ q. absurd (omega arith))
                  k a (omega arith) h;
              here = λ w. omega (arith, level_right links first start steps l r b inRight right.low (omega arith), right.here found);
            }
        by_right none false p =
            let more : root_from (first + node_count l) r < inRight = leb-false inRight (root_from (first + node_count l) r) p in
            record {
              low = omega arith;
              high = omega arith;
              before = λ k a h. each_node (λ j. level_under links (suc steps) root j ≤ suc most) first (first + node_count l) root
                  (λ j c w. left_shallow j c w (omega arith)) (λ j c w. right_shallow j c w (omega arith))
                  (omega (arith, level_root links (suc steps) root)) k a (omega arith);
              here = λ w. absurd (omega arith);
            }

        by_left : (x : Bool) → leb inLeft (root_from first l) ≡ x
            → FirstDeep (suc steps) (suc most) first root (cond x inLeft (found_within inRight (root_from (first + node_count l) r) (root + 1)))
        by_left true p =
            let found : inLeft ≤ root_from first l = leb-true inLeft (root_from first l) p in
            record {
              low = left.low;
              high = omega arith;
              before = λ k a h. left_shallow k a (omega arith) h;
              here = λ w. omega (arith, level_left links first start steps l r b inLeft (omega arith), left.here found);
            }
        by_left false p = by_right (leb-false inLeft (root_from first l) p) (leb inRight (root_from (first + node_count l) r)) refl

  found_deep : (t : Tree) (first start steps most : ℕ) → LinksStand links first start t → levels t ≤ suc steps
      → FirstDeep steps most first (root_from first t) (first_deep links most (root_from first t))
  unfolding first_deep levels root_from links_from
  found_deep t first start steps zero s w =
      let is : first_of links (root_from first t) (root_from first t) ≡ first = first_down links t first start (root_from first t) (omega arith) s in
      record {
        low = omega arith;
        high = omega (arith, root_last first t, count_least t);
        before = λ k a h. absurd (omega arith);
        here = λ h. level_least links steps (root_from first t) (first_of links (root_from first t) (root_from first t));
      }
  found_deep (leaf slice) first start steps (suc most) s w =
      rw (links_read links first 1 start (start + length slice) s).kind_is record {
        low = omega arith;
        high = omega arith;
        before = λ k a h. omega (arith, level_alone links steps first k a (omega arith));
        here = λ h. absurd (omega arith);
      }
  found_deep (branch l r) first start zero (suc most) s w = absurd (omega (arith, levels_least l, levels_least r))
  found_deep (branch l r) first start (suc steps) (suc most) s w =
      let b : BranchLinks links first start l r = branch_links links first start l r s in
      rw b.own.kind_is (rw (b.own.left_is, b.own.right_is) (branch_deep first start steps most l r b _ _
      (found_deep l first start steps most b.left (omega arith))
      (found_deep r (first + node_count l) (start + length (numbers l)) steps most b.right (omega arith))))

  module _ (nodes : ℕ) (t : Tree) (whole : root_from 0 t + 1 ≡ nodes) (s : LinksStand links 0 0 t) where
    abbrev found : ℕ
    found = first_deep links deepest (nodes - 1)

    deep : FirstDeep nodes deepest 0 (nodes - 1) found
    deep =
        let root_is : root_from 0 t ≡ nodes - 1 = omega arith in
        subst (λ (root : ℕ). FirstDeep nodes deepest 0 root (first_deep links deepest root)) root_is
        (found_deep t 0 0 nodes deepest s (omega (arith, levels_count t, root_last 0 t)))

    before_shallow : (k : ℕ) → k < found → is_shallow links nodes k ≡ true
    unfolding is_shallow
    before_shallow k h = le-leb (level_under links nodes (nodes - 1) k) deepest (deep.before k (omega arith) h)

    found_fails : found < nodes → is_shallow links nodes found ≡ false
    unfolding is_shallow
    found_fails h = lt-leb (level_under links nodes (nodes - 1) found) deepest (deep.here (omega arith))

    -- the look from the root down finds the first node of all that is too deep
    pub deep_first : found ≡ first_failing (is_shallow links nodes) nodes
    deep_first = pick (dec_lt found nodes)
      where
        pick : Dec (found < nodes) → found ≡ first_failing (is_shallow links nodes) nodes
        pick (yes b) = sym (fails_at (is_shallow links nodes) nodes found before_shallow b (found_fails b))
        pick (no b) =
            let none : found ≡ nodes = omega (arith, deep.high) in
            none ∙ sym (none_fails (is_shallow links nodes) nodes (λ k h. before_shallow k (omega arith)))
