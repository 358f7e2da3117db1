-- The level of each node under the root of a tree: the deepest node has as many as the tree.
use mathlib.Core.Path.{◌≡◌, refl, ap, ◌∙◌}
use mathlib.Core.Bool.{Bool, true, false, cond}
use mathlib.Core.List.{List}
use Prim.Native.Nat.{ℕ, zero, suc, ◌+◌, ◌-◌, ◌≤◌, ◌<◌, max}
use native.Mathlib.Omega.{arith}
use borrow.Author.Tests.{eq-eqb, ne_eqb, le-leb, lt-leb, leb-true}
use lib.Dec.{eqb}
use lib.ListN.{length}
use Rattle.spec_lists.specs.Limits.{deepest}
use Rattle.spec_tree.specs.Trees.{Tree, leaf, branch, numbers, node_count, levels, root_from}
use Rattle.spec_tree.specs.Reasons.{child_over, level_under, is_shallow}
use Rattle.spec_tree.proofs.Trees.{root_last, levels_least}
use Rattle.spec_tree.proofs.Links.{LinksStand, BranchLinks, branch_links, each_node}

-- a tree has no more levels than nodes, so that so many steps lead down to each node
pub levels_count : (t : Tree) → levels t ≤ node_count t
unfolding levels node_count
levels_count (leaf slice) = omega arith
levels_count (branch l r) = omega (arith, levels_count l, levels_count r)

module _ (links : List ℕ) where
  -- the root has level 1, and no node has less
  pub level_least : (steps root k : ℕ) → 1 ≤ level_under links steps root k
  unfolding level_under
  level_least zero root k = omega arith
  level_least (suc steps) root k = by (eqb k root)
    where
      by : (b : Bool) → 1 ≤ cond b 1 (suc (level_under links steps (child_over links root k) k))
      by true = omega arith
      by false = omega arith

  -- the root has it
  pub level_root : (steps root : ℕ) → level_under links steps root root ≡ 1
  unfolding level_under
  level_root zero root = refl
  level_root (suc steps) root = rw (eq-eqb root root refl)

  -- and so has the one node of a leaf
  pub level_alone : (steps root k : ℕ) → root ≤ k → k ≤ root → level_under links steps root k ≡ 1
  level_alone steps root k a w = let e : k ≡ root = omega arith in ap (level_under links steps root) e ∙ level_root steps root

  module _ (first start steps : ℕ) (l r : Tree) (b : BranchLinks links first start l r) where
    abbrev root : ℕ
    root = root_from first (branch l r)

    -- a node of the left subtree has one level more than there
    pub level_left : (k : ℕ) → k < first + node_count l → level_under links (suc steps) root k ≡ suc (level_under links steps (root_from first l) k)
    unfolding level_under
    level_left k h =
        let before : k < root = omega arith in
        rw (ne_eqb k root (λ (q : k ≡ root). omega arith), b.own.left_is, le-leb k (root_from first l) (omega arith))

    -- and one of the right subtree one more than there
    pub level_right : (k : ℕ) → first + node_count l ≤ k → k < root
        → level_under links (suc steps) root k ≡ suc (level_under links steps (root_from (first + node_count l) r) k)
    unfolding level_under
    level_right k h w =
        rw (ne_eqb k root (λ (q : k ≡ root). omega arith), b.own.left_is, b.own.right_is, lt-leb k (root_from first l) (omega arith))

  -- every node of a tree has at most as many levels as the tree
  level_most : (t : Tree) (first start steps : ℕ) → LinksStand links first start t → (k : ℕ) → first ≤ k → k ≤ root_from first t
      → level_under links steps (root_from first t) k ≤ levels t
  unfolding levels root_from level_under
  level_most t first start zero s k a w = levels_least t
  level_most (leaf slice) first start (suc steps) s k a w = omega (arith, level_alone (suc steps) first k a w)
  level_most (branch l r) first start (suc steps) s k a w =
      let b : BranchLinks links first start l r = branch_links links first start l r s in
      each_node (λ k. level_under links (suc steps) (root_from first (branch l r)) k ≤ max (levels l) (levels r) + 1)
      first (first + node_count l) (root_from first (branch l r))
      (λ k p q. omega (arith, level_left first start steps l r b k q, level_most l first start steps b.left k p (omega arith)))
      (λ k p q. omega (
        arith,
        level_right first start steps l r b k p q,
        level_most r (first + node_count l) (start + length (numbers l)) steps b.right k p (omega arith),
      ))
      (omega (arith, level_root (suc steps) (root_from first (branch l r))))
      k a w

  -- and where so many steps lead down, no more than some node of it
  levels_reached : (t : Tree) (first start steps most : ℕ) → LinksStand links first start t → levels t ≤ suc steps
      → ((k : ℕ) → first ≤ k → k ≤ root_from first t → level_under links steps (root_from first t) k ≤ most)
      → levels t ≤ most
  unfolding levels root_from
  levels_reached (leaf slice) first start steps most s w all = omega (arith, all first (omega arith) (omega arith), level_root steps first)
  levels_reached (branch l r) first start zero most s w all = absurd (omega (arith, levels_least l, levels_least r))
  levels_reached (branch l r) first start (suc steps) most s w all =
      let b : BranchLinks links first start l r = branch_links links first start l r s in
      let root : ℕ = root_from first (branch l r) in
      let left : levels l ≤ most - 1 = levels_reached l first start steps (most - 1) b.left (omega arith)
      (λ k p q. let inside : k < first + node_count l = omega arith in
      omega (arith, all k p (omega arith), level_left first start steps l r b k inside)) in
      let right : levels r ≤ most - 1 = levels_reached r (first + node_count l) (start + length (numbers l)) steps (most - 1) b.right (omega arith)
      (λ k p q. omega (arith, all k (omega arith) (omega arith), level_right first start steps l r b k p (omega arith))) in
      omega (arith, all root (omega arith) (omega arith), level_root (suc steps) root, levels_least l)

  -- ---- the whole tree
  module _ (nodes : ℕ) (t : Tree) (whole : root_from 0 t + 1 ≡ nodes) (s : LinksStand links 0 0 t) where
    root_is : nodes - 1 ≡ root_from 0 t
    root_is = omega arith

    level_is : (k : ℕ) → level_under links nodes (nodes - 1) k ≡ level_under links nodes (root_from 0 t) k
    level_is k = ap (λ (root : ℕ). level_under links nodes root k) root_is

    -- 74 passes where the tree has no more levels than allowed
    pub levels_shallow : levels t ≤ deepest → (k : ℕ) → k < nodes → is_shallow links nodes k ≡ true
    unfolding is_shallow
    levels_shallow few k h =
        le-leb (level_under links nodes (nodes - 1) k) deepest (omega (arith, level_is k, level_most t 0 0 nodes s k (omega arith) (omega arith)))

    -- and where it passes, the tree has no more
    pub shallow_levels : ((k : ℕ) → k < nodes → is_shallow links nodes k ≡ true) → levels t ≤ deepest
    unfolding is_shallow
    shallow_levels all =
        levels_reached t 0 0 nodes deepest s (omega (arith, levels_count t, root_last 0 t))
        (λ k p q. omega (arith, level_is k, leb-true (level_under links nodes (nodes - 1) k) deepest (all k (omega arith))))
