-- The links of a tree as they stand in the list, read from the root down: those of a branch are taken apart, what holds of the nodes of both subtrees and of
-- the root holds of every node, and the first node of a listing stands down the left children.
use mathlib.Core.Path.{◌≡◌, refl, subst}
use mathlib.Core.List.{List}
use Prim.Native.Nat.{ℕ, zero, suc, ◌+◌, ◌*◌, ◌≤◌, ◌<◌}
use native.Mathlib.Omega.{arith}
use native.Mathlib.Decide.{dec_lt}
use lib.ListN.{length}
use Rattle.spec_tree.specs.Trees.{Tree, leaf, branch, numbers, node_count, root_from, links_from}
use Rattle.spec_tree.specs.Ways.{first_of}
use Rattle.spec_tree.proofs.Standing.{Stands, three_stand}
use Rattle.spec_tree.proofs.Nodes.{NodeLinks, links_read}
use Rattle.spec_tree.proofs.Trees.{root_last, count_least, links_length}

-- the links of the tree stand in the list: its listing begins with node `first`, its triangles in the order list with entry `start`
abbrev pub LinksStand : List ℕ → (first start : ℕ) → Tree → Type 0
LinksStand links first start t = Stands 0 links (3 * first) (links_from first start t)

-- what holds of the nodes of both subtrees and of the root holds of every node of a branch
pub each_node : (P : ℕ → Type 0) (first mid root : ℕ) → ((k : ℕ) → first ≤ k → k < mid → P k) → ((k : ℕ) → mid ≤ k → k < root → P k) → P root
    → (k : ℕ) → first ≤ k → k ≤ root → P k
each_node P first mid root left right own k a b = pick (dec_lt k mid) (dec_lt k root)
  where
    pick : Dec (k < mid) → Dec (k < root) → P k
    pick (yes p) d = left k a p
    pick (no p) (yes q) = right k (omega arith) q
    pick (no p) (no q) = let e : root ≡ k = omega arith in subst P e own

module _ (links : List ℕ) where
  -- what the links of a branch are made of: those of its two subtrees, and its own node
  pub record BranchLinks (first start : ℕ) (l r : Tree) : Type 0 where
    pub left : LinksStand links first start l
    pub right : LinksStand links (first + node_count l) (start + length (numbers l)) r
    pub own : NodeLinks links (root_from first (branch l r)) 2 (root_from first l) (root_from (first + node_count l) r)
    pub left_next : root_from first l + 1 ≡ first + node_count l
    pub right_next : root_from (first + node_count l) r + 1 ≡ root_from first (branch l r)
    pub mid_before : first + node_count l ≤ root_from (first + node_count l) r

  -- the links of a branch are taken apart: the step of every recursion on them
  pub branch_links : (first start : ℕ) (l r : Tree) → LinksStand links first start (branch l r) → BranchLinks first start l r
  unfolding root_from links_from
  branch_links first start l r s =
      let mid : ℕ = first + node_count l in
      let three = three_stand 0 links (links_from first start l) (links_from mid (start + length (numbers l)) r) _ (3 * first) (3 * mid)
      (3 * (mid + node_count r))
      (omega (arith, links_length first start l)) (omega (arith, links_length mid (start + length (numbers l)) r)) s in
      record {
        left = three.0;
        right = three.1;
        own = links_read links (mid + node_count r) 2 (root_from first l) (root_from mid r) three.2;
        left_next = root_last first l;
        right_next = root_last mid r;
        mid_before = omega (arith, root_last mid r, count_least r);
      }

  -- the first node of a listing stands down the left children of its root
  pub first_down : (t : Tree) (first start steps : ℕ) → root_from first t ≤ first + steps → LinksStand links first start t
      → first_of links steps (root_from first t) ≡ first
  unfolding first_of root_from links_from
  first_down (leaf slice) first start zero h s = refl
  first_down (leaf slice) first start (suc steps) h s = rw (links_read links first 1 start (start + length slice) s).kind_is
  first_down (branch l r) first start zero h s = absurd (omega (arith, count_least l, count_least r))
  first_down (branch l r) first start (suc steps) h s =
      let b : BranchLinks first start l r = branch_links first start l r s in
      rw (b.own.kind_is, b.own.left_is) (first_down l first start steps (omega arith) b.left)
