-- How code looks for a reason, without a stack of roots: what its inner functions answer, and what they need. Nobody has to believe this page: that
-- it finds what Reasons says is proved (proofs/Scanning, proofs/Deep).
use Rattle.std.specs.Prelude.{◌≡◌, Bool, true, false, cond, ◌&&◌, List, ℕ, zero, suc, ◌+◌, ◌-◌, ◌*◌, ◌≤◌, ◌<◌, leb, ltb, eqb, length}
use Rattle.spec_lists.specs.Refusals.{passes}
use Rattle.spec_tree.specs.Trees.{kind_at, left_at, right_at}
use Rattle.spec_tree.specs.Reasons.{leaf_goes_on, stand, scan, listing_refusal}

-- ---- the listing, node by node
-- the first node of the listing that ends with this one: down the left children, so many at most
unfoldable pub first_of : List ℕ → (steps node : ℕ) → ℕ
first_of links zero node = node
first_of links (suc steps) node = cond (eqb (kind_at links node) 2) (first_of links steps (left_at links node)) node

-- a branch has the tree that ends just before it, and the one that ends just before that
abbrev pub branch_goes_on : List ℕ → ℕ → Bool
branch_goes_on links node = ltb 0 node && eqb (right_at links node + 1) node && eqb (left_at links node + 1) (first_of links (node - 1) (node - 1))

abbrev pub kind_goes_on : Bool → Bool → ℕ → List ℕ → (node entry : ℕ) → Bool
kind_goes_on true is_branch n links node entry = leaf_goes_on n links node entry
kind_goes_on false true n links node entry = branch_goes_on links node
kind_goes_on false false n links node entry = false

unfoldable pub goes_on : ℕ → List ℕ → (node entry : ℕ) → Bool
goes_on n links node entry = kind_goes_on (eqb (kind_at links node) 1) (eqb (kind_at links node) 2) n links node entry

-- the entry that is reached behind the node
abbrev pub entry_after : List ℕ → (node entry : ℕ) → ℕ
entry_after links node entry = cond (eqb (kind_at links node) 1) (right_at links node) entry

-- nothing broke before this node, and the leaves cover the entries before this one
pub record Scanned (n : ℕ) (links : List ℕ) (node entry : ℕ) : Type 0 where
  pub roots : List ℕ
  pub is : scan n links node ≡ stand roots entry

-- the links are the listing of one tree: 73 passed
pub record OneTree (links : List ℕ) (nodes : ℕ) : Type 0 where
  pub triangles : ℕ
  pub some : 0 < nodes
  pub there : 3 * nodes ≤ length links
  pub listed : listing_refusal triangles links nodes ≡ passes

-- ---- the first node that is too deep
-- where it was found, if no further than the last, else elsewhere
abbrev pub found_within : (found last other : ℕ) → ℕ
found_within found last other = cond (leb found last) found other

abbrev pub deep_below : Bool → (ℕ → ℕ) → List ℕ → ℕ → ℕ
deep_below true below links node =
    found_within (below (left_at links node)) (left_at links node) (found_within (below (right_at links node)) (right_at links node) (node + 1))
deep_below false below links node = node + 1

-- the first node more than so many levels down in the listing that ends with this one, the next node where there is none: left before right,
-- and where no level remains, the first of all that hang there
unfoldable pub first_deep : List ℕ → (levels node : ℕ) → ℕ
first_deep links zero node = first_of links node node
first_deep links (suc levels) node = deep_below (eqb (kind_at links node) 2) (first_deep links levels) links node
