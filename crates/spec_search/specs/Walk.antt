-- The walk of a tree, over any search: what is kept, when a node is skipped, which child goes first, what a triangle does to what is kept.
use Rattle.std.specs.Prelude.{Bool, true, false, List, [], ◌∷◌, ℕ, zero, suc, ◌+◌, eqb}
use Rattle.spec_tree.specs.Trees.{kind_at, left_at, right_at}
use Rattle.spec_tree.specs.Hangs.{leaf_slice}

-- a search that keeps an S
pub record Search (S : Type 0) : Type 0 where
  -- this node is skipped, at what is kept so far
  pub skipped : ℕ → S → Bool
  -- of a left and a right child, the right one goes first
  pub right_first : ℕ → ℕ → Bool
  -- what is kept once this triangle is measured
  pub took : ℕ → S → S

-- what is kept, and how many triangles were measured
pub record Sought (S : Type 0) : Type 0 where
  pub best : S
  pub measured : ℕ

abbrev pub is_leaf : List ℕ → ℕ → Bool
is_leaf links node = eqb (kind_at links node) 1

abbrev pub took_one : {S : Type 0} → (ℕ → S → S) → ℕ → Sought S → Sought S
took_one took t s = record { best = took t s.best; measured = s.measured + 1 }

-- each triangle of the list in turn
unfoldable pub took_all : {S : Type 0} → (ℕ → S → S) → List ℕ → Sought S → Sought S
took_all took [] s = s
took_all took (t ∷ ts) s = took_all took ts (took_one took t s)

-- two nodes, the right one first where the flag says so
abbrev pub in_turn : {S : Type 0} → Bool → (ℕ → Sought S → Sought S) → ℕ → ℕ → Sought S → Sought S
in_turn true walk l r s = walk l (walk r s)
in_turn false walk l r s = walk r (walk l s)

module _ {S : Type 0} (how : Search S) (order links : List ℕ) where
  -- a node that is looked at: a leaf is measured whole, a branch's children are walked as a pair
  abbrev pub looked_at : Bool → (ℕ → ℕ → Sought S → Sought S) → ℕ → Sought S → Sought S
  looked_at true pair node s = took_all how.took (leaf_slice order links node) s
  looked_at false pair node s = pair (left_at links node) (right_at links node) s

  -- a node, by whether it is skipped
  abbrev pub visited : Bool → (ℕ → ℕ → Sought S → Sought S) → ℕ → Sought S → Sought S
  visited true pair node s = s
  visited false pair node s = looked_at (is_leaf links node) pair node s

  -- The walk of a node, with d levels of branches remaining to be opened: below them nothing is looked at, so that it ends on any links.
  unfoldable pub node_walk : ℕ → ℕ → Sought S → Sought S
  node_walk zero node s = visited (how.skipped node s.best) (λ l r s'. s') node s
  node_walk (suc d) node s = visited (how.skipped node s.best) (λ l r s'. in_turn (how.right_first l r) (node_walk d) l r s') node s

  -- The walk of two children, each with d levels remaining.
  unfoldable pub pair_walk : ℕ → ℕ → ℕ → Sought S → Sought S
  pair_walk d l r s = in_turn (how.right_first l r) (node_walk d) l r s

  -- The walk from a root that is always looked at, as the source query does.
  unfoldable pub root_walk : ℕ → ℕ → Sought S → Sought S
  root_walk zero node s = looked_at (is_leaf links node) (λ l r s'. s') node s
  root_walk (suc d) node s = looked_at (is_leaf links node) (pair_walk d) node s

-- the fold of a search over a list: what is kept once each triangle is measured, in this order
unfoldable pub fold : {S : Type 0} → (ℕ → S → S) → List ℕ → S → S
fold took [] s = s
fold took (t ∷ ts) s = fold took ts (took t s)
