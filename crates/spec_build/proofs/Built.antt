-- A tree over n triangles, none of its leaves empty and not too deep, is what lists hold once it is written into them.
-- A tree that is grown from all n triangles is such a tree.
use mathlib.Core.Path.{◌≡◌, refl}
use mathlib.Core.List.Permᴰ
use mathlib.Core.List.{List, [], ◌∷◌}
use Prim.Native.Nat.{ℕ, zero, suc, ◌+◌, ◌-◌, ◌*◌, ◌≤◌, ◌<◌}
use native.Mathlib.Omega.{arith}
use lib.ListN.{length, take, drop}
use lib.Seq.{take_at}
use lib.Ieee.{Float}
use Rattle.spec_tables.specs.Tables.{overwrite}
use Rattle.spec_lists.specs.Limits.{deepest}
use Rattle.spec_shapes.specs.Boxes.{Box}
use Rattle.spec_tree.specs.Trees.{Tree, numbers, node_count, levels, Filled, links_from, boxes_of}
use Rattle.spec_tree.specs.Order.{range, Permutes}
use Rattle.spec_tree.specs.Accepted.{Listing}
use Rattle.spec_tables.specs.Each.{Each}
use Rattle.spec_build.specs.Grown.{Tried, grown, Trying}
use Rattle.spec_tree.proofs.Trees.{links_length, boxes_length, count_most}
use Rattle.spec_tree.proofs.Order.{permutes_length}
use Rattle.spec_tables.proofs.Each.{each_append}
use Rattle.spec_build.proofs.Grown.{grown_permutes, grown_levels, grown_filled}

-- the front of a list, once written, is what was written
pub front_overwrite : {A : Type 0} (n : ℕ) (new old : List A) → length new ≡ n → take n (overwrite 0 new old) ≡ new
unfolding overwrite
front_overwrite n new old e = take_at new (drop (0 + length new) old) n e

-- a tree over the n triangles
pub record Whole (n : ℕ) (t : Tree) : Type 0 where
  pub permuted : Permutes n (numbers t)
  pub filled : Filled t
  pub shallow : levels t ≤ deepest

module _ {n : ℕ} {t : Tree} (h : Whole n t) where
  -- a tree over n triangles has n triangle numbers in its leaves
  pub whole_count : length (numbers t) ≡ n
  whole_count = permutes_length n (numbers t) h.permuted

  -- a tree over n triangles has at most 2n - 1 nodes
  pub whole_nodes : node_count t + 1 ≤ 2 * n
  whole_nodes = omega (arith, whole_count, count_most t h.filled)

  module _ (box_at : ℕ → Box) (order links : List ℕ) (boxes : List Float) where
    -- written into the lists, the tree is their listing, which the tree check accepts
    pub whole_listing : Listing box_at n (take n (overwrite 0 (numbers t) order)) (overwrite 0 (links_from 0 0 t) links)
        (overwrite 0 (boxes_of box_at t) boxes) (node_count t) t
    whole_listing =
        let order_is : take n (overwrite 0 (numbers t) order) ≡ numbers t = front_overwrite n (numbers t) order whole_count in
        record {
          order_is = order_is;
          permuted = rw order_is h.permuted;
          filled = h.filled;
          nodes_are = refl;
          links_are = front_overwrite (3 * node_count t) (links_from 0 0 t) links (links_length 0 0 t);
          boxes_are = front_overwrite (6 * node_count t) (boxes_of box_at t) boxes (boxes_length box_at t);
          shallow = h.shallow;
        }

-- ---- a tree that is grown from all of them
-- what holds of every number below n holds of each entry of the order 0, 1, 2 and so on
pub each_range : (P : ℕ → Type 0) (n : ℕ) → ((k : ℕ) → k < n → P k) → Each P (range n)
unfolding range
each_range P zero h = tt
each_range P (suc n) h = each_append P (range n) (n ∷ []) (each_range P n (λ k w. h k (omega arith))) (h n (omega arith), tt)

-- the order 0, 1, 2 and so on of n triangles has n entries
pub range_length : (n : ℕ) → length (range n) ≡ n
range_length n = permutes_length n (range n) (Permᴰ.refl (range n))

-- grown from all n triangles at settings in range, a tree holds each of them once, has no empty leaf and is not too deep
pub grown_whole : {tried : List ℕ → Tried} {Used : ℕ → Type 0} → Trying tried Used → (leaf_minimum maximum_depth n : ℕ) → 1 ≤ leaf_minimum
    → maximum_depth ≤ deepest → 1 ≤ n
    → ((k : ℕ) → k < n → Used k) → Whole n (grown tried leaf_minimum (maximum_depth - 1) (range n))
grown_whole {Used = Used} h leaf_minimum maximum_depth n leaf depth some used = record {
  permuted = grown_permutes h leaf_minimum (maximum_depth - 1) (range n);
  filled = grown_filled h leaf_minimum leaf (maximum_depth - 1) (range n) (omega (arith, range_length n)) (each_range Used n used);
  shallow = omega (arith, grown_levels h leaf_minimum (maximum_depth - 1) (range n));
}
