-- What an accepted tree gives a walk: it hangs at the root, node by node, and every node is sound.
use mathlib.Core.Path.{◌≡◌, subst}
use mathlib.Core.List.{List}
use mathlib.Core.Logic.{◌⊎◌, inl, inr}
use Prim.Native.Nat.{ℕ, ◌+◌, ◌-◌, ◌*◌, ◌≤◌, ◌<◌}
use native.Mathlib.Omega.{arith}
use lib.ListN.{length}
use lib.Ieee.{Float}
use Rattle.spec_shapes.specs.Boxes.{Box}
use Rattle.spec_tree.specs.Trees.{Tree, leaf, branch, numbers, node_count, Filled, joined, box_over, root_from, links_from, boxes_of, kind_at}
use Rattle.spec_tree.specs.Accepted.{Listing}
use Rattle.spec_tree.specs.Hangs.{There, LeafAt, Hangs, LeafRange, ChildrenBefore, Sound}
use Rattle.spec_tree.proofs.Standing.{stands_slice}
use Rattle.spec_tree.proofs.Nodes.{NodeLinks, links_read, box_read}
use Rattle.spec_tree.proofs.Trees.{root_last, count_least}
use Rattle.spec_tree.proofs.Links.{each_node}
use Rattle.spec_tree.proofs.Listed.{Listed, Halves, halves}
use Rattle.spec_tree.proofs.Accepted.{listing_stands, listing_some, listing_links, listing_boxes}
use Rattle.spec_tree.proofs.Order.{permutes_entries}

module _ (box_at : ℕ → Box) (order links : List ℕ) (boxes : List Float) where
  leaf_hangs : (slice : List ℕ) (entry node last : ℕ) → 0 < length slice → Listed box_at order links boxes node entry node last (leaf slice)
      → There links boxes node
      → LeafAt order links boxes slice (joined box_at slice) node
  unfolding numbers links_from boxes_of
  leaf_hangs slice entry node last f s w =
      let own : NodeLinks links node 1 entry (entry + length slice) = links_read links node 1 entry (entry + length slice) s.links_stand in
      let end : entry + length slice ≡ last = s.ends in
      let size : length slice ≡ entry + length slice - entry = omega arith in
      record {
        there = w;
        kind_is = own.kind_is;
        nonempty = omega (arith, own.left_is, own.right_is);
        within = omega (arith, own.right_is, s.within);
        slice_is = rw (own.left_is, own.right_is) (stands_slice 0 order slice entry (entry + length slice - entry) size s.slice);
        box_is = box_read boxes node (joined box_at slice) s.boxes_stand;
      }

  -- the listing of a tree hangs at its root
  listed_hangs : (t : Tree) (first entry node last : ℕ) → Filled t → Listed box_at order links boxes first entry node last t
      → 3 * node + 3 ≤ length links → 6 * node + 6 ≤ length boxes → Hangs box_at order links boxes t node
  unfolding box_over root_from
  listed_hangs (leaf slice) first entry node last f s wl wb =
      leaf_hangs slice entry node last f (subst (λ (k : ℕ). Listed box_at order links boxes k entry node last (leaf slice)) s.root s) (omega arith)
  listed_hangs (branch l r) first entry node last f s wl wb =
      let h : Halves box_at order links boxes first entry node last l r = halves box_at order links boxes first entry node last l r s in
      record {
        there = omega arith;
        kind_is = h.own.kind_is;
        left_before = omega (arith, h.own.left_is, h.left_next, h.right_next, count_least r);
        right_before = omega (arith, h.own.right_is, h.right_next);
        box_is = h.box;
        left =
            rw h.own.left_is (listed_hangs l first entry (root_from first l) (entry + length (numbers l)) f.0 h.left
            (omega (arith, h.left_next, h.right_next, count_least r)) (omega (arith, h.left_next, h.right_next, count_least r)));
        right =
            rw h.own.right_is (listed_hangs r (first + node_count l) (entry + length (numbers l)) (root_from (first + node_count l) r) last f.1 h.right
            (omega (arith, h.right_next)) (omega (arith, h.right_next)));
      }

  -- ---- what holds of every node of a listing
  abbrev Node : ℕ → Type 0
  Node node = LeafRange order links node ⊎ ChildrenBefore links node

  -- every node of a listing, not only the root, is a sound leaf or branch
  listed_node : (t : Tree) (first entry node last : ℕ) → Filled t → Listed box_at order links boxes first entry node last t
      → 3 * node + 3 ≤ length links → 6 * node + 6 ≤ length boxes → (k : ℕ) → first ≤ k → k < node + 1 → Node k
  unfolding root_from
  listed_node (leaf slice) first entry node last f s wl wb k a b =
      let here : LeafAt order links boxes slice (joined box_at slice) node = listed_hangs (leaf slice) first entry node last f s wl wb in
      let e : node ≡ k = omega (arith, s.root) in
      subst Node e (inl (record { is_leaf = here.kind_is; nonempty = here.nonempty; within = here.within }))
  listed_node (branch l r) first entry node last f s wl wb k a b =
      let h : Halves box_at order links boxes first entry node last l r = halves box_at order links boxes first entry node last l r s in
      let left_before : root_from first l < node = omega (arith, h.left_next, h.right_next, root_last (first + node_count l) r) in
      let right_before : root_from (first + node_count l) r < node = omega (arith, h.right_next) in
      let here : ChildrenBefore links node =
      record { is_branch = h.own.kind_is; left_before = rw h.own.left_is left_before; right_before = rw h.own.right_is right_before } in
      each_node Node first (first + node_count l) node
      (λ j p q. listed_node l first entry (root_from first l) (entry + length (numbers l)) f.0 h.left (omega arith) (omega arith) j p
      (omega (arith, h.left_next)))
      (λ j p q. listed_node r (first + node_count l) (entry + length (numbers l)) (root_from (first + node_count l) r) last f.1 h.right (omega arith)
      (omega arith) j p (omega (arith, h.right_next)))
      (inr here) k a (omega arith)

-- ---- of a whole listing
module _ (box_at : ℕ → Box) (n : ℕ) (order links : List ℕ) (boxes : List Float) (nodes : ℕ) (t : Tree) (s : Listing box_at n order links boxes nodes t) where
  some : 1 ≤ nodes
  some = listing_some box_at n order links boxes nodes t s

  links_there : 3 * nodes ≤ length links
  links_there = listing_links box_at n order links boxes nodes t s

  boxes_there : 6 * nodes ≤ length boxes
  boxes_there = listing_boxes box_at n order links boxes nodes t s

  -- the tree hangs at the last node, where every walk begins
  pub listing_hangs : Hangs box_at order links boxes t (nodes - 1)
  listing_hangs =
      listed_hangs box_at order links boxes t 0 0 (nodes - 1) n s.filled (listing_stands box_at n order links boxes nodes t s)
      (omega (arith, some, links_there)) (omega (arith, some, boxes_there))

  -- every node is sound, so that a reader who meets nodes in any order stays within the lists
  pub listing_sound : Sound n order links boxes nodes
  listing_sound =
      record {
        links_there = links_there;
        boxes_there = boxes_there;
        node_is = λ node h.
            listed_node box_at order links boxes t 0 0 (nodes - 1) n s.filled (listing_stands box_at n order links boxes nodes t s)
            (omega (arith, some, links_there)) (omega (arith, some, boxes_there)) node (omega arith) (omega (arith, some));
        entries = permutes_entries n order s.permuted;
      }

-- ---- a sound node, by its kind
module _ (order links : List ℕ) (node : ℕ) (is : LeafRange order links node ⊎ ChildrenBefore links node) where
  -- of kind 1, it has a range within the order list
  pub sound_leaf : kind_at links node ≡ 1 → LeafRange order links node
  sound_leaf p = go is
    where
      go : LeafRange order links node ⊎ ChildrenBefore links node → LeafRange order links node
      go (inl l) = l
      go (inr b) = absurd (omega (arith, b.is_branch))

  -- of another kind, it has its children before it
  pub sound_branch : (kind_at links node ≡ 1 → ⊥) → ChildrenBefore links node
  sound_branch p = go is
    where
      go : LeafRange order links node ⊎ ChildrenBefore links node → ChildrenBefore links node
      go (inl l) = absurd (p l.is_leaf)
      go (inr b) = b
