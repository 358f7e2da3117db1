-- The listing of a tree passes each of the five checks.
use mathlib.Core.Path.{◌≡◌, refl, sym, ap, ◌∙◌}
use mathlib.Core.Bool.{true}
use mathlib.Core.List.{List, [], ◌∷◌}
use Prim.Native.Nat.{ℕ, ◌+◌, ◌-◌, ◌*◌, ◌≤◌, ◌<◌}
use native.Mathlib.Omega.{arith}
use native.Mathlib.Numerals.{add-one}
use borrow.Author.Tests.{eq-eqb, lt-ltb, le-leb}
use lib.ListN.{length}
use lib.Ieee.{Float}
use Rattle.spec_lists.specs.Refusals.{passes}
use Rattle.spec_lists.proofs.Verdicts.{then_passes}
use Rattle.spec_shapes.specs.Boxes.{Box}
use Rattle.spec_tree.specs.Trees.{Tree, leaf, branch, numbers, node_count, Filled, box_over, root_from, links_from, boxes_of, node_box}
use Rattle.spec_tree.specs.Accepted.{Listing, present}
use Rattle.spec_tree.specs.Reasons.{count_refusal, stand, scan_leaf, scan, listing_refusal, is_shallow, depth_refusal, is_boxed, box_refusal, reason}
use Rattle.spec_tree.proofs.Standing.{stands_slice}
use Rattle.spec_tree.proofs.Nodes.{NodeLinks, links_read, box_read, box_same}
use Rattle.spec_tree.proofs.Trees.{root_last}
use Rattle.spec_tree.proofs.Levels.{levels_shallow}
use Rattle.spec_tree.proofs.Order.{permutes_test}
use Rattle.spec_tree.proofs.Links.{each_node}
use Rattle.spec_tree.proofs.Listed.{Listed, Halves, halves}
use Rattle.spec_tree.proofs.Accepted.{listing_some, listing_most, listing_links, listing_boxes, listing_stands}
use Rattle.spec_tree.proofs.Failing.{where_passes}
use Rattle.spec_tree.proofs.NewEntries.{order_passes}

module _ (box_at : ℕ → Box) (order links : List ℕ) (boxes : List Float) (n : ℕ) where
  -- the scan of a listing leaves its root standing on what stood before
  scan_listed : (t : Tree) (first entry node last : ℕ) (roots : List ℕ) → Filled t → Listed box_at order links boxes first entry node last t → last ≤ n
      → scan n links first ≡ stand roots entry → scan n links (node + 1) ≡ stand (node ∷ roots) last
  unfolding scan scan_leaf numbers root_from links_from
  scan_listed (leaf slice) first entry node last roots f s w here =
      let end : ℕ = entry + length slice in
      let own : NodeLinks links first 1 entry end = links_read links first 1 entry end s.links_stand in
      let ends : end ≡ last = s.ends in
      let longer : entry < end = omega arith in
      rw (
        ← s.root,
        ← ends,
        add-one,
        here,
        own.kind_is,
        own.left_is,
        own.right_is,
        eq-eqb entry entry refl,
        lt-ltb entry end longer,
        le-leb end n (omega arith),
      )
  scan_listed (branch l r) first entry node last roots f s w here =
      let h : Halves box_at order links boxes first entry node last l r = halves box_at order links boxes first entry node last l r s in
      let mid : ℕ = entry + length (numbers l) in
      let next : ℕ = first + node_count l in
      let low : ℕ = root_from first l in
      let high : ℕ = root_from next r in
      let left = scan_listed l first entry low mid roots f.0 h.left (omega (arith, h.right.ends)) here in
      let left' : scan n links next ≡ stand (low ∷ roots) mid = ap (scan n links) (sym h.left_next) ∙ left in
      let right = scan_listed r next mid high last (low ∷ roots) f.1 h.right w left' in
      let before : scan n links node ≡ stand (high ∷ low ∷ roots) last = ap (scan n links) (sym h.right_next) ∙ right in
      rw (add-one, before, h.own.kind_is, h.own.left_is, h.own.right_is, eq-eqb low low refl, eq-eqb high high refl)

  -- ---- each node of a listing has its box
  root_boxed : (t : Tree) (first entry node last : ℕ) → Listed box_at order links boxes first entry node last t → node_box boxes node ≡ box_over box_at t
  unfolding box_over boxes_of root_from
  root_boxed (leaf slice) first entry node last s = rw (← s.root) (box_read boxes first _ s.boxes_stand)
  root_boxed (branch l r) first entry node last s = (halves box_at order links boxes first entry node last l r s).box

  listed_boxed : (t : Tree) (first entry node last : ℕ) → Listed box_at order links boxes first entry node last t → (k : ℕ) → first ≤ k → k < node + 1
      → is_boxed box_at order links boxes k ≡ true
  unfolding is_boxed box_over numbers links_from root_from boxes_of
  listed_boxed (leaf slice) first entry node last s k a b =
      let end : ℕ = entry + length slice in
      let here : k ≡ first = omega (arith, s.root) in
      let own : NodeLinks links first 1 entry end = links_read links first 1 entry end s.links_stand in
      let cut = stands_slice 0 order slice entry (end - entry) (omega arith) s.slice in
      rw (here, own.kind_is)
      (box_same _ (node_box boxes first) (rw (own.left_is, own.right_is, cut) (sym (box_read boxes first _ s.boxes_stand))))
  listed_boxed (branch l r) first entry node last s k a b =
      let h : Halves box_at order links boxes first entry node last l r = halves box_at order links boxes first entry node last l r s in
      let mid : ℕ = entry + length (numbers l) in
      let next : ℕ = first + node_count l in
      let low : ℕ = root_from first l in
      let high : ℕ = root_from next r in
      each_node (λ (j : ℕ). is_boxed box_at order links boxes j ≡ true) first next node
      (λ j p q. listed_boxed l first entry low mid h.left j p (omega (arith, h.left_next)))
      (λ j p q. listed_boxed r next mid high last h.right j p (omega (arith, h.right_next)))
      (rw h.own.kind_is
      (box_same _ (node_box boxes node)
      (rw (h.own.left_is, h.own.right_is, root_boxed l first entry low mid h.left, root_boxed r next mid high last h.right) (sym h.box))))
      k a (omega arith)

-- ---- all five
module _ (box_at : ℕ → Box) (n : ℕ) (order links : List ℕ) (boxes : List Float) (nodes : ℕ) (t : Tree) (s : Listing box_at n order links boxes nodes t) where
  some : 1 ≤ nodes
  some = listing_some box_at n order links boxes nodes t s

  stands : Listed box_at order links boxes 0 0 (nodes - 1) n t
  stands = listing_stands box_at n order links boxes nodes t s

  count_passes : count_refusal n links boxes nodes ≡ passes
  unfolding count_refusal present
  count_passes =
      rw (
        lt-ltb 0 nodes some,
        lt-ltb nodes (2 * n) (omega (arith, listing_most box_at n order links boxes nodes t s)),
        le-leb (3 * nodes) (length links) (listing_links box_at n order links boxes nodes t s),
        le-leb (6 * nodes) (length boxes) (listing_boxes box_at n order links boxes nodes t s),
      )

  listing_passes : listing_refusal n links nodes ≡ passes
  unfolding listing_refusal scan
  listing_passes =
      let end : nodes - 1 + 1 ≡ nodes = omega (arith, some) in
      let scanned : scan n links nodes ≡ stand ((nodes - 1) ∷ []) n =
      ap (scan n links) (sym end) ∙ scan_listed box_at order links boxes n t 0 0 (nodes - 1) n [] s.filled stands (omega arith) refl in
      rw (scanned, eq-eqb n n refl)

  depth_passes : depth_refusal links nodes ≡ passes
  unfolding depth_refusal
  depth_passes =
      where_passes (is_shallow links nodes) nodes 74
      (levels_shallow links nodes t (omega (arith, root_last 0 t, s.nodes_are)) stands.links_stand s.shallow)

  boxes_pass : box_refusal box_at order links boxes nodes ≡ passes
  unfolding box_refusal
  boxes_pass =
      where_passes (is_boxed box_at order links boxes) nodes 75
      (λ (k : ℕ) (b : k < nodes). listed_boxed box_at order links boxes n t 0 0 (nodes - 1) n stands k (omega arith) (omega (arith, some)))

  -- what is a listing is not refused
  pub listing_unrefused : reason box_at n order links boxes nodes ≡ passes
  unfolding reason
  listing_unrefused =
      then_passes _ (order_passes n order (permutes_test n order s.permuted), (count_passes, (listing_passes, (depth_passes, (boxes_pass, tt)))))
