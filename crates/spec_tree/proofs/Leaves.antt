-- The leaves that are read off the lists of an accepted tree are the tree's, left to right.
-- Their slices, one after another, are the whole order list; each triangle is in exactly one; there are 1 to n of them.
use mathlib.Core.Path.{◌≡◌, refl, sym, ap, subst, ◌∙◌}
use mathlib.Core.Bool.{Bool, true, false, not, ◌&&◌, ◌||◌, or-true, true≢false}
use mathlib.Core.List.{List, [], ◌∷◌, ◌++◌, map, flatten, append_assoc, append-nil}
use Prim.Native.Nat.{ℕ, zero, suc, ◌+◌, ◌-◌, ◌≤◌, ◌<◌}
use native.Mathlib.Omega.{arith}
use native.Mathlib.Decide.{dec_lt}
use borrow.Author.Tests.{eqb-true, eq-eqb, not-true, lt-ltb, le-ltb}
use lib.Dec.{eqb}
use lib.ListN.{length, get_or, length-append, length-map}
use lib.Ieee.{Float}
use Rattle.spec_numbers.proofs.Tests.{both_passed}
use Rattle.spec_lists.specs.Reading.{box_at, triangle_count}
use Rattle.spec_lists.specs.Refusals.{Verdict, passes, refused, triangles_refusal}
use Rattle.spec_lists.proofs.Verdicts.{all_pass, then_passes}
use Rattle.spec_tables.specs.Tables as Tables
use Rattle.spec_shapes.specs.Boxes.{Box}
use Rattle.spec_tree.specs.Trees.{Tree, leaf, branch, numbers, node_count, Filled, joined, links_from, boxes_of, root_from, kind_at, node_box}
use Rattle.spec_tree.specs.Order.{range, permutes, occurs, all_below, distinct}
use Rattle.spec_tree.specs.Accepted.{Listing, accepted}
use Rattle.spec_tree.specs.Hangs.{Sound}
use Rattle.spec_tree.specs.Refusals.{check_refusal}
use Rattle.spec_tree.specs.Leaves.{leaves, Leaf, leaves_from, slice_of, one_if, slices_with, leaf_nodes, leaf_at, leaf_count, LeafFound, nothing, found, not_sought, kth, leaf_from, NodesThere, leaf_answer, EntryFound, no_entry, triangle, entry_refused, entry_at, entry_answer, counted, not_counted, counted_if, count_answer}
use Rattle.spec_tree.proofs.Standing.{Stands, stands_first, stands_second, stands_slice}
use Rattle.spec_tree.proofs.Nodes.{NodeLinks, links_read, box_read}
use Rattle.spec_tree.proofs.Trees.{root_last, count_least}
use Rattle.spec_tree.proofs.Listed.{Listed, Halves, halves}
use Rattle.spec_tree.proofs.Order.{occurs_append, permuted_occurs, permutes_test, permutes_length}
use Rattle.spec_tree.proofs.Accepted.{accepted_listed, listing_stands}
use Rattle.spec_tree.proofs.Hangs.{listing_sound}
use Rattle.spec_tree.proofs.Unchanged.{tree_passes, tree_passed}
use Rattle.spec_tree.proofs.Seeking.{other_node, leaf_nodes_then, kth_none, kth_some}

map_append : {A B : Type 0} (g : A → B) (xs ys : List A) → map g (xs ++ ys) ≡ map g xs ++ map g ys
map_append g [] ys = refl
map_append g (x ∷ xs) ys = ap (λ (r : List _). g x ∷ r) (map_append g xs ys)

flatten_append : {A : Type 0} (xs ys : List (List A)) → flatten (xs ++ ys) ≡ flatten xs ++ flatten ys
unfolding flatten
flatten_append [] ys = refl
flatten_append (x ∷ xs) ys = ap (λ (r : List _). x ++ r) (flatten_append xs ys) ∙ sym (append_assoc x (flatten xs) (flatten ys))

-- ---- the leaves of a tree
-- their slices, one after another, are the tree's triangle numbers
leaves_numbers : (t : Tree) → flatten (leaves t) ≡ numbers t
unfolding leaves numbers flatten
leaves_numbers (leaf slice) = append-nil slice
leaves_numbers (branch l r) = flatten_append (leaves l) (leaves r) ∙ (λ i. leaves_numbers l i ++ leaves_numbers r i)

leaves_least : (t : Tree) → 1 ≤ length (leaves t)
unfolding leaves
leaves_least (leaf slice) = omega arith
leaves_least (branch l r) = omega (arith, leaves_least l, length-append (leaves l) (leaves r))

leaves_most : (t : Tree) → Filled t → length (leaves t) ≤ length (numbers t)
unfolding leaves numbers
leaves_most (leaf slice) f = omega arith
leaves_most (branch l r) f =
    omega (arith, leaves_most l f.0, leaves_most r f.1, length-append (leaves l) (leaves r), length-append (numbers l) (numbers r))

-- each has the box that its triangles give it
leaves_boxed : (box_at : ℕ → Box) (node entry : ℕ) (t : Tree) → map (λ (l : Leaf). l.box) (leaves_from box_at node entry t) ≡ map (joined box_at) (leaves t)
unfolding leaves_from leaves
leaves_boxed box_at node entry (leaf slice) = refl
leaves_boxed box_at node entry (branch l r) =
    map_append _ (leaves_from box_at node entry l) _
    ∙ (λ i. leaves_boxed box_at node entry l i ++ leaves_boxed box_at (node + node_count l) (entry + length (numbers l)) r i)
    ∙ sym (map_append (joined box_at) (leaves l) (leaves r))

-- and its slice of an order list in which the tree's triangle numbers stand
leaves_slices : (box_at : ℕ → Box) (order : List ℕ) (node entry : ℕ) (t : Tree) → Stands 0 order entry (numbers t)
    → map (slice_of order) (leaves_from box_at node entry t) ≡ leaves t
unfolding leaves_from leaves numbers
leaves_slices box_at order node entry (leaf slice) s =
    let cut : Tables.slice order entry (entry + length slice - entry) ≡ slice =
    stands_slice 0 order slice entry (entry + length slice - entry) (omega arith) s in
    ap (λ (p : List ℕ). p ∷ []) cut
leaves_slices box_at order node entry (branch l r) s =
    let mid : ℕ = entry + length (numbers l) in
    map_append _ (leaves_from box_at node entry l) _
    ∙ (λ i. leaves_slices box_at order node entry l (stands_first 0 order (numbers l) (numbers r) entry s) i
    ++ leaves_slices box_at order (node + node_count l) mid r (stands_second 0 order (numbers l) (numbers r) entry mid refl s) i)

-- ---- a number that stands in a list of slices, in which none stands twice, stands in exactly one of them
neither : (a b : Bool) → (a || b) ≡ false → (a ≡ false) × (b ≡ false)
neither true b h = absurd (true≢false h)
neither false b h = (refl, h)

distinct_behind : (xs ys : List ℕ) → distinct (xs ++ ys) ≡ true → distinct ys ≡ true
unfolding distinct
distinct_behind [] ys d = d
distinct_behind (x ∷ xs) ys d = distinct_behind xs ys (both_passed (not (occurs x (xs ++ ys))) (distinct (xs ++ ys)) d).1

module _ (k : ℕ) where
  not_behind : (xs ys : List ℕ) → distinct (xs ++ ys) ≡ true → occurs k xs ≡ true → occurs k ys ≡ false
  unfolding distinct occurs
  not_behind [] ys d o = absurd (true≢false (sym o))
  not_behind (x ∷ xs) ys d o =
      let both = both_passed (not (occurs x (xs ++ ys))) (distinct (xs ++ ys)) d in
      at (eqb x k) refl (not-true (occurs x (xs ++ ys)) both.0) (not_behind xs ys both.1) o
    where
      at : (b : Bool) → eqb x k ≡ b → occurs x (xs ++ ys) ≡ false → (occurs k xs ≡ true → occurs k ys ≡ false) → (b || occurs k xs) ≡ true → occurs k ys ≡ false
      at true p free rest q =
          let free_of_k : occurs k (xs ++ ys) ≡ false = subst (λ (j : ℕ). occurs j (xs ++ ys) ≡ false) (eqb-true x k p) free in
          (neither (occurs k xs) (occurs k ys) (sym (occurs_append k xs ys) ∙ free_of_k)).1
      at false p free rest q = rest q

  slices_none : (slices : List (List ℕ)) → occurs k (flatten slices) ≡ false → slices_with k slices ≡ 0
  unfolding slices_with flatten
  slices_none [] h = refl
  slices_none (slice ∷ slices) h =
      let free = neither (occurs k slice) (occurs k (flatten slices)) (sym (occurs_append k slice (flatten slices)) ∙ h) in
      rw (free.0, slices_none slices free.1)

  slices_one : (slices : List (List ℕ)) → distinct (flatten slices) ≡ true → occurs k (flatten slices) ≡ true → slices_with k slices ≡ 1
  unfolding slices_with flatten occurs
  slices_one [] d h = absurd (true≢false (sym h))
  slices_one (slice ∷ slices) d h = at (occurs k slice) refl (slices_one slices (distinct_behind slice (flatten slices) d))
      (sym (occurs_append k slice (flatten slices)) ∙ h)
    where
      at : (b : Bool) → occurs k slice ≡ b → (occurs k (flatten slices) ≡ true → slices_with k slices ≡ 1) → (occurs k slice || occurs k (flatten slices))
          ≡ true
          → one_if (occurs k slice) + slices_with k slices ≡ 1
      at true p rest q = rw (p, slices_none slices (not_behind slice (flatten slices) d p))
      at false p rest q = rw (p, rest (rw p at q))

range_has : (n k : ℕ) → k < n → occurs k (range n) ≡ true
unfolding range occurs
range_has zero k h = absurd (omega arith)
range_has (suc n) k h = occurs_append k (range n) (n ∷ []) ∙ at (dec_lt k n) (range_has n k)
  where
    at : Dec (k < n) → (k < n → occurs k (range n) ≡ true) → (occurs k (range n) || (eqb n k || false)) ≡ true
    at (yes p) before = rw (before p)
    at (no p) before = let e : n ≡ k = omega arith in rw (eq-eqb n k e) (or-true (occurs k (range n)))

module _ (box_at : ℕ → Box) (order links : List ℕ) (boxes : List Float) where
  -- of a tree that stands in the lists, the leaves that are read are the tree's
  listed_leaves : (t : Tree) (first entry node last : ℕ) → Listed box_at order links boxes first entry node last t
      → map (leaf_at links boxes) (leaf_nodes links first (node_count t)) ≡ leaves_from box_at first entry t
  unfolding node_count leaves_from links_from boxes_of leaf_nodes
  listed_leaves (leaf slice) first entry node last s =
      let own : NodeLinks links first 1 entry (entry + length slice) = links_read links first 1 entry (entry + length slice) s.links_stand in
      let box : node_box boxes first ≡ joined box_at slice = box_read boxes first (joined box_at slice) s.boxes_stand in
      rw own.kind_is (λ i. record { node = first; first = own.left_is i; last = own.right_is i; box = box i } ∷ [])
  listed_leaves (branch l r) first entry node last s =
      let h : Halves box_at order links boxes first entry node last l r = halves box_at order links boxes first entry node last l r s in
      let own : first + (node_count l + node_count r) ≡ node = omega (arith, h.right_next, root_last (first + node_count l) r) in
      let kind : kind_at links (first + (node_count l + node_count r)) ≡ 2 = rw own h.own.kind_is in
      let none : leaf_nodes links (first + (node_count l + node_count r)) 1 ≡ [] = other_node links _ 0 (λ p. omega arith) in
      let left = leaf_nodes links first (node_count l) in
      let right = leaf_nodes links (first + node_count l) (node_count r) in
      let nodes : leaf_nodes links first (node_count l + node_count r + 1) ≡ left ++ right =
      leaf_nodes_then links first (node_count l + node_count r) 1
      ∙ (λ i. leaf_nodes_then links first (node_count l) (node_count r) i ++ none i)
      ∙ append-nil (left ++ right)
      in
      ap (map (leaf_at links boxes)) nodes
      ∙ map_append (leaf_at links boxes) left right
      ∙ (λ i. listed_leaves l first entry (root_from first l) (entry + length (numbers l)) h.left i
      ++ listed_leaves r (first + node_count l) (entry + length (numbers l)) (root_from (first + node_count l) r) last h.right i)

-- what is read at a place of a mapped list, whatever stands behind its end
get_d_map : {A B : Type 0} (g : A → B) (l : List A) (k : ℕ) (d : A) (e : B) → k < length l → get_or (map g l) k e ≡ g (get_or l k d)
get_d_map g [] k d e h = absurd (omega arith)
get_d_map g (x ∷ xs) zero d e h = refl
get_d_map g (x ∷ xs) (suc k) d e h = get_d_map g xs k d e (omega arith)

-- a leaf of these triangles was found: its slice of the order list, and the box that its triangles give it
pub record TheLeaf (box_at : ℕ → Box) (order : List ℕ) (f : LeafFound) (slice : List ℕ) : Type 0 where
  pub leaf : Leaf
  pub found_is : f ≡ found leaf
  pub slice_is : slice_of order leaf ≡ slice
  pub box_is : leaf.box ≡ joined box_at slice

-- ---- what is read off the lists of a tree
module _ (box_at : ℕ → Box) (n : ℕ) (order links : List ℕ) (boxes : List Float) (nodes : ℕ) (t : Tree) (s : Listing box_at n order links boxes nodes t) where
  stands : Listed box_at order links boxes 0 0 (nodes - 1) n t
  stands = listing_stands box_at n order links boxes nodes t s

  -- the leaves are the tree's
  leaves_read : map (leaf_at links boxes) (leaf_nodes links 0 nodes) ≡ leaves_from box_at 0 0 t
  leaves_read = rw s.nodes_are (listed_leaves box_at order links boxes t 0 0 (nodes - 1) n stands)

  -- their slices are the tree's leaves, and one after another the whole order list
  slices_read : map (slice_of order) (leaves_from box_at 0 0 t) ≡ leaves t
  slices_read = leaves_slices box_at order 0 0 t stands.slice

  slices_whole : flatten (leaves t) ≡ order
  slices_whole = leaves_numbers t ∙ sym s.order_is

  -- each triangle stands in exactly one
  in_one_leaf : (k : ℕ) → k < n → slices_with k (leaves t) ≡ 1
  unfolding permutes
  in_one_leaf k h = slices_one k (leaves t) (rw slices_whole order_distinct) (rw slices_whole (permuted_occurs k s.permuted ∙ range_has n k h))
    where
      order_distinct : distinct order ≡ true
      order_distinct = (both_passed (eqb (length order) n && all_below n order) (distinct order) (permutes_test n order s.permuted)).1

  -- the count is the number of leaves, 1 to n
  count_read : leaf_count links nodes ≡ length (leaves t)
  unfolding leaf_count
  count_read =
      sym (length-map (leaf_nodes links 0 nodes) (leaf_at links boxes)) ∙ ap length leaves_read ∙ sym (length-map (leaves_from box_at 0 0 t) (slice_of order))
      ∙ ap length slices_read

  count_some : 1 ≤ leaf_count links nodes
  count_some = omega (arith, count_read, leaves_least t)

  count_few : leaf_count links nodes ≤ n
  count_few = omega (arith, count_read, leaves_most t s.filled, ap length s.order_is, permutes_length n order s.permuted)

  -- the k-th leaf that is read is the tree's k-th
  leaf_is : (k : ℕ) → leaf_from links boxes nodes 0 k ≡ kth (leaves_from box_at 0 0 t) k
  unfolding leaf_from
  leaf_is k = let all : nodes - 0 ≡ nodes = omega arith in rw (all, leaves_read)

  -- past the last there is nothing
  leaf_none : (k : ℕ) → leaf_count links nodes ≤ k → leaf_from links boxes nodes 0 k ≡ nothing
  leaf_none k h =
      leaf_is k ∙ kth_none (leaves_from box_at 0 0 t) k
      (omega (arith, count_read, ap length slices_read, length-map (leaves_from box_at 0 0 t) (slice_of order)))

  -- up to the last, it has the k-th leaf's slice, and the box that its triangles give it
  leaf_some : (k : ℕ) → k < leaf_count links nodes → TheLeaf box_at order (leaf_from links boxes nodes 0 k) (get_or (leaves t) k [])
  leaf_some k h =
      let all = leaves_from box_at 0 0 t in
      let none : Leaf = record { node = 0; first = 0; last = 0; box = box_at 0 } in
      let long : length all ≡ length (leaves t) = sym (length-map all (slice_of order)) ∙ ap length slices_read in
      let within : k < length all = omega (arith, count_read) in
      record {
        leaf = get_or all k none;
        found_is = leaf_is k ∙ kth_some all k none within;
        slice_is = sym (get_d_map (slice_of order) all k none [] within) ∙ ap (λ (l : List (List ℕ)). get_or l k []) slices_read;
        box_is =
            sym (get_d_map (λ (l : Leaf). l.box) all k none (box_at 0) within)
            ∙ ap (λ (l : List Box). get_or l k (box_at 0)) (leaves_boxed box_at 0 0 t)
            ∙ get_d_map (joined box_at) (leaves t) k [] (box_at 0) (omega (arith, count_read));
      }

-- ---- a leaf's triangles: each in its place, and nothing behind the last
pub entry_there : (slice : List ℕ) (i : ℕ) → i < length slice → entry_at slice i ≡ triangle (get_or slice i 0)
unfolding entry_at
entry_there slice i h = rw (lt-ltb i (length slice) h)

-- behind the last triangle there is none
pub entry_past : (slice : List ℕ) (i : ℕ) → length slice ≤ i → entry_at slice i ≡ no_entry
unfolding entry_at
entry_past slice i h = rw (le-ltb i (length slice) h)

-- ---- what an accepted tree's leaves are, in one place
pub record LeavesAre (box_at : ℕ → Box) (n : ℕ) (order links : List ℕ) (boxes : List Float) (nodes : ℕ) (t : Tree) : Type 0 where
  pub read : map (leaf_at links boxes) (leaf_nodes links 0 nodes) ≡ leaves_from box_at 0 0 t
  pub slices : map (slice_of order) (leaves_from box_at 0 0 t) ≡ leaves t
  pub whole : flatten (leaves t) ≡ order
  pub once : (k : ℕ) → k < n → slices_with k (leaves t) ≡ 1
  pub count : leaf_count links nodes ≡ length (leaves t)
  pub some : 1 ≤ leaf_count links nodes
  pub few : leaf_count links nodes ≤ n
  pub each : (k : ℕ) → k < leaf_count links nodes → TheLeaf box_at order (leaf_from links boxes nodes 0 k) (get_or (leaves t) k [])
  pub none : (k : ℕ) → leaf_count links nodes ≤ k → leaf_from links boxes nodes 0 k ≡ nothing

-- the promise of the leaf calls in one law: what is read off accepted lists is their tree's leaves, each triangle in exactly one
pub accepted_leaves : (box_at : ℕ → Box) (n : ℕ) (order links : List ℕ) (boxes : List Float) (nodes : ℕ) → accepted box_at n order links boxes nodes ≡ true
    → (t : Tree) × Listing box_at n order links boxes nodes t × LeavesAre box_at n order links boxes nodes t
accepted_leaves box_at n order links boxes nodes h =
    let listed = accepted_listed box_at n order links boxes nodes h in
    let t : Tree = listed.0 in
    let s : Listing box_at n order links boxes nodes t = listed.1 in (
      t,
      s,
      record {
        read = leaves_read box_at n order links boxes nodes t s;
        slices = slices_read box_at n order links boxes nodes t s;
        whole = slices_whole box_at n order links boxes nodes t s;
        once = in_one_leaf box_at n order links boxes nodes t s;
        count = count_read box_at n order links boxes nodes t s;
        some = count_some box_at n order links boxes nodes t s;
        few = count_few box_at n order links boxes nodes t s;
        each = leaf_some box_at n order links boxes nodes t s;
        none = leaf_none box_at n order links boxes nodes t s;
      },
    )

-- what the tree check says yes to passes, so that not all is refused
pub check_passes : (triangles : List Float) (order links : List ℕ) (boxes : List Float) (nodes : ℕ) → triangles_refusal triangles ≡ passes
    → accepted (box_at triangles) (triangle_count triangles) order links boxes nodes ≡ true → check_refusal triangles order links boxes nodes ≡ passes
unfolding check_refusal
check_passes triangles order links boxes nodes t a = then_passes _ (t, (tree_passes triangles order links boxes nodes a, tt))

-- ---- lists that pass
module _ (triangles : List Float) (order links : List ℕ) (boxes : List Float) (nodes : ℕ) (p : check_refusal triangles order links boxes nodes ≡ passes) where
  passed_accepted : accepted (box_at triangles) (triangle_count triangles) order links boxes nodes ≡ true
  unfolding check_refusal
  passed_accepted = tree_passed triangles order links boxes nodes (all_pass _ p).1.0

  -- they are the listing of a tree
  passed_listed : (t : Tree) × Listing (box_at triangles) (triangle_count triangles) order links boxes nodes t
  passed_listed = accepted_listed (box_at triangles) (triangle_count triangles) order links boxes nodes passed_accepted

  -- their nodes are sound, so that a look down the links meets only nodes that are there
  pub passed_sound : Sound (triangle_count triangles) order links boxes nodes
  passed_sound = listing_sound (box_at triangles) (triangle_count triangles) order links boxes nodes passed_listed.0 passed_listed.1

  -- lists that pass have a root
  pub passed_some : 0 < nodes
  passed_some = omega (arith, passed_listed.1.nodes_are, count_least passed_listed.0)

  -- lists that pass have what reading the leaves needs
  pub passed_there : NodesThere links boxes nodes
  passed_there = record { links_there = passed_sound.links_there; boxes_there = passed_sound.boxes_there }

-- ---- what the calls answer
module _ (triangles : List Float) (order links : List ℕ) (boxes : List Float) (nodes : ℕ) where
  -- where the lists are refused, so is the k-th leaf, with the same number and place
  pub leaf_refused : (k number place : ℕ) → check_refusal triangles order links boxes nodes ≡ refused number place
      → not_sought number place ≡ leaf_answer triangles order links boxes nodes k
  unfolding leaf_answer
  leaf_refused k number place p = rw p

  -- where the lists pass, the k-th leaf is looked for from node 0 on
  pub leaf_sought : (k : ℕ) (f : LeafFound) → check_refusal triangles order links boxes nodes ≡ passes → f ≡ leaf_from links boxes nodes 0 k
      → f ≡ leaf_answer triangles order links boxes nodes k
  unfolding leaf_answer
  leaf_sought k f p q = rw p q

  -- where the lists are refused, so is the count of leaves, with the same number and place
  pub count_refused : (number place : ℕ) → check_refusal triangles order links boxes nodes ≡ refused number place
      → not_counted number place ≡ count_answer triangles order links boxes nodes
  unfolding count_answer
  count_refused number place p = rw p

  -- where the lists pass, the leaves are counted
  pub count_made : (n : ℕ) → check_refusal triangles order links boxes nodes ≡ passes → n ≡ leaf_count links nodes
      → counted n ≡ count_answer triangles order links boxes nodes
  unfolding count_answer
  count_made n p q = rw p (ap counted q)

  -- where a leaf is refused, so is each of its triangles, with the same number and place
  pub entry_refused_lem : (k i number place : ℕ) → leaf_answer triangles order links boxes nodes k ≡ not_sought number place
      → entry_refused number place ≡ entry_answer triangles order links boxes nodes k i
  unfolding entry_answer
  entry_refused_lem k i number place p = rw p

  -- where there is no k-th leaf, it has no triangles
  pub entry_none : (k i : ℕ) → leaf_answer triangles order links boxes nodes k ≡ nothing → no_entry ≡ entry_answer triangles order links boxes nodes k i
  unfolding entry_answer
  entry_none k i p = rw p

  -- where the k-th leaf is found, its i-th triangle is read from its slice
  pub entry_read : (k i : ℕ) (l : Leaf) (e : EntryFound) → leaf_answer triangles order links boxes nodes k ≡ found l → e ≡ entry_at (slice_of order l) i
      → e ≡ entry_answer triangles order links boxes nodes k i
  unfolding entry_answer
  entry_read k i l e p q = rw p q

  -- where leaves were counted, the lists passed, so the links and boxes of every node are there
  pub counted_there : (n : ℕ) → count_answer triangles order links boxes nodes ≡ counted n → NodesThere links boxes nodes
  unfolding count_answer
  counted_there n = at (check_refusal triangles order links boxes nodes) refl
    where
      at : (v : Verdict) → check_refusal triangles order links boxes nodes ≡ v → counted_if v (leaf_count links nodes) ≡ counted n
          → NodesThere links boxes nodes
      at passes p q = passed_there triangles order links boxes nodes p
      at (refused number place) p q = absurd (let z : ◌≡◌ {A = ℕ} 0 1 = cc in omega arith)
