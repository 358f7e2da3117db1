-- The trees that a scan of the nodes leaves standing: where nothing broke before a node, the links up to it are the listings of trees, one behind the other,
-- whose leaves cover the entries so far. Of boxes nothing is said.
use mathlib.Core.Path.{◌≡◌, refl, sym, ap, subst, ◌∙◌}
use mathlib.Core.Bool.{Bool, true, false, cond, ◌&&◌}
use mathlib.Core.List.{List, [], ◌∷◌, ◌++◌}
use Prim.Native.Nat.{ℕ, zero, suc, ◌+◌, ◌-◌, ◌*◌, ◌≤◌, ◌<◌}
use native.Mathlib.Omega.{arith}
use borrow.Author.Tests.{eqb-true, ltb-true, leb-true}
use lib.Dec.{leb, ltb, eqb}
use lib.ListN.{length, take, length-append}
use Rattle.spec_tables.specs.Tables as Tables
use Rattle.spec_numbers.proofs.Tests.{both_passed}
use Rattle.spec_lists.specs.Refusals.{passes}
use Rattle.spec_lists.proofs.Verdicts.{so}
use Rattle.spec_tree.specs.Trees.{Tree, leaf, branch, numbers, node_count, Filled, root_from, links_from, kind_at, left_at, right_at}
use Rattle.spec_tree.specs.Reasons.{Scan, broken, stand, leaf_goes_on, scan_leaf, scan_branch, scan_kind, scan_node, scan, scan_ends, listing_refusal}
use Rattle.spec_tree.proofs.Standing.{Stands, stands_three, slice_join, slice_length}
use Rattle.spec_tree.proofs.Nodes.{links_stand}
use Rattle.spec_tree.proofs.Trees.{root_last, links_length}

-- what the test of a leaf says of its links
pub leaf_tested : (n : ℕ) (links : List ℕ) (i entry : ℕ) → leaf_goes_on n links i entry ≡ true
    → (left_at links i ≡ entry) × ((entry < right_at links i) × (right_at links i ≤ n))
leaf_tested n links i entry p =
    let outer = both_passed (eqb (left_at links i) entry && ltb entry (right_at links i)) (leb (right_at links i) n) p in
    let inner = both_passed (eqb (left_at links i) entry) (ltb entry (right_at links i)) outer.0 in
    (eqb-true (left_at links i) entry inner.0, (ltb-true entry (right_at links i) inner.1, leb-true (right_at links i) n outer.1))

module _ (n : ℕ) (order links : List ℕ) where
  -- the last tree that stands before node i, its leaves ending at the entry, and what stands before it
  pub record Grown (i root entry : ℕ) (Before : ℕ → ℕ → Type 0) : Type 0 where
    pub first : ℕ
    pub start : ℕ
    pub tree : Tree
    pub filled : Filled tree
    pub root_is : root_from first tree ≡ root
    pub next : root + 1 ≡ i
    pub slice : numbers tree ≡ Tables.slice order start (entry - start)
    pub ends : start + length (numbers tree) ≡ entry
    pub links_stand : Stands 0 links (3 * first) (links_from first start tree)
    pub before : Before first start

  -- the trees that stand before node i: their roots, the last one first, and the entry at which their leaves end
  abbrev pub Trees : ℕ → List ℕ → ℕ → Type 0
  Trees i [] entry = (i ≡ 0) × (entry ≡ 0)
  Trees i (root ∷ roots) entry = Grown i root entry (λ first start. Trees first roots start)

  -- what a scan that has come to node i says of the links
  abbrev pub Stood : ℕ → Scan → Type 0
  Stood i (broken k) = Unit {0}
  Stood i (stand roots entry) = (entry ≤ n) × Trees i roots entry

  module _ (enough : n ≤ length order) (nodes : ℕ) (there : 3 * nodes ≤ length links) where
    leaf_stands : (i : ℕ) (roots : List ℕ) (entry : ℕ) → i < nodes → kind_at links i ≡ 1 → left_at links i ≡ entry → entry < right_at links i
        → right_at links i ≤ n → Trees i roots entry
        → Trees (suc i) (i ∷ roots) (right_at links i)
    unfolding numbers root_from links_from
    leaf_stands i roots entry b k low some few s =
        let last : ℕ = right_at links i in
        let size : length (Tables.slice order entry (last - entry)) ≡ last - entry = slice_length order entry (last - entry) (omega arith) in
        record {
          first = i;
          start = entry;
          tree = leaf (Tables.slice order entry (last - entry));
          filled = omega arith;
          root_is = refl;
          next = omega arith;
          slice = refl;
          ends = omega arith;
          links_stand = links_stand links i 1 entry (entry + length (Tables.slice order entry (last - entry))) (omega arith) k low (omega arith);
          before = s;
        }

    branch_stands : (i r l : ℕ) (roots : List ℕ) (entry : ℕ) → i < nodes → kind_at links i ≡ 2 → left_at links i ≡ l → right_at links i ≡ r
        → Trees i (r ∷ l ∷ roots) entry
        → Trees (suc i) (i ∷ roots) entry
    unfolding numbers root_from links_from
    branch_stands i r l roots entry b k low high right =
        let left = right.before in
        let first : ℕ = left.first in
        let mid : ℕ = right.first in
        let tl : Tree = left.tree in
        let tr : Tree = right.tree in
        let left_count : first + node_count tl ≡ mid = omega (arith, root_last first tl) in
        let right_count : mid + node_count tr ≡ i = omega (arith, root_last mid tr) in
        let left_ends : left.start + length (numbers tl) ≡ right.start = left.ends in
        record {
          first = first;
          start = left.start;
          tree = branch tl tr;
          filled = (left.filled, right.filled);
          root_is = omega arith;
          next = omega arith;
          slice = (λ j. left.slice j ++ right.slice j) ∙ slice_join order left.start right.start entry (omega arith) (omega arith);
          ends = omega (arith, length-append (numbers tl) (numbers tr));
          links_stand = rw (left_count, left_ends)
              (stands_three 0 links (links_from first left.start tl) (links_from mid right.start tr) _ (3 * first) (3 * mid) (3 * i)
              (omega (arith, links_length first left.start tl)) (omega (arith, links_length mid right.start tr)) left.links_stand right.links_stand
              (links_stand links i 2 (root_from first tl) (root_from mid tr) (omega arith) k (low ∙ sym left.root_is) (high ∙ sym right.root_is)));
          before = left.before;
        }

    leaf_stood : (i : ℕ) (roots : List ℕ) (entry : ℕ) → i < nodes → kind_at links i ≡ 1 → (entry ≤ n) × Trees i roots entry
        → Stood (suc i) (scan_leaf n links i roots entry)
    unfolding scan_leaf
    leaf_stood i roots entry b k s = go (leaf_goes_on n links i entry) refl
      where
        go : (c : Bool) → leaf_goes_on n links i entry ≡ c → Stood (suc i) (cond c (stand (i ∷ roots) (right_at links i)) (broken i))
        go false p = tt
        go true p =
            let told = leaf_tested n links i entry p in
            (told.1.1, leaf_stands i roots entry b k told.0 told.1.0 told.1.1 s.1)

    branch_stood : (i : ℕ) (roots : List ℕ) (entry : ℕ) → i < nodes → kind_at links i ≡ 2 → (entry ≤ n) × Trees i roots entry
        → Stood (suc i) (scan_branch n links i roots entry)
    branch_stood i [] entry b k s = tt
    branch_stood i (r ∷ []) entry b k s = tt
    branch_stood i (r ∷ l ∷ roots) entry b k s = go (eqb (left_at links i) l && eqb (right_at links i) r) refl
      where
        go : (c : Bool) → (eqb (left_at links i) l && eqb (right_at links i) r) ≡ c → Stood (suc i) (cond c (stand (i ∷ roots) entry) (broken i))
        go false p = tt
        go true p =
            let both = both_passed (eqb (left_at links i) l) (eqb (right_at links i) r) p in
            (s.0, branch_stands i r l roots entry b k (eqb-true (left_at links i) l both.0) (eqb-true (right_at links i) r both.1) s.1)

    kind_stood : (i : ℕ) (roots : List ℕ) (entry : ℕ) (a b : Bool) → eqb (kind_at links i) 1 ≡ a → eqb (kind_at links i) 2 ≡ b → i < nodes
        → (entry ≤ n) × Trees i roots entry
        → Stood (suc i) (scan_kind n links a b i roots entry)
    kind_stood i roots entry true b p q h s = leaf_stood i roots entry h (eqb-true (kind_at links i) 1 p) s
    kind_stood i roots entry false true p q h s = branch_stood i roots entry h (eqb-true (kind_at links i) 2 q) s
    kind_stood i roots entry false false p q h s = tt

    node_stood : (i : ℕ) (sc : Scan) → i < nodes → Stood i sc → Stood (suc i) (scan_node n links i sc)
    node_stood i (broken k) h s = tt
    node_stood i (stand roots entry) h s = kind_stood i roots entry (eqb (kind_at links i) 1) (eqb (kind_at links i) 2) refl refl h s

    -- the scan of the first i nodes, where their links are there: what it leaves standing are trees
    pub stood : (i : ℕ) → i ≤ nodes → Stood i (scan n links i)
    unfolding scan
    stood zero h = (omega arith, (refl, refl))
    stood (suc i) h = node_stood i (scan n links i) h (stood i (omega arith))

  -- ---- the end of the scan
  -- the links of so many nodes are the listing of this one tree, and its leaves have the first n entries
  pub record Whole (nodes : ℕ) (t : Tree) : Type 0 where
    pub filled : Filled t
    pub root_is : root_from 0 t + 1 ≡ nodes
    pub slice : numbers t ≡ take n order
    pub size : length (numbers t) ≡ n
    pub links_stand : Stands 0 links 0 (links_from 0 0 t)

  -- a scan that passes at its end leaves one tree standing, whose leaves end at n
  pub ended : (root : ℕ) (sc : Scan) → scan_ends n root sc ≡ passes → (r : ℕ) × (sc ≡ stand (r ∷ []) n)
  ended root (broken k) e = absurd (let z : ◌≡◌ {A = ℕ} 0 1 = cc in omega arith)
  ended root (stand [] entry) e = absurd (let z : ◌≡◌ {A = ℕ} 0 1 = cc in omega arith)
  ended root (stand (r ∷ []) entry) e = (r, ap (stand (r ∷ [])) (eqb-true entry n (so (eqb entry n) 73 root e)))
  ended root (stand (r ∷ l ∷ roots) entry) e = absurd (let z : ◌≡◌ {A = ℕ} 0 1 = cc in omega arith)

  whole : (nodes r : ℕ) (t : Grown nodes r n (λ first start. Trees first [] start)) → Whole nodes t.tree
  whole nodes r t =
      let none : t.first ≡ 0 = t.before.0 in
      let begins : t.start ≡ 0 = t.before.1 in
      let all : n - t.start ≡ n = omega arith in
      record {
        filled = t.filled;
        root_is = ap (λ (k : ℕ). root_from k t.tree + 1) (sym none) ∙ ap (λ (k : ℕ). k + 1) t.root_is ∙ t.next;
        slice = t.slice ∙ (λ i. Tables.slice order (begins i) (all i));
        size = omega arith;
        links_stand = subst (λ (k : ℕ). Stands 0 links (3 * k) (links_from k 0 t.tree)) none
            (subst (λ (k : ℕ). Stands 0 links (3 * t.first) (links_from t.first k t.tree)) begins t.links_stand);
      }

  -- links that pass the listing test are the listing of one tree
  pub listing_whole : n ≤ length order → (nodes : ℕ) → 3 * nodes ≤ length links → listing_refusal n links nodes ≡ passes → (t : Tree) × Whole nodes t
  unfolding listing_refusal
  listing_whole enough nodes there e =
      let end = ended (nodes - 1) (scan n links nodes) e in
      let last = (subst (Stood nodes) end.1 (stood enough nodes there nodes (omega arith))).1 in
      (last.tree, whole nodes end.0 last)
