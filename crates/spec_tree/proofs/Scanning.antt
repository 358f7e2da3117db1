-- The scan of the nodes as code makes it, without a stack of roots: the tree that ends just before a node begins with the leaf down its left children, and the
-- tree before that one ends there.
use mathlib.Core.Path.{◌≡◌, refl, sym, ap, subst, ◌∙◌}
use mathlib.Core.Bool.{Bool, true, false, not, cond, ◌&&◌, false≢true}
use mathlib.Core.List.{List, [], ◌∷◌}
use mathlib.Core.Logic.{◌⊎◌, inl, inr}
use Prim.Native.Nat.{ℕ, zero, suc, ◌+◌, ◌-◌, ◌*◌, ◌≤◌, ◌<◌}
use native.Mathlib.Omega.{arith}
use native.Mathlib.Decide.{ℕ_discrete}
use native.Mathlib.Nat.{add-zero, add-suc}
use native.Mathlib.Numerals.{add-one}
use borrow.Author.Tests.{eq-eqb, ne_eqb, eqb-true, lt-ltb, le-ltb, ltb-true}
use lib.Dec.{ltb, eqb}
use lib.ListN.{length, drop, replicate, length-replicate}
use Rattle.spec_numbers.proofs.Tests.{both_passed}
use Rattle.spec_lists.specs.Refusals.{refused, refused_if}
use Rattle.spec_tree.specs.Trees.{kind_at, left_at, right_at, root_from}
use Rattle.spec_tree.specs.Hangs.{LeafRange, ChildrenBefore}
use Rattle.spec_tree.specs.Reasons.{Scan, broken, stand, scan_leaf, scan_branch, scan_kind, scan_node, scan, scan_ends, listing_refusal}
use Rattle.spec_tree.specs.Ways.{first_of, branch_goes_on, kind_goes_on, goes_on, entry_after, Scanned}
use Rattle.spec_tree.proofs.Trees.{root_last, count_least}
use Rattle.spec_tree.proofs.Links.{first_down}
use Rattle.spec_tree.proofs.Hangs.{sound_branch}
use Rattle.spec_tree.proofs.Scanned.{leaf_tested, Trees, Stood, stood}

-- one more on both sides
same_one : (a b c : ℕ) → b + 1 ≡ c → eqb (a + 1) c ≡ eqb a b
same_one a b c e = go (ℕ_discrete a b)
  where
    go : Dec (a ≡ b) → eqb (a + 1) c ≡ eqb a b
    go (yes p) = eq-eqb (a + 1) c (omega arith) ∙ sym (eq-eqb a b p)
    go (no p) = ne_eqb (a + 1) c (λ (q : a + 1 ≡ c). p (omega arith)) ∙ sym (ne_eqb a b p)

-- ---- the trees that stand before node i
module _ (n : ℕ) (order links : List ℕ) (i entry : ℕ) where
  -- the last one begins with the leaf down its left children
  last_first : (r : ℕ) (roots : List ℕ) (s : Trees n order links i (r ∷ roots) entry) → first_of links (i - 1) (i - 1) ≡ s.first
  last_first r roots s =
      let root : i - 1 ≡ root_from s.first s.tree = omega arith in
      rw root (first_down links s.tree s.first s.start (root_from s.first s.tree) (omega arith) s.links_stand)

  -- and its first node stands before i
  last_before : (r : ℕ) (roots : List ℕ) → Trees n order links i (r ∷ roots) entry → first_of links (i - 1) (i - 1) < i
  last_before r roots s =
      omega (arith, last_first r roots s, root_last s.first s.tree, count_least s.tree)

  -- a branch, tested as code tests it
  branch_tested : (roots : List ℕ) → Trees n order links i roots entry
      → scan_branch n links i roots entry ≡ cond (branch_goes_on links i) (stand (i ∷ drop 2 roots) entry) (broken i)
  branch_tested [] s = rw (le-ltb 0 i (omega arith))
  branch_tested (r ∷ []) s =
      let never : eqb (left_at links i + 1) (first_of links (i - 1) (i - 1)) ≡ false =
      ne_eqb _ _ (λ (q : left_at links i + 1 ≡ first_of links (i - 1) (i - 1)). omega (arith, last_first r [] s, s.before.0)) in
      rw never (by (ltb 0 i && eqb (right_at links i + 1) i))
    where
      by : (a : Bool) → broken i ≡ cond (a && false) (stand (i ∷ []) entry) (broken i)
      by true = refl
      by false = refl
  branch_tested (r ∷ l ∷ roots) s =
      let some : 0 < i = omega arith in
      let left : eqb (left_at links i + 1) (first_of links (i - 1) (i - 1)) ≡ eqb (left_at links i) l =
      same_one (left_at links i) l _ (s.before.next ∙ sym (last_first r (l ∷ roots) s)) in
      let right : eqb (right_at links i + 1) i ≡ eqb (right_at links i) r = same_one (right_at links i) r i s.next in
      rw (lt-ltb 0 i some, left, right) (by (eqb (left_at links i) l) (eqb (right_at links i) r))
    where
      by : (a b : Bool) → cond (a && b) (stand (i ∷ roots) entry) (broken i) ≡ cond (b && a) (stand (i ∷ roots) entry) (broken i)
      by true true = refl
      by true false = refl
      by false true = refl
      by false false = refl

-- ---- one node more
module _ (n : ℕ) (links : List ℕ) where
  -- before the first node nothing broke
  pub scanned_start : Scanned n links 0 0
  unfolding scan
  scanned_start = record { roots = []; is = refl }

  module _ (nodes : ℕ) (there : 3 * nodes ≤ length links) (node entry : ℕ) (s : Scanned n links node entry) where
    -- what stands is trees, over any order list that is long enough
    standing : node ≤ nodes → (entry ≤ n) × Trees n (replicate n 0) links node s.roots entry
    standing h =
        subst (Stood n (replicate n 0) links node) s.is
        (stood n (replicate n 0) links (omega (arith, length-replicate {A = ℕ} n 0)) nodes there node h)

    kind_tested : (a b : Bool) → node ≤ nodes
        → scan_kind n links a b node s.roots entry
        ≡ cond (kind_goes_on a b n links node entry) (stand (node ∷ cond a s.roots (drop 2 s.roots)) (cond a (right_at links node) entry)) (broken node)
    unfolding scan_leaf
    kind_tested true b h = refl
    kind_tested false true h = branch_tested n (replicate n 0) links node entry s.roots (standing h).1
    kind_tested false false h = refl

    abbrev roots_after : List ℕ
    roots_after = node ∷ cond (eqb (kind_at links node) 1) s.roots (drop 2 s.roots)

    node_tested : node ≤ nodes
        → scan n links (node + 1) ≡ cond (goes_on n links node entry) (stand roots_after (entry_after links node entry)) (broken node)
    unfolding scan goes_on
    node_tested h =
        ap (scan n links) (add-one node) ∙ ap (scan_node n links node) s.is ∙ kind_tested (eqb (kind_at links node) 1) (eqb (kind_at links node) 2) h

    -- a node that passes the test
    pub goes_on_lem : node < nodes → goes_on n links node entry ≡ true → Scanned n links (node + 1) (entry_after links node entry)
    goes_on_lem h t =
        record {
          roots = roots_after;
          is = node_tested (omega arith) ∙ ap (λ (b : Bool). cond b (stand roots_after (entry_after links node entry)) (broken node)) t;
        }

    -- and one at which it breaks
    breaks : node < nodes → goes_on n links node entry ≡ false → scan n links (node + 1) ≡ broken node
    breaks h t = node_tested (omega arith) ∙ ap (λ (b : Bool). cond b (stand roots_after (entry_after links node entry)) (broken node)) t

  -- ---- what broke stays broken
  broken_stays : (node k more : ℕ) → scan n links node ≡ broken k → scan n links (node + more) ≡ broken k
  unfolding scan
  broken_stays node k zero e = ap (scan n links) (add-zero node) ∙ e
  broken_stays node k (suc more) e = ap (scan n links) (add-suc node more) ∙ ap (scan_node n links (node + more)) (broken_stays node k more e)

  scanned_before : (node entry j : ℕ) → Scanned n links node entry → j ≤ node → (e : ℕ) × Scanned n links j e
  scanned_before node entry j s h = go (scan n links j) refl
    where
      go : (sc : Scan) → scan n links j ≡ sc → (e : ℕ) × Scanned n links j e
      go (stand roots e) p = (e, record { roots = roots; is = p })
      go (broken k) p =
          let rest : j + (node - j) ≡ node = omega arith in
          let broke : scan n links node ≡ broken k = ap (scan n links) (sym rest) ∙ broken_stays j k (node - j) p in
          absurd (let z : ◌≡◌ {A = ℕ} 0 1 = cc s.is in omega arith)

  module _ (nodes : ℕ) (there : 3 * nodes ≤ length links) where
    -- the refusal is at the first node where it breaks
    pub breaks_refused : (node entry : ℕ) → Scanned n links node entry → node < nodes → goes_on n links node entry ≡ false
        → listing_refusal n links nodes ≡ refused 73 node
    unfolding listing_refusal
    breaks_refused node entry s h t =
        let rest : node + 1 + (nodes - (node + 1)) ≡ nodes = omega arith in
        ap (scan_ends n (nodes - 1)) (ap (scan n links) (sym rest) ∙ broken_stays (node + 1) node (nodes - (node + 1)) (breaks nodes there node entry s h t))

    module _ (entry : ℕ) (s : Scanned n links nodes entry) (some : 0 < nodes) where
      abbrev whole_test : Bool
      whole_test = eqb (first_of links (nodes - 1) (nodes - 1)) 0 && eqb entry n

      ends_tested : (roots : List ℕ) → Trees n (replicate n 0) links nodes roots entry
          → scan_ends n (nodes - 1) (stand roots entry) ≡ refused_if (not whole_test) 73 (nodes - 1)
      ends_tested [] t = absurd (omega arith)
      ends_tested (r ∷ []) t =
          rw (eq-eqb (first_of links (nodes - 1) (nodes - 1)) 0 (last_first n (replicate n 0) links nodes entry r [] t ∙ t.before.0))
      ends_tested (r ∷ l ∷ roots) t =
          let first = last_first n (replicate n 0) links nodes entry r (l ∷ roots) t in
          let before : l + 1 ≡ t.first = t.before.next in
          rw (ne_eqb (first_of links (nodes - 1) (nodes - 1)) 0 (λ (q : first_of links (nodes - 1) (nodes - 1) ≡ 0). omega (arith, first)))

      -- where nothing breaks: one tree stands where the last one begins with node 0
      pub ends_refused : listing_refusal n links nodes ≡ refused_if (not whole_test) 73 (nodes - 1)
      unfolding listing_refusal
      ends_refused = ap (scan_ends n (nodes - 1)) s.is ∙ ends_tested s.roots (standing nodes there nodes entry s (omega arith)).1

    -- ---- of every node alike
    module _ (order : List ℕ) (enough : n ≤ length order) where
      node_sound : (node entry : ℕ) → Scanned n links node entry → node ≤ nodes → goes_on n links node entry ≡ true
          → LeafRange order links node ⊎ ChildrenBefore links node
      unfolding goes_on
      node_sound node entry s h t = go (eqb (kind_at links node) 1) (eqb (kind_at links node) 2) refl refl t
        where
          first_within : (roots : List ℕ) → Trees n (replicate n 0) links node roots entry → 0 < node → first_of links (node - 1) (node - 1) < node
          first_within [] x some = absurd (omega arith)
          first_within (r ∷ roots) x some = last_before n (replicate n 0) links node entry r roots x

          go : (a b : Bool) → eqb (kind_at links node) 1 ≡ a → eqb (kind_at links node) 2 ≡ b → kind_goes_on a b n links node entry ≡ true
              → LeafRange order links node ⊎ ChildrenBefore links node
          go true b p q e =
              let told = leaf_tested n links node entry e in
              inl record {
                is_leaf = eqb-true (kind_at links node) 1 p;
                nonempty = omega (arith, told.0, told.1.0);
                within = omega (arith, told.1.1);
              }
          go false true p q e =
              let outer = both_passed (ltb 0 node && eqb (right_at links node + 1) node) (eqb (left_at links node + 1) (first_of links (node - 1) (node - 1)))
              e in
              let inner = both_passed (ltb 0 node) (eqb (right_at links node + 1) node) outer.0 in
              let within = first_within s.roots (standing nodes there node entry s h).1 (ltb-true 0 node inner.0) in
              inr record {
                is_branch = eqb-true (kind_at links node) 2 q;
                left_before = omega (arith, eqb-true (left_at links node + 1) (first_of links (node - 1) (node - 1)) outer.1, within);
                right_before = omega (arith, eqb-true (right_at links node + 1) node inner.1);
              }
          go false false p q e = absurd (false≢true e)

      -- every node so far is a leaf with a range in the order list, or a branch whose children stand before it
      pub scanned_sound : (node entry : ℕ) → Scanned n links node entry → node ≤ nodes → (k : ℕ) → k < node
          → LeafRange order links k ⊎ ChildrenBefore links k
      scanned_sound node entry s h k w = go (goes_on n links k e) refl
        where
          e : ℕ
          e = (scanned_before node entry k s (omega arith)).0

          here : Scanned n links k e
          here = (scanned_before node entry k s (omega arith)).1

          go : (b : Bool) → goes_on n links k e ≡ b → LeafRange order links k ⊎ ChildrenBefore links k
          go true p = node_sound k e here (omega arith) p
          go false p =
              let next = (scanned_before node entry (k + 1) s (omega arith)).1 in
              let broke = breaks nodes there k e here (omega arith) p in
              absurd (let z : ◌≡◌ {A = ℕ} 0 1 = cc (next.is, broke) in omega arith)

    -- so every branch so far has its children before it, and a way down from there ends
    pub scanned_falls : (node entry : ℕ) → Scanned n links node entry → node ≤ nodes → (k : ℕ) → k < node → kind_at links k ≡ 2 → ChildrenBefore links k
    scanned_falls node entry s h k w kind =
        sound_branch (replicate n 0) links k (scanned_sound (replicate n 0) (omega (arith, length-replicate {A = ℕ} n 0)) node entry s h k w)
        (λ (one : kind_at links k ≡ 1). omega (arith, kind))
