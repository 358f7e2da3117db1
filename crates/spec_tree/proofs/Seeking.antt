-- How the leaves are met node by node: the turns of a search for the k-th leaf and of a count.
-- The leaves behind a found one are those from the next node on, so that a search can resume there.
use mathlib.Core.Path.{◌≡◌, refl, sym, ap, ◌∙◌}
use mathlib.Core.Bool.{Bool, true, false}
use mathlib.Core.List.{List, [], ◌∷◌, ◌++◌, map}
use Prim.Native.Nat.{ℕ, zero, suc, ◌+◌, ◌-◌, ◌≤◌, ◌<◌}
use native.Mathlib.Omega.{arith}
use native.Mathlib.Numerals.{add-one}
use native.Mathlib.Decide.{dec_lt}
use borrow.Author.Tests.{eqb-true, eqb-false, ne_eqb}
use lib.Dec.{eqb}
use lib.ListN.{length, get_or}
use lib.Ieee.{Float}
use Rattle.spec_tree.specs.Trees.{kind_at}
use Rattle.spec_tree.specs.Leaves.{Leaf, with_leaf, leaf_nodes, leaf_at, leaf_count, nothing, found, kth, leaf_from}

-- ---- the nodes that are leaves
module _ (links : List ℕ) where
  leaf_node : (node count : ℕ) → kind_at links node ≡ 1 → leaf_nodes links node (suc count) ≡ node ∷ leaf_nodes links (suc node) count
  unfolding leaf_nodes
  leaf_node node count p = rw p

  -- a node that is no leaf adds none
  pub other_node : (node count : ℕ) → (kind_at links node ≡ 1 → ⊥) → leaf_nodes links node (suc count) ≡ leaf_nodes links (suc node) count
  unfolding leaf_nodes
  other_node node count p = rw (ne_eqb (kind_at links node) 1 p)

  -- the leaves of a run of nodes are those of its front and then those of the rest: subtree by subtree
  pub leaf_nodes_then : (node a b : ℕ) → leaf_nodes links node (a + b) ≡ leaf_nodes links node a ++ leaf_nodes links (node + a) b
  unfolding leaf_nodes
  leaf_nodes_then node zero b = let p : 0 + b ≡ b = omega arith in let q : node + 0 ≡ node = omega arith in rw (p, q)
  leaf_nodes_then node (suc a) b =
      let p : suc a + b ≡ suc (a + b) = omega arith in
      let q : node + suc a ≡ suc node + a = omega arith in
      rw (p, q, leaf_nodes_then (suc node) a b) (at (eqb (kind_at links node) 1))
    where
      at : (is : Bool) → with_leaf is node (leaf_nodes links (suc node) a ++ leaf_nodes links (suc node + a) b)
          ≡ with_leaf is node (leaf_nodes links (suc node) a) ++ leaf_nodes links (suc node + a) b
      at true = refl
      at false = refl

-- ---- a look for the k-th leaf, and a count, node by node
module _ (links : List ℕ) (nodes : ℕ) where
  left_is : (node : ℕ) → node < nodes → nodes - node ≡ suc (nodes - (node + 1))
  left_is node h = omega arith

  -- the count's invariant: what was counted and what remains are all leaves
  abbrev pub Counts : ℕ → ℕ → Type 0
  Counts node count = count + length (leaf_nodes links node (nodes - node)) ≡ leaf_count links nodes

  -- start of the count: nothing is counted, all nodes remain
  pub counting_starts : Counts 0 0
  unfolding leaf_count
  counting_starts =
      let all : nodes - 0 ≡ nodes = omega arith in
      let sum : 0 + length (leaf_nodes links 0 nodes) ≡ length (leaf_nodes links 0 nodes) = omega arith in
      rw all sum

  -- end of the count: no node remains, so all leaves are counted
  pub counting_ends : (node count : ℕ) → nodes ≤ node → Counts node count → count ≡ leaf_count links nodes
  unfolding leaf_nodes
  counting_ends node count h c = let none : nodes - node ≡ 0 = omega arith in omega (arith, rw none at c)

  module _ (node : ℕ) (h : node < nodes) where
    on_leaf : kind_at links node ≡ 1 → leaf_nodes links node (nodes - node) ≡ node ∷ leaf_nodes links (node + 1) (nodes - (node + 1))
    on_leaf p = ap (leaf_nodes links node) (left_is node h) ∙ leaf_node links node (nodes - (node + 1)) p ∙ rw add-one

    on_other : (kind_at links node ≡ 1 → ⊥) → leaf_nodes links node (nodes - node) ≡ leaf_nodes links (node + 1) (nodes - (node + 1))
    on_other p = ap (leaf_nodes links node) (left_is node h) ∙ other_node links node (nodes - (node + 1)) p ∙ rw add-one

    -- turn of the count at a leaf: one more
    pub counting_leaf : (count : ℕ) → kind_at links node ≡ 1 → Counts node count → Counts (node + 1) (count + 1)
    counting_leaf count p c = omega (arith, c, ap length (on_leaf p))

    -- turn of the count at a node that is no leaf: the count stays
    pub counting_other : (count : ℕ) → (kind_at links node ≡ 1 → ⊥) → Counts node count → Counts (node + 1) count
    counting_other count p c = omega (arith, c, ap length (on_other p))

module _ (links : List ℕ) (boxes : List Float) (nodes : ℕ) where
  -- the search for the k-th leaf ends past the last node: there is none
  pub seek_ends : (node left : ℕ) → nodes ≤ node → leaf_from links boxes nodes node left ≡ nothing
  unfolding leaf_from leaf_nodes kth
  seek_ends node left h = let none : nodes - node ≡ 0 = omega arith in rw none

  module _ (node : ℕ) (h : node < nodes) where
    -- at a leaf, with a remaining count of 0, the search ends: it is this one
    pub seek_here : (left : ℕ) → kind_at links node ≡ 1 → left ≡ 0 → leaf_from links boxes nodes node left ≡ found (leaf_at links boxes node)
    unfolding leaf_from kth
    seek_here left p none = ap (leaf_from links boxes nodes node) none ∙ rw (on_leaf links nodes node h p)

    -- at a leaf, with a remaining count above 0, the search goes on with one less
    pub seek_past : (left : ℕ) → kind_at links node ≡ 1 → (left ≡ 0 → ⊥)
        → leaf_from links boxes nodes (node + 1) (left - 1) ≡ leaf_from links boxes nodes node left
    unfolding leaf_from kth
    seek_past left p some =
        let more : left ≡ suc (left - 1) = omega arith in
        sym (ap (leaf_from links boxes nodes node) more ∙ rw (on_leaf links nodes node h p))

    -- at a node that is no leaf the search goes on
    pub seek_on : (left : ℕ) → (kind_at links node ≡ 1 → ⊥) → leaf_from links boxes nodes (node + 1) left ≡ leaf_from links boxes nodes node left
    unfolding leaf_from
    seek_on left p = sym (rw (on_other links nodes node h p))

-- ---- the k-th of a list
-- past the last of a list there is nothing
pub kth_none : (ls : List Leaf) (k : ℕ) → length ls ≤ k → kth ls k ≡ nothing
unfolding kth
kth_none [] k h = refl
kth_none (l ∷ ls) zero h = absurd (omega arith)
kth_none (l ∷ ls) (suc k) h = kth_none ls k (omega arith)

-- up to the last of a list, what is found is what stands there
pub kth_some : (ls : List Leaf) (k : ℕ) (d : Leaf) → k < length ls → kth ls k ≡ found (get_or ls k d)
unfolding kth
kth_some [] k d h = absurd (omega arith)
kth_some (l ∷ ls) zero d h = refl
kth_some (l ∷ ls) (suc k) d h = kth_some ls k d (omega arith)

module _ (links : List ℕ) (boxes : List Float) where
  abbrev among : ℕ → ℕ → List Leaf
  among node count = map (leaf_at links boxes) (leaf_nodes links node count)

  -- the k-th leaf of `count` nodes from this one on: it is one of them, and the leaves behind it are those from the next node on
  pub record FoundAt (node count k : ℕ) (l : Leaf) : Type 0 where
    pub within : l.node < node + count
    pub next : (j : ℕ) → kth (among (l.node + 1) (node + count - (l.node + 1))) j ≡ kth (among node count) (k + j + 1)

  module _ (node count : ℕ) (l : Leaf) where
    found_here : kind_at links node ≡ 1 → found (leaf_at links boxes node) ≡ found l → FoundAt node (suc count) 0 l
    unfolding kth
    found_here p q =
        let same : leaf_at links boxes node ≡ l = cc in
        let at : node ≡ l.node = ap (λ (m : Leaf). m.node) same in
        record {
          within = omega arith;
          next = λ j.
              let rest : node + suc count - (l.node + 1) ≡ count = omega arith in
              let next_node : l.node + 1 ≡ suc node = omega arith in
              let more : 0 + j + 1 ≡ suc j = omega arith in
              rw (rest, next_node, more, leaf_node links node count p);
        }

    found_behind : (k k' : ℕ) → ((j : ℕ) → kth (among (suc node) count) (k' + j + 1) ≡ kth (among node (suc count)) (k + j + 1)) → FoundAt (suc node) count k' l
        → FoundAt node (suc count) k l
    found_behind k k' same f =
        record {
          within = omega (arith, f.within);
          next = λ j. let rest : node + suc count - (l.node + 1) ≡ suc node + count - (l.node + 1) = omega arith in rw rest (f.next j ∙ same j);
        }

    found_by : (b : Bool) → eqb (kind_at links node) 1 ≡ b → (k : ℕ) → ((k' : ℕ) → kth (among (suc node) count) k' ≡ found l → FoundAt (suc node) count k' l)
        → kth (among node (suc count)) k ≡ found l → FoundAt node (suc count) k l
    unfolding kth
    found_by true p zero rest q = let kind : kind_at links node ≡ 1 = eqb-true _ 1 p in found_here kind (rw (leaf_node links node count kind) at q)
    found_by true p (suc k) rest q =
        let kind : kind_at links node ≡ 1 = eqb-true _ 1 p in
        found_behind (suc k) k (λ j. let more : suc k + j + 1 ≡ suc (k + j + 1) = omega arith in
        rw (more, leaf_node links node count kind)) (rest k (rw (leaf_node links node count kind) at q))
    found_by false p k rest q =
        let same : leaf_nodes links node (suc count) ≡ leaf_nodes links (suc node) count = other_node links node count (eqb-false _ 1 p) in
        found_behind k k (λ j. rw same) (rest k (rw same at q))

  found_at : (count node k : ℕ) (l : Leaf) → kth (among node count) k ≡ found l → FoundAt node count k l
  unfolding kth leaf_nodes
  found_at zero node k l q = absurd (let z : ◌≡◌ {A = ℕ} 0 1 = cc in omega arith)
  found_at (suc count) node k l q = found_by node count l (eqb (kind_at links node) 1) refl k (λ k'. found_at count (suc node) k' l) q

-- a leaf that is found from a node on
module _ (links : List ℕ) (boxes : List Float) (nodes from k : ℕ) (l : Leaf) (p : leaf_from links boxes nodes from k ≡ found l) where
  unfolded : FoundAt links boxes from (nodes - from) k l
  unfolding leaf_from
  unfolded = found_at links boxes (nodes - from) from k l p

  before_end : from < nodes
  before_end = at (dec_lt from nodes)
    where
      at : Dec (from < nodes) → from < nodes
      at (yes h) = h
      at (no h) = absurd (let q : nothing ≡ found l = sym (seek_ends links boxes nodes from k (omega arith)) ∙ p in let z : ◌≡◌ {A = ℕ} 0 1 = cc in omega arith)

  -- the leaves behind a found one are those from the next node on, so a reader of all leaves need not begin anew each time
  pub found_next : (j : ℕ) → leaf_from links boxes nodes (l.node + 1) j ≡ leaf_from links boxes nodes from (k + j + 1)
  unfolding leaf_from
  found_next j = let end : from + (nodes - from) ≡ nodes = omega (arith, before_end) in rw end at (unfolded.next j)
