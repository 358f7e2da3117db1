-- One step of a walk, over plain lists: what each call needs, and what its answer makes of the node's or the pair's.
-- The proofs of the recursive calls only apply these.
use mathlib.Core.Path.{◌≡◌, refl, sym, ap, ◌∙◌}
use mathlib.Core.Bool.{Bool, true, false, not, ◌||◌}
use mathlib.Core.List.{List}
use Prim.Native.Nat.{ℕ, suc, ◌+◌, ◌-◌, ◌^◌, ◌≤◌, ◌<◌}
use native.Mathlib.Nat.{le-max_left, le-max_right}
use native.Mathlib.Omega.{arith}
use borrow.Author.Tests.{eq-eqb, ne_eqb}
use lib.ListN.{length, drop, length-append, length-take, length-drop}
use lib.Seq.{get_or-take, get_or-drop}
use lib.Ieee.{Float, Format, lt}
use Rattle.spec_numbers.specs.Values.{Number}
use Rattle.spec_tables.specs.Tables.{slice}
use Rattle.spec_shapes.specs.Points.{Point}
use Rattle.spec_lists.specs.Reading.{box_at, triangle_count}
use Rattle.spec_tree.specs.Trees.{Tree, leaf, branch, numbers, levels, kind_at, left_at, right_at}
use Rattle.spec_tree.specs.Order.{EntriesBelow}
use Rattle.spec_tree.specs.Hangs.{Hangs, There}
use Rattle.spec_tree.proofs.Standing.{slice_length}
use Rattle.spec_tree.proofs.Trees.{levels_least}
use Rattle.spec_search.specs.Walk.{Search, Sought, is_leaf, took_all, node_walk, pair_walk, root_walk}
use Rattle.spec_search.specs.Answers.{Hit, squared_of, number_of}
use Rattle.spec_search.specs.Rules.{Limit, counts}
use Rattle.spec_search.specs.Ranked.{Sorted}
use Rattle.spec_search.specs.Sure.{hit}
use Rattle.spec_search.specs.Few.{offered_few, is_skipped, took_few, node_squared, skipped_few, right_nearer}
use Rattle.spec_search.specs.Safe.{NodeSafe, PairSafe, LinksAre}
use Rattle.spec_search.proofs.Rules.{counts_number}
use Rattle.spec_search.proofs.Ranked.{sorted_rises, sorted_stays, few_above}
use Rattle.spec_search.proofs.Walked.{walk_skipped, walk_leaf, walk_branch, root_leaf, root_branch, pair_right, pair_left, walk_keeps, counted_most}

-- a slice of the order list has entries below n too, wherever it starts and ends, so measuring its triangles stays within the list
pub slice_below : (n : ℕ) (order : List ℕ) (at size : ℕ) → EntriesBelow n order → EntriesBelow n (slice order at size)
slice_below n order at size below i l =
    let long : i < size = omega (arith, length-take size (drop at order)) in
    let inside : at + i < length order = omega (arith, length-take size (drop at order), length-drop at order) in
    rw (get_or-take size (drop at order) i 0 long, get_or-drop at order i 0) (below (at + i) inside)

-- where a tree hangs, the node is there, so reading its links and box stays within the lists
pub hangs_there : (triangles : List Float) (order links : List ℕ) (boxes : List Float) (t : Tree) (node : ℕ) → Hangs (box_at triangles) order links boxes t node
    → There links boxes node
hangs_there triangles order links boxes (leaf ks) node h = h.there
hangs_there triangles order links boxes (branch l r) node h = h.there

module _ (triangles : List Float) (order links : List ℕ) (boxes : List Float) (d node m kind l r : ℕ) (here : LinksAre links node kind l r) where
  leaf_yes : kind ≡ 1 → is_leaf links node ≡ true
  leaf_yes e = eq-eqb _ _ (sym here.kind_is ∙ e)

  leaf_no : (kind ≡ 1 → ⊥) → is_leaf links node ≡ false
  leaf_no e = ne_eqb _ _ (λ (q : kind_at links node ≡ 1). e (here.kind_is ∙ q))

  -- what measuring a leaf needs
  abbrev pub LeafNeeds : Type 0
  LeafNeeds = EntriesBelow (triangle_count triangles) order × (((l ≤ r) × (r ≤ length order)) × (m + (r - l) < 2 ^ 64))

  leaf_needs_of : (t : Tree) → Hangs (box_at triangles) order links boxes t node → m + length (numbers t) < 2 ^ 64
      → EntriesBelow (triangle_count triangles) order
      → kind ≡ 1 → LeafNeeds
  unfolding numbers
  leaf_needs_of (leaf ks) h room listed e =
      let size : right_at links node - left_at links node ≡ length ks =
      sym (slice_length order (left_at links node) (right_at links node - left_at links node) (omega (arith, h.nonempty, h.within))) ∙ ap length h.slice_is in
      (listed, ((omega (arith, here, h.nonempty), omega (arith, here, h.within)), omega (arith, here, size, room)))
  leaf_needs_of (branch a b) h room listed e = absurd (omega (arith, h.kind_is, here.kind_is))

  pair_needs_of : (t : Tree) → Hangs (box_at triangles) order links boxes t node → levels t ≤ suc d → m + length (numbers t) < 2 ^ 64
      → EntriesBelow (triangle_count triangles) order → (kind ≡ 1 → ⊥)
      → (0 < d) × PairSafe triangles order links boxes (d - 1) l r m
  unfolding numbers levels
  pair_needs_of (leaf ks) h deep room listed e = absurd (e (here.kind_is ∙ h.kind_is))
  pair_needs_of (branch a b) h deep room listed e =
      let enough : 0 < d = omega (arith, levels_least a, le-max_left (levels a) (levels b)) in (
        enough,
        record {
          left_tree = a;
          right_tree = b;
          left_hangs = rw here.left_is h.left;
          right_hangs = rw here.right_is h.right;
          left_deep = omega (arith, le-max_left (levels a) (levels b));
          right_deep = omega (arith, le-max_right (levels a) (levels b));
          room = omega (arith, length-append (numbers a) (numbers b));
          listed = listed;
        },
      )

  module _ (safe : NodeSafe triangles order links boxes d node m) where
    -- a leaf has what measuring its triangles needs
    pub leaf_needs : kind ≡ 1 → LeafNeeds
    leaf_needs = leaf_needs_of safe.tree safe.hangs safe.room safe.listed

    -- a branch has what the walk of its two children needs
    pub pair_needs : (kind ≡ 1 → ⊥) → PairSafe triangles order links boxes (d - 1) l r m
    pair_needs e = (pair_needs_of safe.tree safe.hangs safe.deep safe.room safe.listed e).1

    -- at a branch a level remains, so taking one away does not underflow
    pub levels_remaining : (kind ≡ 1 → ⊥) → 0 < d
    levels_remaining e = (pair_needs_of safe.tree safe.hangs safe.deep safe.room safe.listed e).0

    module _ {S : Type 0} (how : Search S) (s next : Sought S) where
      -- at a leaf that is not skipped, measuring its slice is the walk of the node
      pub leaf_answers : how.skipped node s.best ≡ false → kind ≡ 1 → next ≡ took_all how.took (slice order l (r - l)) s
          → next ≡ node_walk how order links d node s
      leaf_answers looked e a = a ∙ rw (here.left_is, here.right_is) (sym (walk_leaf how order links d node s looked (leaf_yes e)))

      -- at a branch that is not skipped, the walk of its children is the walk of the node
      pub pair_answers : how.skipped node s.best ≡ false → (kind ≡ 1 → ⊥) → next ≡ pair_walk how order links (d - 1) l r s
          → next ≡ node_walk how order links d node s
      pair_answers looked e a =
          let more : 0 < d = levels_remaining e in
          a ∙ rw (here.left_is, here.right_is) (sym (walk_branch how order links d node s looked (leaf_no e) (λ (z : d ≡ 0). omega arith)))

      -- at a root, which is always looked at: of a leaf, measuring its slice is the walk
      pub root_leaf_answers : kind ≡ 1 → next ≡ took_all how.took (slice order l (r - l)) s → next ≡ root_walk how order links d node s
      root_leaf_answers e a = a ∙ rw (here.left_is, here.right_is) (sym (root_leaf how order links d node s (leaf_yes e)))

      -- at a root, which is always looked at: of a branch, the walk of its children is the walk
      pub root_pair_answers : (kind ≡ 1 → ⊥) → next ≡ pair_walk how order links (d - 1) l r s → next ≡ root_walk how order links d node s
      root_pair_answers e a =
          let more : 0 < d = levels_remaining e in
          a ∙ rw (here.left_is, here.right_is) (sym (root_branch how order links d node s (leaf_no e) (λ (z : d ≡ 0). omega arith)))

-- ---- two children
module _ (triangles : List Float) (order links : List ℕ) (boxes : List Float) (d l r m : ℕ) (safe : PairSafe triangles order links boxes d l r m) where
  -- the left child, walked first, has what its walk needs
  pub left_needs : NodeSafe triangles order links boxes d l m
  left_needs = record { tree = safe.left_tree; hangs = safe.left_hangs; deep = safe.left_deep; room = omega (arith, safe.room); listed = safe.listed }

  -- the right child, walked first, has what its walk needs
  pub right_needs : NodeSafe triangles order links boxes d r m
  right_needs = record { tree = safe.right_tree; hangs = safe.right_hangs; deep = safe.right_deep; room = omega (arith, safe.room); listed = safe.listed }

  module _ {S : Type 0} (how : Search S) (s first : Sought S) (counted : s.measured ≡ m) where
    -- the left child, walked second, has what its walk needs: the count of the first leaves it room
    pub then_left_needs : first ≡ node_walk how order links d r s → NodeSafe triangles order links boxes d l first.measured
    then_left_needs e = record {
      tree = safe.left_tree;
      hangs = safe.left_hangs;
      deep = safe.left_deep;
      room = omega (
        arith,
        safe.room,
        counted_most how (box_at triangles) order links boxes safe.right_tree d r s safe.right_hangs safe.right_deep,
        ap (λ (x : Sought S). x.measured) e,
        counted,
      );
      listed = safe.listed;
    }

    -- the right child, walked second, has what its walk needs: the count of the first leaves it room
    pub then_right_needs : first ≡ node_walk how order links d l s → NodeSafe triangles order links boxes d r first.measured
    then_right_needs e = record {
      tree = safe.right_tree;
      hangs = safe.right_hangs;
      deep = safe.right_deep;
      room = omega (
        arith,
        safe.room,
        counted_most how (box_at triangles) order links boxes safe.left_tree d l s safe.left_hangs safe.left_deep,
        ap (λ (x : Sought S). x.measured) e,
        counted,
      );
      listed = safe.listed;
    }

module _ {S : Type 0} (how : Search S) (order links : List ℕ) (d l r : ℕ) (s first next : Sought S) where
  -- right child first: its walk and then that of the left one are the walk of the pair
  pub right_answers : how.right_first l r ≡ true → first ≡ node_walk how order links d r s → next ≡ node_walk how order links d l first
      → next ≡ pair_walk how order links d l r s
  right_answers e a b = b ∙ ap (node_walk how order links d l) a ∙ sym (pair_right how order links d l r s e)

  -- left child first: its walk and then that of the right one are the walk of the pair
  pub left_answers : how.right_first l r ≡ false → first ≡ node_walk how order links d l s → next ≡ node_walk how order links d r first
      → next ≡ pair_walk how order links d l r s
  left_answers e a b = b ∙ ap (node_walk how order links d r) a ∙ sym (pair_left how order links d l r s e)

-- ---- a pair whose farther child is skipped before the nearer one is walked: where what is skipped stays so, nothing remains
-- to do after the nearer one. `Good` is what holds of all that is ever kept
module _ {S : Type 0} (how : Search S) (Good : S → Type 0) (good-stays : (t : ℕ) (k : S) → Good k → Good (how.took t k))
    (stays : (node t : ℕ) (k : S) → Good k → how.skipped node k ≡ true → how.skipped node (how.took t k) ≡ true)
    (order links : List ℕ) (d l r : ℕ) (s next : Sought S) (good : Good s.best) where
  skipped_after : (near far : ℕ) → how.skipped far s.best ≡ true
      → node_walk how order links d near s ≡ node_walk how order links d far (node_walk how order links d near s)
  skipped_after near far h =
      sym (walk_skipped how order links d far _
      (walk_keeps how order links (λ (k : S). Good k × (how.skipped far k ≡ true)) (λ t k g. (good-stays t k g.0, stays far t k g.0 g.1)) d near s
      (good, h)).1)

  -- the left child is skipped beforehand: the walk of the right one alone is the walk of the pair
  pub right_alone : how.right_first l r ≡ true → how.skipped l s.best ≡ true
      → next ≡ node_walk how order links d r s → next ≡ pair_walk how order links d l r s
  right_alone e h a = a ∙ skipped_after r l h ∙ sym (pair_right how order links d l r s e)

  -- the right child is skipped beforehand: the walk of the left one alone is the walk of the pair
  pub left_alone : how.right_first l r ≡ false → how.skipped r s.best ≡ true
      → next ≡ node_walk how order links d l s → next ≡ pair_walk how order links d l r s
  left_alone e h a = a ∙ skipped_after l r h ∙ sym (pair_left how order links d l r s e)

-- ---- what the tests of the sure walk say, of distances that were measured
module _ (f : Format) (boxes : List Float) (p : Point) where
  -- whether a node is skipped, decided by its box's distance that was computed before
  pub skipped_here : (most : ℕ) (limit : Limit) (squared : Float) (node : ℕ) (ks : List Hit) (b flag : Bool) → squared ≡ node_squared f boxes p node
      → b ≡ is_skipped most limit squared ks → b ≡ flag → skipped_few f boxes p most limit node ks ≡ flag
  unfolding skipped_few
  skipped_here most limit squared node ks b flag s e h = ap (λ (d : Float). is_skipped most limit d ks) (sym s) ∙ sym e ∙ h

  -- which child goes first, decided by the boxes' distances that were computed before
  pub right_first_here : (l r : ℕ) (toLeft toRight : Float) (flag : Bool) → toLeft ≡ node_squared f boxes p l → toRight ≡ node_squared f boxes p r
      → lt toRight toLeft ≡ flag → right_nearer f boxes p l r ≡ flag
  unfolding right_nearer
  right_first_here l r toLeft toRight flag s t h = rw (← s, ← t) h

-- ---- the sure search is one in which what is kept stays sorted, and what is skipped stays so
module _ (f : Format) (triangles : List Float) (p : Point) (most : ℕ) (limit : Limit) where
  bears : (t : ℕ) → number_of (hit f triangles p t) ≡ t
  unfolding hit
  bears t = refl

  abbrev counts_at : ℕ → Bool
  counts_at t = counts limit (hit f triangles p t).squared

  numeric : (t : ℕ) → counts_at t ≡ true → Number (squared_of (hit f triangles p t))
  numeric t c = counts_number limit _ c

  -- what is kept stays sorted, whatever is measured
  pub few_sorted : (t : ℕ) (ks : List Hit) → Sorted squared_of number_of ks → Sorted squared_of number_of (took_few f triangles p most limit t ks)
  unfolding took_few offered_few
  few_sorted t ks r = sorted_stays squared_of number_of most (counts_at t) (hit f triangles p t) ks (numeric t) r

  above_stays : (b : Bool) (x y : Bool) → (x ≡ true → y ≡ true) → (b || x) ≡ true → (b || y) ≡ true
  above_stays true x y h e = refl
  above_stays false x y h e = h e

  -- a box that is skipped stays so: what is kept only comes nearer
  pub few_skipped : (boxes : List Float) (node t : ℕ) (ks : List Hit) → Sorted squared_of number_of ks → skipped_few f boxes p most limit node ks ≡ true
      → skipped_few f boxes p most limit node (took_few f triangles p most limit t ks) ≡ true
  unfolding skipped_few is_skipped took_few offered_few
  few_skipped boxes node t ks r e =
      above_stays (not (counts limit (node_squared f boxes p node))) _ _
      (few_above squared_of number_of most (hit f triangles p) bears counts_at numeric (node_squared f boxes p node) t ks
      (sorted_rises squared_of number_of ks r)) e
