-- 72: the test that all nodes are there, as code makes it, and what it says that a count of nodes is not refused.
use mathlib.Core.Path.{◌≡◌, sym, ◌∙◌}
use mathlib.Core.Bool.{false, ◌&&◌, and-false}
use mathlib.Core.List.{List}
use Prim.Native.Nat.{ℕ, ◌*◌, ◌/◌, ◌≤◌, ◌<◌}
use native.Mathlib.Omega.{arith}
use native.Mathlib.Decide.{dec_le}
use borrow.Author.Tests.{lt-ltb, le-leb, lt-leb, ltb-true, leb-true}
use lib.Dec.{leb, ltb}
use lib.ListN.{length}
use lib.Ieee.{Float}
use Rattle.spec_numbers.proofs.Tests.{both_passed}
use Rattle.spec_lists.specs.Refusals.{passes}
use Rattle.spec_lists.proofs.Verdicts.{so}
use Rattle.spec_tree.specs.Accepted.{present}
use Rattle.spec_tree.specs.Reasons.{count_refusal}

module _ (links : List ℕ) (boxes : List Float) (nodes : ℕ) where
  -- without a node the check says no
  pub present_none : nodes ≡ 0 → present links boxes nodes ≡ false
  unfolding present
  present_none p = rw p

  -- with links for fewer nodes the check says no; by a quotient, since a product could overflow
  pub present_links : length links / 3 < nodes → present links boxes nodes ≡ false
  unfolding present
  present_links h = rw (lt-leb (3 * nodes) (length links) (omega arith), and-false (ltb 0 nodes))

  -- with all links there the boxes decide; by a quotient, since a product could overflow
  pub present_boxes : (nodes ≡ 0 → ⊥) → nodes ≤ length links / 3 → leb nodes (length boxes / 6) ≡ present links boxes nodes
  unfolding present
  present_boxes h k = rw (lt-ltb 0 nodes (omega arith), le-leb (3 * nodes) (length links) (omega arith)) (at (dec_le nodes (length boxes / 6)))
    where
      at : Dec (nodes ≤ length boxes / 6) → leb nodes (length boxes / 6) ≡ leb (6 * nodes) (length boxes)
      at (yes w) = le-leb nodes (length boxes / 6) w ∙ sym (le-leb (6 * nodes) (length boxes) (omega arith))
      at (no w) = lt-leb nodes (length boxes / 6) (omega arith) ∙ sym (lt-leb (6 * nodes) (length boxes) (omega arith))

module _ (n : ℕ) (links : List ℕ) (boxes : List Float) (nodes : ℕ) where
  -- there is a node, there are at most 2n - 1, and the lists hold them all
  pub record Counted : Type 0 where
    pub some : 0 < nodes
    pub few : nodes < 2 * n
    pub links_there : 3 * nodes ≤ length links
    pub boxes_there : 6 * nodes ≤ length boxes

  -- a count of nodes that passes is one that the lists have room for
  pub count_passed : count_refusal n links boxes nodes ≡ passes → Counted
  unfolding count_refusal present
  count_passed e =
      let all = both_passed (present links boxes nodes) (ltb nodes (2 * n)) (so _ 72 0 e) in
      let there = both_passed (ltb 0 nodes && leb (3 * nodes) (length links)) (leb (6 * nodes) (length boxes)) all.0 in
      let first = both_passed (ltb 0 nodes) (leb (3 * nodes) (length links)) there.0 in
      record {
        some = ltb-true 0 nodes first.0;
        few = ltb-true nodes (2 * n) all.1;
        links_there = leb-true (3 * nodes) (length links) first.1;
        boxes_there = leb-true (6 * nodes) (length boxes) there.1;
      }
