-- The box over a tree is proper and holds the box of every triangle under it, where each triangle's box is proper.
-- So a search may skip a subtree by its box alone.
use mathlib.Core.Path.{◌≡◌, refl}
use mathlib.Core.Logic.{⊎_elim}
use mathlib.Core.List.Memᴰ
use mathlib.Core.List.{List, [], ◌∷◌, Memᴰ}
use Prim.Native.Nat.{ℕ, ◌<◌}
use native.Mathlib.Omega.{arith}
use lib.ListN.{length}
use Rattle.spec_shapes.specs.Boxes.{Box, union, Contains, Proper}
use Rattle.spec_shapes.proofs.Bounds.{union_holds_first, union_holds_second, union_proper, contains_itself, contains_transitive}
use Rattle.spec_tree.specs.Trees.{Tree, leaf, branch, numbers, Filled, joined_to, joined, box_over}

module _ (box_at : ℕ → Box) where
  -- the boxes of the triangles in the list are proper
  abbrev pub AllProper : List ℕ → Type 0
  AllProper ks = (k : ℕ) → Memᴰ k ks → Proper (box_at k)

  -- the box is proper and holds the boxes of the triangles in the list
  pub record Holds (b : Box) (ks : List ℕ) : Type 0 where
    pub proper : Proper b
    pub each : (k : ℕ) → Memᴰ k ks → Contains b (box_at k)

  joined_to_holds : (ks : List ℕ) (b : Box) → Proper b → AllProper ks → (Contains (joined_to box_at b ks) b) × Holds (joined_to box_at b ks) ks
  unfolding joined_to
  joined_to_holds [] b p all = (contains_itself b p, record { proper = p; each = λ k m. absurd (Memᴰ.not-nil m) })
  joined_to_holds (k ∷ ks) b p all =
      let one : Proper (box_at k) = all k (Memᴰ.head refl) in
      let rest = joined_to_holds ks (union b (box_at k)) (union_proper b (box_at k) p one) (λ j m. all j (Memᴰ.tail m)) in
      let whole : Box = joined_to box_at (union b (box_at k)) ks in (
        contains_transitive whole (union b (box_at k)) b rest.0 (union_holds_first b (box_at k) p one),
        record {
          proper = rest.1.proper;
          each = λ j m.
              ⊎_elim
              (λ (e : j ≡ k). rw e (contains_transitive whole (union b (box_at k)) (box_at k) rest.0 (union_holds_second b (box_at k) p one)))
              (λ (m' : Memᴰ j ks). rest.1.each j m')
              (Memᴰ.cases_cons m);
        },
      )

  joined_holds : (ks : List ℕ) → 0 < length ks → AllProper ks → Holds (joined box_at ks) ks
  unfolding joined
  joined_holds [] w all = absurd (omega arith)
  joined_holds (k ∷ ks) w all =
      let one : Proper (box_at k) = all k (Memᴰ.head refl) in
      let rest = joined_to_holds ks (box_at k) one (λ j m. all j (Memᴰ.tail m)) in
      record {
        proper = rest.1.proper;
        each = λ j m. ⊎_elim (λ (e : j ≡ k). rw e rest.0) (λ (m' : Memᴰ j ks). rest.1.each j m') (Memᴰ.cases_cons m);
      }

  -- the box over a tree bounds every triangle under it, so a box that is too far away rules all of them out
  pub box_over_holds : (t : Tree) → Filled t → AllProper (numbers t) → Holds (box_over box_at t) (numbers t)
  unfolding box_over numbers
  box_over_holds (leaf slice) f all = joined_holds slice f all
  box_over_holds (branch l r) f all =
      let left : Holds (box_over box_at l) (numbers l) = box_over_holds l f.0 (λ k m. all k (Memᴰ.append_left (numbers r) m)) in
      let right : Holds (box_over box_at r) (numbers r) = box_over_holds r f.1 (λ k m. all k (Memᴰ.append_right (numbers l) m)) in
      let lb : Box = box_over box_at l in
      let rb : Box = box_over box_at r in
      record {
        proper = union_proper lb rb left.proper right.proper;
        each = λ k m.
            ⊎_elim
            (λ (m' : Memᴰ k (numbers l)).
            contains_transitive (union lb rb) lb (box_at k) (union_holds_first lb rb left.proper right.proper) (left.each k m'))
            (λ (m' : Memᴰ k (numbers r)).
            contains_transitive (union lb rb) rb (box_at k) (union_holds_second lb rb left.proper right.proper) (right.each k m'))
            (Memᴰ.append_cases (numbers l) m);
      }
