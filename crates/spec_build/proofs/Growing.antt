-- Growing a slice, step by step, over plain lists: what each call of the program needs, and what the calls give.
use mathlib.Core.Path.{◌≡◌, refl, sym, ap, ap₂, subst, ◌∙◌}
use mathlib.Core.Bool.{true, false, ◌||◌, true≢false}
use mathlib.Core.List.Permᴰ
use mathlib.Core.List.{List, [], ◌++◌, append-nil, Permᴰ}
use Prim.Native.Nat.{ℕ, zero, suc, ◌+◌, ◌-◌, ◌*◌, ◌≤◌, ◌<◌}
use native.Mathlib.Omega.{arith}
use borrow.Author.Tests.{ne_eqb, lt-leb, leb-false}
use lib.Dec.{eqb, leb}
use lib.ListN.{length, take, drop, length-append, length-drop, drop_of_length-le}
use lib.Seq.{length-take-le, take_all, take_at, drop_at}
use lib.Ieee.{Float, Format}
use Rattle.spec_tables.proofs.Tables.{length_overwrite}
use Rattle.spec_shapes.specs.Boxes.{Box}
use Rattle.spec_lists.specs.Limits.{max_triangles}
use Rattle.spec_tree.specs.Trees.{Tree, leaf, branch, numbers, node_count, levels, links_from, boxes_of}
use Rattle.spec_tables.specs.Each.{Each}
use Rattle.spec_splits.specs.Splits.{Split, cut_at, nowhere, box_in}
use Rattle.spec_tree.proofs.Trees.{root_last, links_length, boxes_length, count_most}
use Rattle.spec_tree.proofs.Order.{permuted_length}
use Rattle.spec_tables.proofs.Each.{each_at, each_take, each_drop, each_weaker, each_permuted}
use Rattle.spec_build.specs.Grown.{Tried, cut, slice_of, CutInside, parted, grown}
use Rattle.spec_build.specs.Tries.{split_as, tried}
use Rattle.spec_build.specs.Growing.{Tabled, Triable, LeafNeeds, Growable, BranchNeeds, BranchPut, Written, grown_in, GrownIs}
use Rattle.spec_build.proofs.Grown.{grown_permutes, grown_levels, grown_filled}
use Rattle.spec_build.proofs.Tries.{split_slice, tried_permutes}
use Rattle.spec_build.proofs.Inside.{HasCentre, tries_inside}
use Rattle.spec_build.proofs.Writing.{branch_written}

-- ---- by cases, as the definition goes
no_level : (remaining : ℕ) → eqb (suc remaining) 0 ≡ false
no_level remaining = ne_eqb (suc remaining) 0 (λ (e : suc remaining ≡ 0). omega arith)

module _ (try : List ℕ → Tried) (leaf_minimum : ℕ) (slice : List ℕ) where
  -- no level is left, or the slice is small enough
  limit_leaf : (remaining : ℕ) → (eqb remaining 0 || leb (length slice) leaf_minimum) ≡ true → grown try leaf_minimum remaining slice ≡ leaf slice
  unfolding grown
  limit_leaf zero h = refl
  limit_leaf (suc remaining) h =
      let small : leb (length slice) leaf_minimum ≡ true = rw (no_level remaining) at h in
      rw small

  beyond_limits : (remaining : ℕ) → (eqb remaining 0 || leb (length slice) leaf_minimum) ≡ false → (1 ≤ remaining) × (leaf_minimum < length slice)
  beyond_limits zero h = absurd (true≢false h)
  beyond_limits (suc remaining) h =
      let large : leb (length slice) leaf_minimum ≡ false = rw (no_level remaining) at h in
      (omega arith, leb-false (length slice) leaf_minimum large)

  grown_further : (remaining : ℕ) → 1 ≤ remaining → leaf_minimum < length slice
      → grown try leaf_minimum remaining slice ≡ parted (grown try leaf_minimum (remaining - 1)) (try slice)
  unfolding grown
  grown_further zero h w = absurd (omega arith)
  grown_further (suc remaining) h w =
      let less : suc remaining - 1 ≡ remaining = omega arith in
      rw (less, lt-leb (length slice) leaf_minimum w)

module _ (f : Format) (bounds centres : List Float) (strategy leaf_minimum : ℕ) where
  abbrev tree : ℕ → List ℕ → Tree
  tree remaining slice = grown_in f bounds strategy leaf_minimum remaining slice

  -- ---- what the tree of a slice needs
  record Fits (remaining : ℕ) (slice : List ℕ) : Type 0 where
    count : length (numbers (tree remaining slice)) ≡ length slice
    few : node_count (tree remaining slice) + 1 ≤ 2 * length slice
    shallow : levels (tree remaining slice) ≤ remaining + 1

  grown_fits : 1 ≤ leaf_minimum → (remaining : ℕ) (slice : List ℕ) → 1 ≤ length slice → Each (Tabled f bounds centres) slice → Fits remaining slice
  grown_fits m remaining slice w u =
      let inside = tries_inside f (box_in bounds) strategy in
      let centred : Each (HasCentre f (box_in bounds)) slice = each_weaker (Tabled f bounds centres) (HasCentre f (box_in bounds)) (λ t h. h.centred) slice u in
      let long : length (numbers (tree remaining slice)) ≡ length slice = permuted_length (grown_permutes inside leaf_minimum remaining slice) in
      record {
        count = long;
        few = omega (arith, long, count_most (tree remaining slice) (grown_filled inside leaf_minimum m remaining slice w centred));
        shallow = grown_levels inside leaf_minimum remaining slice;
      }

  module _ {remaining : ℕ} {slice scratch : List ℕ} {entry : ℕ} {links : List ℕ} {boxes : List Float} {node : ℕ}
      (h : Growable f bounds centres leaf_minimum remaining slice scratch entry links boxes node) where
    -- ---- a leaf
    leaf_needs_of : (slice' : List ℕ) → Permᴰ slice' slice → LeafNeeds bounds slice' entry links boxes node
    leaf_needs_of slice' p =
        let same : length slice' ≡ length slice = permuted_length p in
        let u : Each (Tabled f bounds centres) slice' = each_permuted (Tabled f bounds centres) (Permᴰ.symm p) h.tabled in
        record {
          in_table = λ i k. (each_at (Tabled f bounds centres) slice' i 0 k u).in_table;
          some = omega (arith, h.some);
          few = omega (arith, h.few);
          links_room = omega (arith, h.some, h.room.links_room);
          boxes_room = omega (arith, h.some, h.room.boxes_room);
        }

    -- needs of writing the slice as a leaf
    pub leaf_needs : LeafNeeds bounds slice entry links boxes node
    leaf_needs = leaf_needs_of slice (Permᴰ.refl slice)

    module _ (links' : List ℕ) (boxes' : List Float) (root deep : ℕ) (box : Box) where
      tree_is : (slice' : List ℕ) (t : Tree) → tree remaining slice ≡ t → slice' ≡ numbers t
          → Written (box_in bounds) t entry node links links' boxes boxes' root deep box
          → GrownIs f bounds strategy leaf_minimum remaining slice slice' entry links links' boxes boxes' node root deep box
      tree_is slice' t e o w = record { order_is = rw e o; written = rw e w }

      -- where no level is left or the slice is small, the leaf that is written is the tree as defined
      pub limit_gives : (eqb remaining 0 || leb (length slice) leaf_minimum) ≡ true
          → Written (box_in bounds) (leaf slice) entry node links links' boxes boxes' root deep box
          → GrownIs f bounds strategy leaf_minimum remaining slice slice entry links links' boxes boxes' node root deep box
      unfolding numbers
      limit_gives e w = tree_is slice (leaf slice) (limit_leaf (tried f (box_in bounds) strategy) leaf_minimum slice remaining e) refl w

    -- ---- beyond the limits
    module _ (beyond : (eqb remaining 0 || leb (length slice) leaf_minimum) ≡ false) where
      past : 1 ≤ remaining
      past = (beyond_limits (tried f (box_in bounds) strategy) leaf_minimum slice remaining beyond).0

      large : leaf_minimum < length slice
      large = (beyond_limits (tried f (box_in bounds) strategy) leaf_minimum slice remaining beyond).1

      -- beyond the limits a level is left, so one can be taken off
      pub some_remaining : 1 ≤ remaining
      some_remaining = past

      -- needs of the tries: beyond the limits a slice has two triangles or more
      pub try_needs : Triable f bounds centres slice scratch
      try_needs = record { tabled = h.tabled; some = omega (arith, h.leaf, large); few = omega (arith, h.few); room = h.scratch_room }

      module _ (slice' : List ℕ) (split : Split) (tried_is : split_as slice' split ≡ tried f (box_in bounds) strategy slice) where
        same : Permᴰ slice' slice
        same =
            subst (λ (l : List ℕ). Permᴰ l slice) (sym (ap slice_of tried_is) ∙ split_slice slice' split) (tried_permutes f (box_in bounds) strategy slice)

        further : tree remaining slice ≡ parted (tree (remaining - 1)) (split_as slice' split)
        further = grown_further (tried f (box_in bounds) strategy) leaf_minimum slice remaining past large ∙ ap (parted (tree (remaining - 1))) (sym tried_is)

        -- needs of writing a slice that no try cut as a leaf
        pub uncut_needs : LeafNeeds bounds slice' entry links boxes node
        uncut_needs = leaf_needs_of slice' same

        -- where no try cuts the slice, the leaf that is written is the tree as defined
        pub uncut_gives : (links' : List ℕ) (boxes' : List Float) (root deep : ℕ) (box : Box) → split ≡ nowhere
            → Written (box_in bounds) (leaf slice') entry node links links' boxes boxes' root deep box
            → GrownIs f bounds strategy leaf_minimum remaining slice slice' entry links links' boxes boxes' node root deep box
        unfolding numbers
        uncut_gives links' boxes' root deep box e w =
            tree_is links' boxes' root deep box slice' (leaf slice') (further ∙ ap (λ (s : Split). parted (tree (remaining - 1)) (split_as slice' s)) e) refl w

        -- ---- a cut
        module _ (k : ℕ) (split-is : split ≡ cut_at k) where
          inside : CutInside (cut slice' k)
          inside =
              let centred : Each (HasCentre f (box_in bounds)) slice = each_weaker (Tabled f bounds centres) (HasCentre f (box_in bounds))
              (λ t u. u.centred) slice h.tabled in
              subst CutInside (sym tried_is ∙ ap (split_as slice') split-is)
              ((tries_inside f (box_in bounds) strategy).inside slice (omega (arith, h.leaf, large)) centred)

          tabled : Each (Tabled f bounds centres) slice'
          tabled = each_permuted (Tabled f bounds centres) (Permᴰ.symm same) h.tabled

          long : length slice' ≡ length slice
          long = permuted_length same

          -- the cut lies within the slice, so the slice can be lent in two
          pub cut_within : k < length slice'
          cut_within = inside.1

          -- the right side begins within the order list's limit, so the sum does not overflow
          pub cut_ends : entry + k ≤ max_triangles
          cut_ends = omega (arith, inside.1, long, h.few)

          -- the left side has as many triangles as the cut says
          pub left_long : length (take k slice') ≡ k
          left_long = length-take-le k slice' (omega (arith, inside.1))

          left_some : 1 ≤ length (take k slice')
          left_some = omega (arith, left_long, inside.0)

          left_fits : Fits (remaining - 1) (take k slice')
          left_fits = grown_fits h.leaf (remaining - 1) (take k slice') left_some (each_take (Tabled f bounds centres) k slice' tabled)

          -- needs of growing the left side
          pub left_needs : (scratch' : List ℕ) → length scratch' ≡ length scratch
              → Growable f bounds centres leaf_minimum (remaining - 1) (take k slice') scratch' entry links boxes node
          left_needs scratch' e = record {
            tabled = each_take (Tabled f bounds centres) k slice' tabled;
            leaf = h.leaf;
            shallow = omega (arith, h.shallow);
            some = left_some;
            few = omega (arith, left_long, inside.1, long, h.few);
            scratch_room = omega (arith, left_long, inside.1, long, h.scratch_room);
            room = record {
              links_room = omega (arith, left_long, inside.1, long, h.room.links_room);
              boxes_room = omega (arith, left_long, inside.1, long, h.room.boxes_room);
              few = omega (arith, left_long, inside.1, long, h.room.few);
            };
          }

          -- ---- the left side has grown
          module _ (leftSlice mid : List ℕ) (bmid : List Float) (leftRoot leftLevels : ℕ) (leftBox : Box)
              (gl : GrownIs f bounds strategy leaf_minimum (remaining - 1)
              (take k slice') leftSlice entry links mid boxes bmid node leftRoot leftLevels leftBox) where
            left_slice_long : length leftSlice ≡ k
            left_slice_long = ap length gl.order_is ∙ left_fits.count ∙ left_long

            -- the slice as it stands now
            abbrev now : List ℕ
            now = leftSlice ++ drop k slice'

            now_long : length now ≡ length slice
            now_long = length-append leftSlice (drop k slice') ∙ omega (arith, left_slice_long, length-drop k slice', inside.1, long)

            -- the cut still lies within the slice once the left side has grown
            pub cut_within_now : k ≤ length now
            cut_within_now = omega (arith, now_long, inside.1, long)

            behind : drop k now ≡ drop k slice'
            behind = drop_at leftSlice (drop k slice') k left_slice_long

            rest_is : take (length now - k) (drop k now) ≡ drop k slice'
            rest_is = take_all (length now - k) (drop k now) (omega (arith, length-drop k now)) ∙ behind

            left_root : leftRoot + 1 ≡ node + node_count (tree (remaining - 1) (take k slice'))
            left_root = ap (λ (n : ℕ). n + 1) gl.written.root_is ∙ root_last node (tree (remaining - 1) (take k slice'))

            -- the nodes of the left side are written within the lists
            mid_long : length mid ≡ length links
            mid_long =
                ap length gl.written.links_are
                ∙ length_overwrite (3 * node) (links_from node entry (tree (remaining - 1) (take k slice'))) links
                (omega (arith, links_length node entry (tree (remaining - 1) (take k slice')), left_fits.few, left_long, inside.1, long, h.room.links_room))

            bmid_long : length bmid ≡ length boxes
            bmid_long =
                ap length gl.written.boxes_are
                ∙ length_overwrite (6 * node) (boxes_of (box_in bounds) (tree (remaining - 1) (take k slice'))) boxes
                (omega (
                  arith,
                  boxes_length (box_in bounds) (tree (remaining - 1) (take k slice')),
                  left_fits.few,
                  left_long,
                  inside.1,
                  long,
                  h.room.boxes_room,
                ))

            -- the right side's first node is in range, so the sum does not overflow
            pub left_root_few : leftRoot + 1 ≤ 2 * max_triangles
            left_root_few = omega (arith, left_root, left_fits.few, left_long, inside.1, long, h.room.few)

            right_long : length (drop k slice') ≡ length slice - k
            right_long = length-drop k slice' ∙ ap (λ (n : ℕ). n - k) long

            right_some : 1 ≤ length (drop k slice')
            right_some = omega (arith, right_long, inside.1, long)

            right_fits : Fits (remaining - 1) (drop k slice')
            right_fits = grown_fits h.leaf (remaining - 1) (drop k slice') right_some (each_drop (Tabled f bounds centres) k slice' tabled)

            right_needs_of : (scratch'' : List ℕ) → length scratch'' ≡ length scratch
                → Growable f bounds centres leaf_minimum (remaining - 1) (drop k slice') scratch'' (entry + k) mid bmid (leftRoot + 1)
            right_needs_of scratch'' e = record {
              tabled = each_drop (Tabled f bounds centres) k slice' tabled;
              leaf = h.leaf;
              shallow = omega (arith, h.shallow);
              some = right_some;
              few = omega (arith, right_long, inside.1, long, h.few);
              scratch_room = omega (arith, right_long, h.scratch_room);
              room = record {
                links_room = omega (arith, left_root, left_fits.few, left_long, right_long, inside.1, long, mid_long, h.room.links_room);
                boxes_room = omega (arith, left_root, left_fits.few, left_long, right_long, inside.1, long, bmid_long, h.room.boxes_room);
                few = omega (arith, left_root, left_fits.few, left_long, right_long, inside.1, long, h.room.few);
              };
            }

            -- needs of growing the right side, with its nodes behind the left side's
            pub right_needs : (scratch'' : List ℕ) → length scratch'' ≡ length scratch
                → Growable f bounds centres leaf_minimum (remaining - 1) (take (length now - k) (drop k now)) scratch'' (entry + k) mid bmid (leftRoot + 1)
            right_needs scratch'' e = rw rest_is (right_needs_of scratch'' e)

            -- ---- and the right side too
            module _ (rightSlice late : List ℕ) (blate : List Float) (rightRoot rightLevels : ℕ) (rightBox : Box)
                (gr : GrownIs f bounds strategy leaf_minimum (remaining - 1) (take (length now - k) (drop k now)) rightSlice (entry + k) mid late bmid blate
                (leftRoot + 1) rightRoot rightLevels rightBox) where
              right_grown : GrownIs f bounds strategy leaf_minimum (remaining - 1) (drop k slice') rightSlice (entry + k) mid late bmid blate
                  (leftRoot + 1) rightRoot rightLevels rightBox
              right_grown = rw rest_is at gr

              right_root : rightRoot + 1 ≡ leftRoot + 1 + node_count (tree (remaining - 1) (drop k slice'))
              right_root = ap (λ (n : ℕ). n + 1) right_grown.written.root_is ∙ root_last (leftRoot + 1) (tree (remaining - 1) (drop k slice'))

              late_long : length late ≡ length links
              late_long =
                  ap length right_grown.written.links_are
                  ∙ length_overwrite (3 * (leftRoot + 1)) (links_from (leftRoot + 1) (entry + k) (tree (remaining - 1) (drop k slice'))) mid
                  (omega (
                    arith,
                    links_length (leftRoot + 1) (entry + k) (tree (remaining - 1) (drop k slice')),
                    right_fits.few,
                    right_long,
                    left_root,
                    left_fits.few,
                    left_long,
                    inside.1,
                    long,
                    mid_long,
                    h.room.links_room,
                  ))
                  ∙ mid_long

              blate_long : length blate ≡ length boxes
              blate_long =
                  ap length right_grown.written.boxes_are
                  ∙ length_overwrite (6 * (leftRoot + 1)) (boxes_of (box_in bounds) (tree (remaining - 1) (drop k slice'))) bmid
                  (omega (
                    arith,
                    boxes_length (box_in bounds) (tree (remaining - 1) (drop k slice')),
                    right_fits.few,
                    right_long,
                    left_root,
                    left_fits.few,
                    left_long,
                    inside.1,
                    long,
                    bmid_long,
                    h.room.boxes_room,
                  ))
                  ∙ bmid_long

              links_fit : 3 * (rightRoot + 1) + 3 ≤ length links
              links_fit = omega (arith, right_root, right_fits.few, right_long, left_root, left_fits.few, left_long, inside.1, long, h.room.links_room)

              boxes_fit : 6 * (rightRoot + 1) + 6 ≤ length boxes
              boxes_fit = omega (arith, right_root, right_fits.few, right_long, left_root, left_fits.few, left_long, inside.1, long, h.room.boxes_room)

              -- needs of writing the branch behind its two sides
              pub branch_needs : BranchNeeds leftRoot leftLevels rightRoot rightLevels late blate
              branch_needs = record {
                left_shallow = omega (arith, gl.written.levels_are, left_fits.shallow, past, h.shallow);
                right_shallow = omega (arith, right_grown.written.levels_are, right_fits.shallow, past, h.shallow);
                left_few = omega (arith, left_root_few);
                right_few = omega (arith, right_root, right_fits.few, right_long, left_root, left_fits.few, left_long, inside.1, long, h.room.few);
                links_room = omega (arith, late_long, links_fit);
                boxes_room = omega (arith, blate_long, boxes_fit);
              }

              order_now : take k now ++ (rightSlice ++ drop (length now - k) (drop k now)) ≡ leftSlice ++ rightSlice
              order_now =
                  let all : length (drop k now) ≤ length now - k = omega (arith, length-drop k now) in
                  let none : drop (length now - k) (drop k now) ≡ [] = drop_of_length-le (drop k now) all in
                  ap₂ (λ (a b : List ℕ). a ++ (rightSlice ++ b)) (take_at leftSlice (drop k slice') k left_slice_long) none
                  ∙ ap (λ (l : List ℕ). leftSlice ++ l) (append-nil rightSlice)

              -- with both sides put back, the slice is as long as it was
              pub order_long : length (take k now ++ (rightSlice ++ drop (length now - k) (drop k now))) ≡ length slice
              order_long =
                  ap length order_now
                  ∙ length-append leftSlice rightSlice
                  ∙ omega (arith, left_slice_long, ap length right_grown.order_is ∙ right_fits.count, right_long, inside.1, long)

              branch_is : tree remaining slice ≡ branch (tree (remaining - 1) (take k slice')) (tree (remaining - 1) (drop k slice'))
              branch_is = further ∙ ap (λ (s : Split). parted (tree (remaining - 1)) (split_as slice' s)) split-is

              entries : k ≡ length (numbers (tree (remaining - 1) (take k slice')))
              entries = sym (left_fits.count ∙ left_long)

              -- both sides and the branch behind them are the tree as defined
              pub branch_gives : (links' : List ℕ) (boxes' : List Float) (root deep : ℕ) (box : Box)
                  → BranchPut leftRoot leftLevels leftBox rightRoot rightLevels rightBox late links' blate boxes' root deep box
                  → GrownIs f bounds strategy leaf_minimum remaining slice
                  (take k now ++ (rightSlice ++ drop (length now - k) (drop k now))) entry links links' boxes boxes' node root deep box
              unfolding numbers
              branch_gives links' boxes' root deep box put =
                  tree_is links' boxes' root deep box _ (branch (tree (remaining - 1) (take k slice')) (tree (remaining - 1) (drop k slice'))) branch_is
                  (order_now ∙ ap₂ (λ (a b : List ℕ). a ++ b) gl.order_is right_grown.order_is)
                  (branch_written (box_in bounds) (tree (remaining - 1) (take k slice')) (tree (remaining - 1) (drop k slice')) entry node links mid late links'
                  boxes bmid blate boxes' leftRoot leftLevels leftBox rightRoot rightLevels rightBox root deep box
                  gl.written
                  (subst (λ (n : ℕ). Written (box_in bounds) (tree (remaining - 1) (drop k slice')) (entry + n)
                  (leftRoot + 1) mid late bmid blate rightRoot rightLevels rightBox) entries right_grown.written)
                  put links_fit boxes_fit)
