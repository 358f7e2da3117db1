-- Building what passed the tests, over plain lists: what each call of the program needs, and what the calls leave in the lists.
use mathlib.Core.Path.{◌≡◌, refl, sym, ap, ap₂, subst, ◌∙◌}
use mathlib.Core.List.Permᴰ
use mathlib.Core.List.{List, ◌++◌}
use Prim.Native.Nat.{ℕ, ◌+◌, ◌-◌, ◌*◌, ◌≤◌, ◌<◌}
use native.Mathlib.Omega.{arith}
use lib.ListN.{length, take, drop, get_or, replicate, length-append, length-replicate}
use lib.Seq.{get_or-take, get_or-drop, drop_at, length-take-le}
use lib.Ieee.{Float, Format, nan}
use Rattle.spec_tables.specs.Tables.{overwrite, concat_map, slice}
use Rattle.spec_tables.proofs.Tables.{length_concat_map, length_overwrite, slice_concat_map}
use Rattle.spec_numbers.specs.Values.{zero}
use Rattle.spec_shapes.specs.Boxes.{Box, Proper}
use Rattle.spec_shapes.specs.Plain.{PlainBox}
use Rattle.spec_lists.specs.Limits.{max_triangles}
use Rattle.spec_lists.specs.Reading.{box_at, triangle_count}
use Rattle.spec_lists.specs.Refusals.{passes, refused, Settings}
use Rattle.spec_lists.specs.Passed.{AllFit}
use Rattle.spec_lists.proofs.Reading.{triangle_inside, box_at_proper, box_at_plain}
use Rattle.spec_tree.specs.Trees.{Tree, numbers, levels, root_from, links_from, six_of, boxes_of}
use Rattle.spec_tree.specs.Order.{range}
use Rattle.spec_tables.specs.Each.{Each}
use Rattle.spec_splits.specs.Splits.{box_in}
use Rattle.spec_tree.proofs.Trees.{root_last}
use Rattle.spec_tree.proofs.Standing.{slice_length}
use Rattle.spec_tables.proofs.Each.{each_permuted}
use Rattle.spec_build.specs.Grown.{grown}
use Rattle.spec_build.specs.Tries.{tried}
use Rattle.spec_build.specs.Growing.{rows, CentresNeeds, Centred, Tabled, Growable, GrownIs}
use Rattle.spec_build.specs.Build.{built_tree, Lists, build_refusal, Built, made, not_made, BuildIs, Passed, TreeNeeds, TreeLeft}
use Rattle.spec_build.proofs.Slices.{front_at}
use Rattle.spec_build.proofs.Centres.{centre_number}
use Rattle.spec_build.proofs.Alike.{Alike, tree_alike, listed_boxes_alike}
use Rattle.spec_build.proofs.Built.{Whole, whole_nodes, front_overwrite, each_range, range_length, whole_count}
use Rattle.spec_build.proofs.Build.{built_whole}

-- ---- the table of boxes is read as it was written
-- the i-th element of a piece
concat_map_in : {A : Type 0} (g : ℕ → List A) (w n t i : ℕ) (d : A) → ((j : ℕ) → length (g j) ≡ w) → t < n → i < w
    → get_or (concat_map g n) (w * t + i) d ≡ get_or (g t) i d
concat_map_in {A} g w n t i d sized h k =
    sym (get_or-take w (drop (w * t) (concat_map g n)) i d k ∙ get_or-drop (w * t) (concat_map g n) i d)
    ∙ ap (λ (l : List A). get_or l i d) (slice_concat_map g w n t sized h)

module _ (boxFor : ℕ → Box) (n : ℕ) (old : List Float) where
  table : List Float
  table = overwrite 0 (concat_map (λ t. six_of (boxFor t)) n) old

  entry_is : (t i : ℕ) → t < n → i < 6 → get_or table (6 * t + i) nan ≡ get_or (six_of (boxFor t)) i nan
  unfolding table
  entry_is t i h k =
      let long : length (concat_map (λ j. six_of (boxFor j)) n) ≡ 6 * n = length_concat_map (λ j. six_of (boxFor j)) 6 n (λ j. refl) in
      front_at (concat_map (λ j. six_of (boxFor j)) n) old (6 * t + i) nan (omega arith) ∙ concat_map_in (λ j. six_of (boxFor j)) 6 n t i nan (λ j. refl) h k

  read : (at t i : ℕ) → t < n → i < 6 → at ≡ 6 * t + i → get_or table at nan ≡ get_or (six_of (boxFor t)) i nan
  read at t i h k e = ap (λ (j : ℕ). get_or table j nan) e ∙ entry_is t i h k

  table_read : (t : ℕ) → t < n → box_in (overwrite 0 (concat_map (λ j. six_of (boxFor j)) n) old) t ≡ boxFor t
  unfolding box_in table
  table_read t h =
      let a : get_or table (6 * t) nan ≡ (boxFor t).min.x = read (6 * t) t 0 h (omega arith) (omega arith) in
      let b : get_or table (6 * t + 1) nan ≡ (boxFor t).min.y = read (6 * t + 1) t 1 h (omega arith) refl in
      let c : get_or table (6 * t + 2) nan ≡ (boxFor t).min.z = read (6 * t + 2) t 2 h (omega arith) refl in
      let d : get_or table (6 * t + 3) nan ≡ (boxFor t).max.x = read (6 * t + 3) t 3 h (omega arith) refl in
      let e : get_or table (6 * t + 3 + 1) nan ≡ (boxFor t).max.y = read (6 * t + 3 + 1) t 4 h (omega arith) (omega arith) in
      let g : get_or table (6 * t + 3 + 2) nan ≡ (boxFor t).max.z = read (6 * t + 3 + 2) t 5 h (omega arith) (omega arith) in
      λ i. record { min = record { x = a i; y = b i; z = c i }; max = record { x = d i; y = e i; z = g i } }

-- ---- the tree of all triangles
module _ (f : Format) (triangles : List Float) (s : Settings) (lent : Lists) (h : TreeNeeds triangles s lent) (fit : AllFit f triangles) (count : ℕ)
    (count_is : count ≡ triangle_count triangles) where
  passed : Passed triangles s lent
  passed = h.passed

  few : count ≤ max_triangles
  few = omega (arith, count_is, passed.triangles_good.few)

  some : 1 ≤ count
  some = omega (arith, count_is, passed.triangles_good.some)

  -- needs of the loop that puts the boxes of all triangles into their table
  pub bounds_needs : (9 * count ≤ length triangles) × (6 * count ≤ length lent.bounds)
  bounds_needs = (omega (arith, count_is, passed.triangles_good.whole), omega (arith, count_is, passed.bounds_room))

  -- needs of the loop that numbers the triangles in the order list
  pub order_needs : (count ≤ max_triangles) × (count ≤ length lent.order)
  order_needs = (few, omega (arith, count_is, passed.order_room))

  module _ (bounds' : List Float) (bounds_are : bounds' ≡ overwrite 0 (concat_map (λ t. six_of (box_at triangles t)) count) lent.bounds) where
    bounds_long' : length bounds' ≡ length lent.bounds
    bounds_long' =
        ap length bounds_are
        ∙ length_overwrite 0 (concat_map (λ t. six_of (box_at triangles t)) count) lent.bounds
        (omega (arith, length_concat_map (λ t. six_of (box_at triangles t)) 6 count (λ j. refl), bounds_needs.1))

    -- a slice of the table of centres has an entry a triangle
    rows_are : (centres' : List Float) → length centres' ≡ length lent.centres → rows centres' ≡ count
    rows_are centres' e = omega (arith, count_is, h.centres_long)

    -- needs of the loop that puts the centres of all triangles into their table
    pub centres_needs : CentresNeeds bounds' count (rows lent.centres)
    centres_needs = record { in_table = omega (arith, bounds_long', bounds_needs.1); few = few; room = omega (arith, rows_are lent.centres refl) }

    read_again : (t : ℕ) → t < count → box_in bounds' t ≡ box_at triangles t
    read_again t w = ap (λ (l : List Float). box_in l t) bounds_are ∙ table_read (box_at triangles) count lent.bounds t w

    module _ (centres' : List Float) (centred : Centred f bounds' count lent.centres centres') (order' : List ℕ)
        (order_is : order' ≡ overwrite 0 (range count) lent.order) where
      front : take count order' ≡ range count
      front = ap (take count) order_is ∙ front_overwrite count (range count) lent.order (range_length count)

      order_long : length order' ≡ length lent.order
      order_long = ap length order_is ∙ length_overwrite 0 (range count) lent.order (omega (arith, range_length count, order_needs.1))

      -- the order list has an entry a triangle, so its front can be lent
      pub count_within : count ≤ length order'
      count_within = omega (arith, order_long, order_needs.1)

      tabled : (t : ℕ) → t < count → Tabled f bounds' centres' t
      tabled t w =
          let inside : 9 * t + 9 ≤ length triangles = triangle_inside triangles t (omega (arith, count_is)) in
          let e : box_at triangles t ≡ box_in bounds' t = sym (read_again t w) in
          let proper = subst (λ (b : Box). Proper b) e (box_at_proper triangles passed.triangles_good.coordinates t inside) in
          record {
            few = omega (arith, rows_are centres' centred.long);
            in_table = omega (arith, bounds_long', bounds_needs.1);
            plain = subst (λ (b : Box). PlainBox f b) e (box_at_plain triangles passed.triangles_good.coordinates f fit t inside);
            proper = proper;
            centre_is = λ axis. centred.centre_is axis t w;
            centred = centre_number f (box_in bounds' t) proper;
          }

      -- the front that is lent has an entry a triangle
      pub front_long : length (take count order') ≡ count
      front_long = length-take-le count order' count_within

      front_tabled : Each (Tabled f bounds' centres') (take count order')
      front_tabled = rw front (each_range (Tabled f bounds' centres') count tabled)

      -- needs of growing the tree from its root: all triangles are in the tables, and the lists have room
      pub grow_needs : (remaining : ℕ) → remaining ≡ s.maximum_depth - 1
          → Growable f bounds' centres' s.leaf_minimum remaining (take count order') lent.scratch 0 lent.links lent.boxes 0
      grow_needs remaining e = record {
        tabled = front_tabled;
        leaf = passed.settings_good.leaf;
        shallow = omega (arith, passed.settings_good.depth);
        some = omega (arith, front_long, some);
        few = omega (arith, front_long, few);
        scratch_room = omega (arith, front_long, count_is, passed.scratch_room);
        room = record {
          links_room = omega (arith, front_long, some, count_is, passed.links_room);
          boxes_room = omega (arith, front_long, some, count_is, passed.boxes_room);
          few = omega (arith, front_long, few);
        };
      }

      module _ (remaining : ℕ) (remaining-is : remaining ≡ s.maximum_depth - 1) (slice' links' : List ℕ) (boxes' : List Float) (root deep : ℕ) (box : Box)
          (g : GrownIs f bounds' s.strategy s.leaf_minimum remaining (take count order') slice' 0 lent.links links' lent.boxes boxes' 0 root deep
          box) where
        whole : Tree
        whole = built_tree f triangles s

        same_tree : grown (tried f (box_in bounds') s.strategy) s.leaf_minimum remaining (take count order') ≡ built_tree f triangles s
        unfolding built_tree
        same_tree =
            ap₂ (λ (d : ℕ) (l : List ℕ). grown (tried f (box_in bounds') s.strategy) s.leaf_minimum d l) remaining-is (front ∙ ap range count_is)
            ∙ tree_alike (box_in bounds') (box_at triangles) f s.strategy s.leaf_minimum (s.maximum_depth - 1) (range (triangle_count triangles))
            (each_range (Alike (box_in bounds') (box_at triangles)) (triangle_count triangles) (λ t w. read_again t (omega (arith, count_is))))

        tree_whole : Whole (triangle_count triangles) (built_tree f triangles s)
        tree_whole = built_whole f triangles s passed.triangles_good passed.settings_good

        same_boxes : boxes_of (box_in bounds') (built_tree f triangles s) ≡ boxes_of (box_at triangles) (built_tree f triangles s)
        same_boxes =
            listed_boxes_alike (box_in bounds') (box_at triangles) (built_tree f triangles s) tree_whole.filled
            (each_permuted (Alike (box_in bounds') (box_at triangles)) (Permᴰ.symm tree_whole.permuted)
            (each_range (Alike (box_in bounds') (box_at triangles)) (triangle_count triangles) (λ t w. read_again t (omega (arith, count_is)))))

        -- the root's number is in range, so the node count does not overflow
        pub root_few : root + 1 ≤ 2 * max_triangles
        root_few = omega (
          arith,
          g.written.root_is,
          ap (root_from 0) same_tree,
          root_last 0 (built_tree f triangles s),
          whole_nodes tree_whole,
          passed.triangles_good.few,
        )

        numbers_long : length (numbers (built_tree f triangles s)) ≡ count
        numbers_long = whole_count tree_whole ∙ sym count_is

        order_now : slice' ++ drop count order' ≡ overwrite 0 (numbers (built_tree f triangles s)) lent.order
        unfolding overwrite
        order_now =
            let rest : drop count order' ≡ drop (0 + length (range count)) lent.order =
            ap (drop count) order_is ∙ drop_at (range count) (drop (0 + length (range count)) lent.order) count (range_length count) in
            let same : length (range count) ≡ length (numbers (built_tree f triangles s)) = range_length count ∙ sym numbers_long in
            ap₂ (λ (a b : List ℕ). a ++ b) (g.order_is ∙ ap numbers same_tree) (rest ∙ ap (λ (n : ℕ). drop (0 + n) lent.order) same)

        -- tables, order and growing together leave the tree that the definition of the build says
        pub tree_left : TreeLeft (box_at triangles) (built_tree f triangles s) lent.order lent.links lent.boxes (made (root + 1) deep)
            (slice' ++ drop count order') links' boxes'
        tree_left = record {
          answer_is =
              ap₂ made (ap (λ (n : ℕ). n + 1) (g.written.root_is ∙ ap (root_from 0) same_tree) ∙ root_last 0 (built_tree f triangles s) ∙ omega arith)
              (g.written.levels_are ∙ ap levels same_tree);
          order_is = order_now;
          links_are = g.written.links_are ∙ ap (λ (t : Tree). overwrite 0 (links_from 0 0 t) lent.links) same_tree;
          boxes_are =
              g.written.boxes_are ∙ ap (λ (t : Tree). overwrite 0 (boxes_of (box_in bounds') t) lent.boxes) same_tree
              ∙ ap (λ (l : List Float). overwrite 0 l lent.boxes) same_boxes;
        }

-- ---- the working lists
-- needs of growing the tree, where the fronts of the working lists are lent
pub fronts_lent : (triangles : List Float) (s : Settings) (lent : Lists) → Passed triangles s lent → (b c r : ℕ) → b ≡ 6 * triangle_count triangles
    → c ≡ 3 * triangle_count triangles → r ≡ triangle_count triangles
    → TreeNeeds triangles s (record {
      order = lent.order;
      links = lent.links;
      boxes = lent.boxes;
      bounds = slice lent.bounds 0 b;
      centres = slice lent.centres 0 c;
      scratch = slice lent.scratch 0 r;
    })
fronts_lent triangles s lent p b c r b-is c-is r-is =
    let long : length (slice lent.centres 0 c) ≡ c = slice_length lent.centres 0 c (omega (arith, p.centres_room)) in
    record {
      passed = record {
        triangles_good = p.triangles_good;
        settings_good = p.settings_good;
        order_room = p.order_room;
        links_room = p.links_room;
        boxes_room = p.boxes_room;
        bounds_room = omega (arith, slice_length lent.bounds 0 b (omega (arith, p.bounds_room)));
        centres_room = omega (arith, long);
        scratch_room = omega (arith, slice_length lent.scratch 0 r (omega (arith, p.scratch_room)));
      };
      centres_long = long ∙ c-is;
    }

module _ {A : Type 0} (k size : ℕ) (front old : List A) (sized : size ≡ k) (room : k ≤ length old) (kept : length front ≡ length (slice old 0 size)) where
  long : length front ≡ size
  long = kept ∙ slice_length old 0 size (omega arith)

  -- a front that was lent and came back is still there to be cleared
  pub front_within : k ≤ length (front ++ drop size old)
  front_within = omega (arith, long, length-append front (drop size old))

  -- cleared, it holds one value, and behind it the list is as it was
  pub front_cleared : (x : A) (new : List A) → new ≡ overwrite 0 (replicate k x) (front ++ drop size old) → new ≡ overwrite 0 (replicate k x) old
  unfolding overwrite
  front_cleared x new e =
      let filled : 0 + length (replicate k x) ≡ size = omega (arith, length-replicate k x) in
      e
      ∙ ap (λ (l : List A). replicate k x ++ l)
      (ap (λ (n : ℕ). drop n (front ++ drop size old)) filled ∙ drop_at front (drop size old) size long ∙ ap (λ (n : ℕ). drop n old) (sym filled))

-- ---- the call
-- what passed: the tree that was left, and the working lists once they are cleared, are what the definition says
pub passed_gives : (f : Format) (triangles : List Float) (s : Settings) (old : Lists) (answer : Built) (new : Lists) (count : ℕ)
    → build_refusal triangles s old ≡ passes → count ≡ triangle_count triangles
    → TreeLeft (box_at triangles) (built_tree f triangles s) old.order old.links old.boxes answer new.order new.links new.boxes
    → new.bounds ≡ overwrite 0 (replicate (6 * count) zero) old.bounds → new.centres ≡ overwrite 0 (replicate (3 * count) zero) old.centres
    → new.scratch ≡ overwrite 0 (replicate count 0) old.scratch → BuildIs f triangles s old answer new
passed_gives f triangles s old answer new count e n t bounds centres scratch = rw e record {
  answer_is = t.answer_is;
  order_is = t.order_is;
  links_are = t.links_are;
  boxes_are = t.boxes_are;
  bounds_are = rw (← n) bounds;
  centres_are = rw (← n) centres;
  scratch_is = rw (← n) scratch;
}

-- a refusal that leaves the lists as they were is what the definition says of it
pub refusal_gives : (f : Format) (triangles : List Float) (s : Settings) (lent : Lists) (number place : ℕ)
    → build_refusal triangles s lent ≡ refused number place → BuildIs f triangles s lent (not_made number place) lent
refusal_gives f triangles s lent number place e = rw e record {
  answer_is = refl;
  order_is = refl;
  links_are = refl;
  boxes_are = refl;
  bounds_are = refl;
  centres_are = refl;
  scratch_is = refl;
}
