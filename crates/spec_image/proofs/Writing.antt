-- What the writer's tests give where they pass, and that they pass exactly where the lists are good and there is room.
use mathlib.Core.Path.{◌≡◌, sym, ap, ◌∙◌}
use mathlib.Core.Bool.{Bool, true}
use Prim.Native.Nat.{ℕ, ◌+◌, ◌-◌, ◌*◌, ◌≤◌}
use native.Mathlib.Nat.{le_refl, mul-le-mul_left}
use native.Mathlib.Omega.{arith}
use borrow.Author.Tests.{ltb-false, le-ltb}
use lib.Dec.{ltb}
use lib.ListN.{length}
use lib.Seq.{take-take}
use Rattle.spec_records.specs.Layouts.{Shape, node_size, image_size}
use Rattle.spec_lists.specs.Reading.{triangle_count, box_at}
use Rattle.spec_lists.specs.Refusals.{passes, Settings}
use Rattle.spec_lists.specs.Passed.{GoodTriangles, GoodSettings}
use Rattle.spec_lists.proofs.Verdicts.{all_pass, then_passes, not_refused}
use Rattle.spec_lists.proofs.Passed.{triangles_passed, triangles_pass, settings_passed, settings_pass, room_passed, room_passes}
use Rattle.spec_tree.specs.Trees.{Tree}
use Rattle.spec_tree.specs.Accepted.{Listing, accepted}
use Rattle.spec_tree.proofs.Unchanged.{tree_passes, tree_passed}
use Rattle.spec_tree.proofs.Order.{permutes_length}
use Rattle.spec_tree.proofs.Accepted.{accepted_listed, listed_accepted, listing_most, listing_links, listing_boxes}
use Rattle.spec_image.specs.Image.{Image}
use Rattle.spec_image.specs.Stored.{Complete, used}
use Rattle.spec_image.specs.Writing.{version_of, exact_size, leaf_refusal, write_refusal}

-- the lists are good, and are the listing of this tree; the version for them keeps the leaf minimum
pub record Good (x : Image) : Type 0 where
  pub triangles : GoodTriangles x.triangles
  pub settings : GoodSettings x.settings
  pub leaf_kept : x.settings.leaf_minimum ≤ (version_of x).max_leaf
  pub tree : Tree
  pub listing : Listing (box_at x.triangles) (triangle_count x.triangles) x.order x.links x.boxes x.nodes tree

module _ (x : Image) (g : Good x) where
  abbrev n : ℕ
  n = triangle_count x.triangles

  -- good lists have an order entry a triangle
  pub good_count : length x.order ≡ n
  good_count = permutes_length n x.order g.listing.permuted

  -- good lists have every entry that is written
  pub good_complete : Complete x
  good_complete = record {
    triples = g.triangles.whole ∙ ap (λ (k : ℕ). 9 * k) (sym good_count);
    linked = listing_links (box_at x.triangles) n x.order x.links x.boxes x.nodes g.tree g.listing;
    boxed = listing_boxes (box_at x.triangles) n x.order x.links x.boxes x.nodes g.tree g.listing;
  }

  -- a good tree over n triangles has at most 2n - 1 nodes
  pub good_nodes : x.nodes + 1 ≤ 2 * n
  good_nodes = listing_most (box_at x.triangles) n x.order x.links x.boxes x.nodes g.tree g.listing

  -- so no image is larger than one of so many nodes: the room that a host lends
  pub good_size : exact_size x ≤ image_size (version_of x) n (2 * n - 1)
  good_size =
      let few : x.nodes ≤ 2 * n - 1 = omega (arith, good_nodes) in
      omega (arith, mul-le-mul_left (node_size (version_of x)) few)

-- they are as good without what stands behind the nodes' links and boxes
pub used_good : (x : Image) → Good x → Good (used x)
used_good x g = record {
  triangles = g.triangles;
  settings = g.settings;
  leaf_kept = g.leaf_kept;
  tree = g.tree;
  listing = record {
    order_is = g.listing.order_is;
    permuted = g.listing.permuted;
    filled = g.listing.filled;
    nodes_are = g.listing.nodes_are;
    links_are = take-take (3 * x.nodes) (3 * x.nodes) x.links (le_refl _) ∙ g.listing.links_are;
    boxes_are = take-take (6 * x.nodes) (6 * x.nodes) x.boxes (le_refl _) ∙ g.listing.boxes_are;
    shallow = g.listing.shallow;
  };
}

-- ---- the tests pass exactly where the lists are good and there is room
module _ (sh : Shape) (settings : Settings) where
  -- a leaf minimum that passed is one that the version keeps
  leaf_passed : leaf_refusal sh settings ≡ passes → settings.leaf_minimum ≤ sh.max_leaf
  unfolding leaf_refusal
  leaf_passed e = ltb-false _ _ (not_refused (ltb sh.max_leaf settings.leaf_minimum) 5 0 e)

  -- such a leaf minimum passes
  leaf_passes : settings.leaf_minimum ≤ sh.max_leaf → leaf_refusal sh settings ≡ passes
  unfolding leaf_refusal
  leaf_passes h = rw (le-ltb sh.max_leaf settings.leaf_minimum h)

module _ (x : Image) (given : ℕ) where
  abbrev is_tree : Bool
  is_tree = accepted (box_at x.triangles) (triangle_count x.triangles) x.order x.links x.boxes x.nodes

  -- what passed the writer's tests has good lists and room for the image
  pub write_passed : write_refusal x given ≡ passes → Good x × (exact_size x ≤ given)
  unfolding write_refusal
  write_passed e =
      let p = all_pass _ e in
      let late = p.1.1 in
      let listed = accepted_listed (box_at x.triangles) (triangle_count x.triangles) x.order x.links x.boxes x.nodes
      (tree_passed x.triangles x.order x.links x.boxes x.nodes late.1.1.0) in (
        record {
          triangles = triangles_passed x.triangles p.0;
          settings = settings_passed x.settings p.1.0;
          leaf_kept = leaf_passed (version_of x) x.settings late.0;
          tree = listed.0;
          listing = listed.1;
        },
        room_passed given (exact_size x) late.1.0,
      )

  -- good lists with room for the image pass the writer's tests
  pub write_passes : Good x → exact_size x ≤ given → write_refusal x given ≡ passes
  unfolding write_refusal
  write_passes g room =
      let yes : is_tree ≡ true =
      listed_accepted (box_at x.triangles) (triangle_count x.triangles) x.order x.links x.boxes x.nodes g.tree g.listing in
      then_passes _ (
        triangles_pass x.triangles g.triangles,
        (
          settings_pass x.settings g.settings,
          (
            leaf_passes (version_of x) x.settings g.leaf_kept,
            (room_passes given (exact_size x) room, (tree_passes x.triangles x.order x.links x.boxes x.nodes yes, tt)),
          ),
        ),
      )
