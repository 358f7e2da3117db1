-- `image::write::write_refusal` meets its contract: two tests and then, for triangles that passed, three more.
use mathlib.Core.Path.{sym}
use Rattle.lists.proofs.Rows.{handed_on, refused_first, passed_first, last}
use Rattle.spec_lists.proofs.Passed.{triangles_passed}
use Rattle.spec_image.specs.Writing.{write_refusal}
use Rattle.image.proofs.Versions.{version_counted}
use Rattle.image.proofs.write.write_refusal.Goals as goal

pub returns-in_err-triangles_refusal : goal.returns-in_err-triangles_refusal
unfolding write_refusal
returns-in_err-triangles_refusal c =
    handed_on _ _ _ c.from_residual.ensures.1 (refused_first _ _ _ _ c.in_err-triangles_refusal.ensures)

pub returns-in_err-settings_refusal : goal.returns-in_err-settings_refusal
unfolding write_refusal
returns-in_err-settings_refusal c =
    handed_on _ _ _ c.from_residual-in_err-settings_refusal.ensures.1
    (passed_first _ _ _ c.in_ok-triangles_refusal.ensures (refused_first _ _ _ _ c.in_err-settings_refusal.ensures))

pub returns-in_err-leaf_refusal : goal.returns-in_err-leaf_refusal
unfolding write_refusal
returns-in_err-leaf_refusal c =
    let version = version_counted _ c.of.ensures c.triangle_count-count.ensures in
    handed_on _ _ _ c.from_residual-in_err-leaf_refusal.ensures.1
    (passed_first _ _ _ c.in_ok-triangles_refusal.ensures (passed_first _ _ _ c.in_ok-settings_refusal.ensures
    (refused_first _ _ _ _ (rw version at c.in_err-leaf_refusal.ensures))))

pub image_room_refusal-requires : goal.image_room_refusal-requires
image_room_refusal-requires c =
    (c.requires, rw c.triangle_count-count.ensures (triangles_passed _ (sym c.in_ok-triangles_refusal.ensures)).few)

pub returns-in_err-image_room_refusal : goal.returns-in_err-image_room_refusal
unfolding write_refusal
returns-in_err-image_room_refusal c =
    let count = c.triangle_count-count.ensures in
    let version = version_counted _ c.of.ensures count in
    handed_on _ _ _ c.from_residual-in_err-image_room_refusal.ensures.1
    (passed_first _ _ _ c.in_ok-triangles_refusal.ensures (passed_first _ _ _ c.in_ok-settings_refusal.ensures
    (passed_first _ _ _ (rw version at c.in_ok-leaf_refusal.ensures)
    (refused_first _ _ _ _ (rw count at c.in_err-image_room_refusal.ensures)))))

pub tree_refusal-requires : goal.tree_refusal-requires
tree_refusal-requires c = (triangles_passed _ (sym c.in_ok-triangles_refusal.ensures)).few

pub returns : goal.returns
unfolding write_refusal
returns c =
    let count = c.triangle_count-count.ensures in
    let version = version_counted _ c.of.ensures count in
    passed_first _ _ _ c.in_ok-triangles_refusal.ensures (passed_first _ _ _ c.in_ok-settings_refusal.ensures
    (passed_first _ _ _ (rw version at c.in_ok-leaf_refusal.ensures)
    (passed_first _ _ _ (rw count at c.in_ok-image_room_refusal.ensures) (last _ _ c.tree_refusal.ensures))))
