-- `image::read::read_image` meets its contract: the layout, then the room, then the lists.
use mathlib.Core.Path.{refl, sym, ◌∙◌}
use native.Mathlib.Omega.{arith}
use Rattle.spec_image.proofs.Versions.{size_least}
use Rattle.lists.specs.declared.refusal.Refusal.TheVariants.{NoRoom}
use Rattle.image.specs.Values.{rooms_in}
use Rattle.image.proofs.Taken.{read_nothing, answer_wrong, image_long, answer_by_room, enough}
use Rattle.image.proofs.read.read_image.Goals as goal

pub returns-in-Err : goal.returns-in-Err
returns-in-Err c =
    let a = c.args in
    read_nothing a.bytes.now a.triangles.now a.order.now a.links.now a.boxes.now _ _ refl (answer_wrong _ _ _ c.in-Err.ensures)

pub has_room-requires : goal.has_room-requires
has_room-requires c =
    let counts = c.in-Ok.counts in
    let long = image_long c.args.bytes.now _ _ c.in-Ok.ensures in
    let least = size_least counts.triangles counts.nodes in
    (omega (arith, long), omega (arith, long))

pub returns-then-not-has_room : goal.returns-then-not-has_room
returns-then-not-has_room c =
    let a = c.args in
    let answer = answer_by_room _ _ _ c.in-Ok.ensures (rooms_in a.triangles.now a.order.now a.links.now a.boxes.now) in
    read_nothing a.bytes.now a.triangles.now a.order.now a.links.now a.boxes.now _ NoRoom refl
    (rw (answer, sym c.has_room.ensures ∙ c.if-not-has_room.true))

pub read_lists-requires : goal.read_lists-requires
read_lists-requires c =
    let a = c.args in
    let long = image_long a.bytes.now _ _ c.in-Ok.ensures in
    let room = enough (rooms_in a.triangles.now a.order.now a.links.now a.boxes.now) _ _
    (sym c.has_room.ensures ∙ c.if-not-has_room.false) in
    let version = c.of-version.ensures in
    record { nodes_in_bounds = rw version (omega (arith, long)); count_in_bounds = (room.triangles, room.order); room_for_nodes = (room.links, room.boxes) }

pub settings_of-requires : goal.settings_of-requires
settings_of-requires c = omega (arith, image_long c.args.bytes.now _ _ c.in-Ok.ensures)

pub returns : goal.returns
returns c =
    let a = c.args in
    let rooms = rooms_in a.triangles.now a.order.now a.links.now a.boxes.now in
    let answer = answer_by_room a.bytes.now _ _ c.in-Ok.ensures rooms in
    let room = sym c.has_room.ensures ∙ c.if-not-has_room.false in
    let version = c.of-version.ensures in
    record { answer = rw (answer, room, c.settings_of.ensures, version); filled = rw version at c.read_lists.ensures }
