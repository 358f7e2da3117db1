-- `image::size::image_room_refusal` meets its contract: it refuses where the room is short.
use Rattle.spec_lists.specs.Refusals.{room_refusal}
use Rattle.image.proofs.size.image_room_refusal.Goals as goal

pub returns : goal.returns
unfolding room_refusal
returns c = rw (← c.is_short.ensures) c.refused_if.ensures
