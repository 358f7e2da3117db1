-- `image::write::leaf_refusal` meets its contract: it refuses where the leaf minimum is above the max.
use Rattle.spec_image.specs.Writing.{leaf_refusal}
use Rattle.image.proofs.write.leaf_refusal.Goals as goal

pub returns : goal.returns
unfolding leaf_refusal
returns c = rw (← c.max_leaf.ensures) c.refused_if.ensures
