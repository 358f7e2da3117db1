-- `image::get::settings_of` meets its contract: three numbers of two bytes, of which one stands for a leaf minimum.
use mathlib.Core.Path.{ap, ◌∙◌}
use Rattle.records.specs.Values.{shape_of}
use Rattle.spec_image.specs.Image.{leaf_in, settings_in}
use Rattle.image.proofs.get.settings_of.Goals as goal

pub returns : goal.returns
unfolding settings_in
returns c =
    let version = c.args.version in
    let leaf = c.leaf_of.ensures ∙ ap (leaf_in (shape_of version)) c.u16_at-2.ensures.value in
    λ i. record { strategy = c.u16_at.ensures.value i; leaf_minimum = leaf i; maximum_depth = c.u16_at-3.ensures.value i }
