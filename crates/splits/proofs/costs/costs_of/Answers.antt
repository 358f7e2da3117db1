-- `splits::costs::costs_of` meets its contract. The invariant: `left` is the side before bucket i, and the costs stored so far are those of the cuts.
use Rattle.std.proofs.Common.{◌≡◌, ℕ, ◌<◌, List, length, sym, refl, ap, ◌∙◌, arith, length-set}
use lib.ListN.{length-map}
use lib.Ieee.{binary32}
use Rattle.shapes.specs.Values.{as_box}
use Rattle.spec_splits.specs.Buckets.{Bucket, empty_bucket, bucket_at}
use Rattle.spec_splits.specs.Area.{cost_at, costs}
use Rattle.spec_splits.proofs.Table.{at_map}
use Rattle.spec_splits.proofs.Sweeps.{right_side, up_starts, up_fits, left_side, up_goes_on}
use Rattle.spec_splits.proofs.Area.{stored_on, stored_all}
use Rattle.splits.specs.Values.{as_bucket, as_buckets}
use Rattle.splits.proofs.Stored.{unmapped, no_bucket}
use Rattle.splits.proofs.costs.costs_of.Goals as goal

pub loop-i-init : goal.loop-i-init
loop-i-init c =
    let up = up_starts as_bucket binary32 c.args.buckets.each no_bucket (search (unmapped, c.well_formed)) _ c.empty-left.ensures in
    (up, (refl, λ (k : ℕ) (h : k < 0). absurd (omega arith)))

pub merged-left-requires : goal.merged-left-requires
merged-left-requires c =
    let loop = c.loop-i in
    up_fits as_bucket binary32 c.args.buckets.each no_bucket (search (unmapped, c.well_formed)) _ loop.i loop.invariant.0 c.requires.are_small

pub loop-i-preserved : goal.loop-i-preserved
unfolding cost_at
loop-i-preserved c =
    let full : length c.args.buckets.each ≡ 12 = search (unmapped, c.well_formed) in
    let rights = c.right_sides-rights in
    let rights_full : length rights.result.each ≡ 12 = search (unmapped, rights.type_inv) in
    let loop = c.loop-i in
    let left = left_side as_bucket binary32 c.args.buckets.each no_bucket full _ loop.i loop.invariant.0 c.requires.are_small _ c.merged-left.ensures in
    let right =
    sym (at_map as_bucket rights.result.each loop.i no_bucket (empty_bucket binary32) (omega (arith, rights_full)))
    ∙ ap (λ (l : List Bucket). bucket_at binary32 l loop.i) rights.ensures
    ∙ right_side binary32 (as_buckets c.args.buckets) loop.i (length-map c.args.buckets.each as_bucket ∙ full) c.requires.are_plain in
    let cost : _ ≡ cost_at binary32 (as_box c.args.parent) (as_buckets c.args.buckets) loop.i = c.cost_of.ensures ∙ rw (left, right) in (
      up_goes_on as_bucket binary32 c.args.buckets.each no_bucket full _ loop.i loop.invariant.0 c.requires.are_small _ c.merged-left.ensures (omega arith),
      (simp length-set loop.invariant.1.0, stored_on _ loop.costs loop.i _ (omega (arith, loop.invariant.1.0)) cost loop.invariant.1.1),
    )

pub returns : goal.returns
unfolding costs
returns c =
    let loop = c.loop-i in
    stored_all _ loop.costs loop.i 11 loop.invariant.1.0 (λ (k : ℕ) (h : k < 11). loop.invariant.1.1 k (omega arith))
