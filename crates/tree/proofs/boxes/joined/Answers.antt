-- `tree::boxes::joined` meets its contract: before each turn the box is what joins with the rest to the whole.
use Rattle.std.proofs.Common.{◌≡◌, ℕ, ◌+◌, ◌<◌, ◌≤◌, ap, ◌∙◌, ◌-◌, List, length, get_or, take, drop, arith, length-take, length-drop}
use Rattle.std.proofs.lemmas.Grind.{common_steps}
use Rattle.shapes.specs.Values.{as_box}
use Rattle.spec_shapes.specs.Boxes.{union}
use Rattle.spec_lists.specs.Reading.{box_at}
use Rattle.spec_lists.proofs.Reading.{triangle_inside}
use Rattle.spec_tree.proofs.Joining.{joining_starts, joining_goes_on, joining_ends}
use Rattle.tree.proofs.boxes.joined.Goals as goal

-- the numbers behind the first, by their own index
second : (s : List ℕ) (j : ℕ) → j + 1 < length s → get_or (take (length s - 1) (drop 1 s)) j 0 ≡ get_or s (j + 1) 0
second s j lt = grind (arith, common_steps)

pub box_at-over-requires : goal.box_at-over-requires
box_at-over-requires c =
    triangle_inside _ _ (c.requires.numbered 0 c.requires.some)

pub loop-t-init : goal.loop-t-init
loop-t-init c =
    joining_starts _ _ _ c.requires.some c.box_at-over.ensures

pub box_at-requires : goal.box_at-requires
box_at-requires c =
    let s = c.args.slice.now in
    let j = c.loop-t.t-index in
    let lt : j + 1 < length s = omega (arith, length-take {A = ℕ}, length-drop {A = ℕ}, c.loop-t-test.true) in
    rw (second s j lt) (triangle_inside _ _ (c.requires.numbered (j + 1) lt))

pub loop-t-preserved : goal.loop-t-preserved
loop-t-preserved c =
    let s = c.args.slice.now in
    let j = c.loop-t.t-index in
    let lt : j + 1 < length s = omega (arith, length-take {A = ℕ}, length-drop {A = ℕ}, c.loop-t-test.true) in
    joining_goes_on _ _ (j + 1) (as_box c.loop-t.over) _ lt
    (c.union_box-over.ensures ∙ ap (union _) (c.box_at.ensures ∙ ap (box_at _) (second s j lt))) c.loop-t.invariant

pub returns : goal.returns
returns c =
    let ge : length c.args.slice.now ≤ c.loop-t.t-index + 1 = omega (arith, length-take {A = ℕ}, length-drop {A = ℕ}, c.loop-t-test.false) in
    joining_ends _ _ (c.loop-t.t-index + 1) _ ge c.loop-t.invariant
