-- `walks::source::look` and `walks::source::look_if_entered` meet their contracts. `look` calls `look_if_entered` with one level less,
-- and `look_if_entered` calls `look` with the same levels, so the measures are 2d and 2d + 1. Each answer applies a law of `spec_search`.
use mathlib.Core.Path.{◌≡◌, refl, sym, ap, ◌∙◌}
use mathlib.Core.Bool.{not}
use native.Mathlib.Omega.{arith}
use lib.Ieee.{binary32}
use Rattle.shapes.specs.Values.{as_point}
use Rattle.spec_search.specs.Source.{source_search}
use Rattle.spec_search.proofs.Walked.{walk_skipped, walk_looked}
use Rattle.spec_search.proofs.Steps.{hangs_there, leaf_needs, pair_needs, levels_remaining, root_leaf_answers, root_pair_answers, right_needs, then_left_needs, right_answers}
use Rattle.walks.specs.declared.answer.Measures.TheVariants.{Computed}
use Rattle.walks.specs.Places.{sought_of}
use Rattle.walks.proofs.Links.{leaf_links, branch_links}
use Rattle.walks.proofs.Reached.{reached_is, reached_on, reached_still, reached_then}
use Prim.Native.Nat.{ℕ, ◌+◌, ◌-◌, ◌<◌}
use Rattle.walks.proofs.source.+look_look_if_entered.Goals as goal

falls_in : (d t : ℕ) → 0 < d → d + d ≡ t → (d - 1) + (d - 1) + 1 < t
falls_in d t z e = omega arith

falls_out : (d t : ℕ) → d + d + 1 ≡ t → d + d < t
falls_out d t e = omega arith

pub look-node_at-requires : goal.look-node_at-requires
look-node_at-requires t c =
    let a = c.args in
    let d = c.args.drawing.now in
    (hangs_there d.triangles.now d.order.now d.links.now d.boxes.now c.requires.tree a.node c.requires.hangs).links_there

pub look-measure_leaf-requires-clause-first_le_last : goal.look-measure_leaf-requires-clause-first_le_last
look-measure_leaf-requires-clause-first_le_last t c =
    (leaf_needs _ _ _ _ _ _ _ _ _ _ (leaf_links c.in-Leaf.ensures) c.requires refl).1.0

pub look-measure_leaf-requires-clause-first_bound : goal.look-measure_leaf-requires-clause-first_bound
look-measure_leaf-requires-clause-first_bound t c =
    (leaf_needs _ _ _ _ _ _ _ _ _ _ (leaf_links c.in-Leaf.ensures) c.requires refl).1.1

pub look-returns-in-Leaf : goal.look-returns-in-Leaf
look-returns-in-Leaf t c =
    let a = c.args in
    let d = c.args.drawing.now in
    let how = source_search binary32 d.triangles.now d.boxes.now (as_point a.probe.now.point) a.probe.now.limit in
    let s = sought_of Computed a.places.now.best a.places.now.which a.measured in
    reached_on c.measure_leaf.ensures
    (root_leaf_answers d.triangles.now d.order.now d.links.now d.boxes.now a.depth a.node a.measured _ _ _
    (leaf_links c.in-Leaf.ensures) c.requires how s _ refl refl)

pub look-overflow_sub-below : goal.look-overflow_sub-below
look-overflow_sub-below t c =
    let a = c.args in
    let d = c.args.drawing.now in
    levels_remaining d.triangles.now d.order.now d.links.now d.boxes.now a.depth a.node a.measured _ _ _
    (branch_links c.in-Branch.ensures) c.requires c.in-Branch.ensures.no_leaf

pub look-look_if_entered-then-requires : goal.look-look_if_entered-then-requires
look-look_if_entered-then-requires t c =
    let a = c.args in
    let d = c.args.drawing.now in (
      falls_in a.depth t (levels_remaining d.triangles.now d.order.now d.links.now d.boxes.now a.depth a.node a.measured _ _ _
          (branch_links c.in-Branch.ensures) c.requires c.in-Branch.ensures.no_leaf) (omega arith),
      right_needs d.triangles.now d.order.now d.links.now d.boxes.now (a.depth - 1) _ _ a.measured
          (pair_needs d.triangles.now d.order.now d.links.now d.boxes.now a.depth a.node a.measured _ _ _
          (branch_links c.in-Branch.ensures) c.requires c.in-Branch.ensures.no_leaf),
    )

pub look-look_if_entered-requires : goal.look-look_if_entered-requires
look-look_if_entered-requires t c =
    let a = c.args in
    let d = c.args.drawing.now in
    let how = source_search binary32 d.triangles.now d.boxes.now (as_point a.probe.now.point) a.probe.now.limit in
    let s = sought_of Computed a.places.now.best a.places.now.which a.measured in (
      falls_in a.depth t (levels_remaining d.triangles.now d.order.now d.links.now d.boxes.now a.depth a.node a.measured _ _ _
          (branch_links c.in-Branch.ensures) c.requires c.in-Branch.ensures.no_leaf) (omega arith),
      then_left_needs d.triangles.now d.order.now d.links.now d.boxes.now (a.depth - 1) _ _ a.measured
          (pair_needs d.triangles.now d.order.now d.links.now d.boxes.now a.depth a.node a.measured _ _ _
          (branch_links c.in-Branch.ensures) c.requires c.in-Branch.ensures.no_leaf) how s _ refl
          (reached_is c.look_if_entered-then.ensures),
    )

pub look-returns-in-Branch : goal.look-returns-in-Branch
look-returns-in-Branch t c =
    let a = c.args in
    let d = c.args.drawing.now in
    let how = source_search binary32 d.triangles.now d.boxes.now (as_point a.probe.now.point) a.probe.now.limit in
    let s = sought_of Computed a.places.now.best a.places.now.which a.measured in
    reached_on
    (reached_then (λ most. how) d.order.now d.links.now (a.depth - 1) _ c.look_if_entered-then.ensures
    c.look_if_entered.ensures)
    (root_pair_answers d.triangles.now d.order.now d.links.now d.boxes.now a.depth a.node a.measured _ _ _
    (branch_links c.in-Branch.ensures) c.requires how s _ c.in-Branch.ensures.no_leaf
    (right_answers how d.order.now d.links.now (a.depth - 1) _ _ s _ _ refl refl refl))

pub look_if_entered-does_enter-requires : goal.look_if_entered-does_enter-requires
look_if_entered-does_enter-requires t c =
    let a = c.args in
    let d = c.args.drawing.now in
    (hangs_there d.triangles.now d.order.now d.links.now d.boxes.now c.requires.tree a.node c.requires.hangs).boxes_there

pub look_if_entered-returns-then-does_enter : goal.look_if_entered-returns-then-does_enter
look_if_entered-returns-then-does_enter t c =
    let a = c.args in
    let d = c.args.drawing.now in
    let how = source_search binary32 d.triangles.now d.boxes.now (as_point a.probe.now.point) a.probe.now.limit in
    let s = sought_of Computed a.places.now.best a.places.now.which a.measured in
    reached_on c.look.ensures
    (walk_looked how d.order.now d.links.now a.depth a.node s (ap not (sym c.does_enter.ensures ∙ c.if-does_enter.true)))

pub look_if_entered-returns : goal.look_if_entered-returns
look_if_entered-returns t c =
    let a = c.args in
    let d = c.args.drawing.now in
    let how = source_search binary32 d.triangles.now d.boxes.now (as_point a.probe.now.point) a.probe.now.limit in
    let s = sought_of Computed a.places.now.best a.places.now.which a.measured in
    reached_on (reached_still Computed a.measured (record { floats = omega arith; numbers = omega arith }))
    (sym (walk_skipped how d.order.now d.links.now a.depth a.node s (ap not (sym c.does_enter.ensures ∙ c.if-does_enter.false))))
