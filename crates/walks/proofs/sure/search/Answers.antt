-- `walks::sure::search` meets its contract: an accepted tree is safe to walk from its root, and the walk from markers is that by the rule.
use mathlib.Core.Path.{refl}
use lib.Ieee.{binary32, inf}
use mathlib.Core.Bool.{false}
use Rattle.spec_numbers.proofs.Comparisons.{less_number}
use Rattle.shapes.specs.Values.{as_point}
use Rattle.spec_search.specs.Rules.{rule_of}
use Rattle.spec_search.specs.Marked.{marked_walk}
use Rattle.spec_search.proofs.Calls.{root_there, root_safe, entries_below, numbers_low}
use Rattle.spec_search.proofs.Steps.{hangs_there}
use Rattle.spec_search.proofs.Marked.{marked_is_few}
use Rattle.walks.proofs.Slots.{start_sound}
use Rattle.walks.proofs.Reached.{reached_on, few_then}
use Rattle.walks.proofs.sure.search.Goals as goal

pub overflow_sub-root : goal.overflow_sub-root
overflow_sub-root c = root_there _ _ _ _ _ c.requires.searchable

pub node_squared-squared-requires : goal.node_squared-squared-requires
node_squared-squared-requires c =
    let safe = root_safe _ _ _ _ _ c.requires.searchable in
    (hangs_there _ _ _ _ safe.tree _ safe.hangs).boxes_there

pub node_walk-requires-clause-node_safe : goal.node_walk-requires-clause-node_safe
node_walk-requires-clause-node_safe c = root_safe _ _ _ _ _ c.requires.searchable

pub node_walk-requires-clause-sound : goal.node_walk-requires-clause-sound
node_walk-requires-clause-sound c =
    let most = c.requires.le_most in
    start_sound _ _ _ _ (less_number _ (inf false) c.requires.limit_finite) most.0 most.1 c.start.ensures

pub returns : goal.returns
unfolding marked_walk
returns c =
    let a = c.args in
    let d = c.args.drawing.now in
    let walk = few_then binary32 _ _ _ _ _ _ _ _ (record { holds = c.start.ensures; measured_is = refl }) c.node_walk.ensures in
    reached_on (rw c.walk_limit.ensures at walk)
    (marked_is_few binary32 d.triangles.now d.order.now d.links.now d.boxes.now _ d.nodes (entries_below _ _ _ _ _ c.requires.searchable)
    (numbers_low _ _ _ _ _ c.requires.searchable) (as_point a.probe.point) a.most c.requires.le_most.0 (rule_of a.rule) a.probe.limit
    c.requires.limit_finite)
