-- `tree::depth::depth_refusal` meets its contract: the look from the root down finds the first of all nodes that are too deep.
use mathlib.Core.Path.{ap, ◌∙◌}
use Prim.Native.Nat.{ℕ}
use native.Mathlib.Omega.{arith}
use lib.Dec.{ltb}
use Rattle.spec_lists.specs.Refusals.{refused_if}
use Rattle.spec_tree.specs.Reasons.{refused_where, depth_refusal}
use Rattle.spec_tree.proofs.Checks.{one_descends, one_deep}
use Rattle.tree.proofs.depth.depth_refusal.Goals as goal

pub overflow_sub-nodes : goal.overflow_sub-nodes
overflow_sub-nodes c = omega (arith, c.requires.some)

pub returns : goal.returns
unfolding depth_refusal refused_where
returns c =
    c.refused_if.ensures
    ∙ ap (λ (place : ℕ). refused_if (ltb place c.args.nodes) 74 place) (c.first_deep-place.ensures ∙ one_deep _ _ c.requires)

pub first_deep-place-requires : goal.first_deep-place-requires
first_deep-place-requires c = one_descends _ _ c.requires
