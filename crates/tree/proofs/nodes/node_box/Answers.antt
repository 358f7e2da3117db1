-- `tree::nodes::node_box` meets its contract: each corner is what `point_from` ensures.
use Rattle.tree.proofs.nodes.node_box.Goals as goal

pub returns : goal.returns
returns c = λ i. record { min = c.point_from.ensures i; max = c.point_from-2.ensures i }
