-- `grow::nodes::put_leaf` meets its contract: what `union_of`, `put_links` and `put_box` ensure.
use lib.Ieee.{binary32}
use Rattle.spec_build.proofs.Writing.{leaf_written}
use Rattle.grow.proofs.nodes.put_leaf.Goals as goal

pub returns : goal.returns
returns c =
    leaf_written binary32 _ _ _ _ _ _ _ _ _ c.requires.some c.union_of-over.ensures c.put_links.ensures
    c.put_box.ensures
