-- `tree::listing::goes_on` meets its contract, by the node's kind.
use borrow.Author.Tests.{ne_eqb}
use Rattle.spec_tree.specs.Ways.{goes_on}
use Rattle.tree.proofs.listing.goes_on.Goals as goal

pub returns-then-kind-eq1 : goal.returns-then-kind-eq1
unfolding goes_on
returns-then-kind-eq1 c = rw (← c.kind_at-kind.ensures, c.if-kind-eq1.true) c.leaf_goes_on.ensures

pub returns-then-kind-ne2 : goal.returns-then-kind-ne2
unfolding goes_on
returns-then-kind-ne2 c = rw (← c.kind_at-kind.ensures, ne_eqb _ 1 c.if-kind-eq1.false, ne_eqb _ 2 c.if-kind-ne2.true)

pub returns : goal.returns
unfolding goes_on
returns c = rw (← c.kind_at-kind.ensures, c.if-kind-ne2.false) c.branch_goes_on.ensures
