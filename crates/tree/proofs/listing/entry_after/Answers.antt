-- `tree::listing::entry_after` meets its contract: a leaf's end, and of another node the entry that was reached before it.
use borrow.Author.Tests.{ne_eqb}
use Rattle.tree.proofs.listing.entry_after.Goals as goal

pub returns-then-kind_at-eq1 : goal.returns-then-kind_at-eq1
returns-then-kind_at-eq1 c = rw (← c.kind_at.ensures, c.if-kind_at-eq1.true) c.right_at.ensures

pub returns : goal.returns
returns c = rw (← c.kind_at.ensures, ne_eqb _ 1 c.if-kind_at-eq1.false)
