-- `tree::listing::leaf_goes_on` meets its contract: what the two calls ensure.
use Rattle.tree.proofs.listing.leaf_goes_on.Goals as goal

pub returns : goal.returns
returns c = rw (c.left_at.ensures, c.right_at-last.ensures)
