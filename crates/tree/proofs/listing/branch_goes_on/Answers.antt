-- `tree::listing::branch_goes_on` meets its contract: the right child is looked at first, and only then the way down to the left one's place.
use mathlib.Core.Path.{sym, ◌∙◌}
use native.Mathlib.Omega.{arith}
use borrow.Author.Tests.{lt-ltb, le-ltb}
use Rattle.spec_tree.proofs.Down.{before_descends}
use Rattle.tree.proofs.listing.branch_goes_on.Goals as goal

pub returns-then-node-eq0 : goal.returns-then-node-eq0
returns-then-node-eq0 c = rw (le-ltb 0 c.args.node (omega (arith, c.if-node-eq0.true)))

pub returns-then-not-is_right_before : goal.returns-then-not-is_right_before
returns-then-not-is_right_before c =
    rw (lt-ltb 0 c.args.node (omega (arith, c.if-node-eq0.false)), sym c.is_right_before.ensures ∙ c.if-not-is_right_before.true)

pub first_of-requires : goal.first_of-requires
first_of-requires c =
    before_descends _ _ (omega (arith, c.if-node-eq0.false)) (omega (arith, c.requires.there)) c.requires.before

pub returns : goal.returns
returns c =
    rw (
      lt-ltb 0 c.args.node (omega (arith, c.if-node-eq0.false)),
      sym c.is_right_before.ensures ∙ c.if-not-is_right_before.false,
      ← c.first_of.ensures,
    ) c.is_left_before.ensures
