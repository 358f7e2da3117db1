-- `tree::count::is_present` meets its contract: the two quotients say what the definition's products say.
use mathlib.Core.Path.{sym}
use Rattle.spec_tree.proofs.Counted.{present_none, present_links, present_boxes}
use Rattle.tree.proofs.count.is_present.Goals as goal

pub returns-then-nodes-eq0 : goal.returns-then-nodes-eq0
returns-then-nodes-eq0 c = sym (present_none _ _ _ c.if-nodes-eq0.true)

pub returns-then-nodes-links : goal.returns-then-nodes-links
returns-then-nodes-links c = sym (present_links _ _ _ c.if-nodes-links.true)

pub returns : goal.returns
returns c = present_boxes _ _ _ c.if-nodes-eq0.false c.if-nodes-links.false
