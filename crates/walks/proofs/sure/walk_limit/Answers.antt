-- `walks::sure::walk_limit` meets its contract: by the second rule an infinity, by the first the limit.
use lib.Ieee.{of_bits}
use borrow.Author.Tests.{eq-eqb, ne_eqb}
use Rattle.spec_search.specs.Rules.{rule_of}
use Rattle.walks.proofs.sure.walk_limit.Goals as goal

pub returns-then-rule-eq2 : goal.returns-then-rule-eq2
unfolding rule_of of_bits
returns-then-rule-eq2 c = rw (eq-eqb _ _ c.if-rule-eq2.true)

pub returns : goal.returns
unfolding rule_of of_bits
returns c = rw (ne_eqb _ _ c.if-rule-eq2.false)
