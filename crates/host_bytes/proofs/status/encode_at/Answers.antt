-- `host_bytes::status::encode_at` meets its contract: an 8 sets the top bit, any other number the top byte.
use borrow.Author.Tests.{ne_eqb}
use Rattle.spec_host.specs.Status.{refusal_status}
use Rattle.host_bytes.proofs.status.encode_at.Goals as goal

pub returns-then-number-eq8 : goal.returns-then-number-eq8
unfolding refusal_status
returns-then-number-eq8 c = rw c.if-number-eq8.true

pub returns : goal.returns
unfolding refusal_status
returns c = rw (ne_eqb c.args.number 8 c.if-number-eq8.false)
