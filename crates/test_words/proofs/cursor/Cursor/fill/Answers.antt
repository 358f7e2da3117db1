-- `test_words::cursor::Cursor::fill` meets its contract: how far the cursor goes (`saturated`).
use Rattle.test_words.proofs.Places.{saturated}
use Rattle.test_words.proofs.cursor.Cursor.fill.Goals as goal

pub returns-clause-at : goal.returns-clause-at
returns-clause-at g c = rw (c.saturating_mul.ensures, c.min-count.ensures, saturated) at c.more-self.ensures
