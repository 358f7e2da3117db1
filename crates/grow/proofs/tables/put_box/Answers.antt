-- `grow::tables::put_box` meets its contract: six stores are one write.
use Rattle.spec_tables.proofs.Stores.{six_stores}
use borrow.Author.Rules.{rules}
use Rattle.grow.proofs.tables.put_box.Goals as goal

pub returns : goal.returns
returns c = six_stores _ _ _ _ _ _ _ _ (search rules)
