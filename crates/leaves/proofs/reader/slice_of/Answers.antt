-- `leaves::reader::slice_of` meets its contract: what of the slice is there.
use Rattle.leaves.proofs.Slices.{slice_there}
use Rattle.leaves.proofs.reader.slice_of.Goals as goal

pub returns : goal.returns
returns c = slice_there _ _ _ _ _ c.min-end.ensures c.min-start.ensures
