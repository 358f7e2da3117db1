-- `grow::tables::put_centres` meets its contract: what `put_axis` ensures of each axis.
use Rattle.spec_build.proofs.Tabling.{all_centred}
use Rattle.grow.proofs.tables.put_centres.Goals as goal

pub returns : goal.returns
returns c =
    all_centred _ _ _ _ _ _ _ c.put_axis.ensures c.put_axis-2.ensures c.put_axis-3.ensures
