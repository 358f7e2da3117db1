-- `host_stl::calls::read_triangles` meets its contract: the reader's answer as a status, and its triangles.
use Rattle.spec_host.proofs.Stls.{read_stl_placed, read_stl_put}
use Rattle.host_stl.proofs.calls.read_triangles.Goals as goal

pub encode_counted-requires : goal.encode_counted-requires
encode_counted-requires c = read_stl_placed _ _ _ c.read_stl-read.ensures.answer

pub returns : goal.returns
returns c =
    read_stl_put _ c.read_stl-read.ensures.answer c.encode_counted.ensures c.read_stl-read.ensures.triangles
