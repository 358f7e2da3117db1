-- `host_stl::calls::write_triangles` meets its contract: the writer's answer as a status, and its bytes.
use Rattle.spec_host.proofs.Stls.{write_stl_placed, write_stl_put}
use Rattle.host_stl.proofs.calls.write_triangles.Goals as goal

pub encode_counted-requires : goal.encode_counted-requires
encode_counted-requires c = write_stl_placed _ _ _ c.write_stl-written.ensures.answer

pub returns : goal.returns
returns c =
    write_stl_put _ c.write_stl-written.ensures.answer c.encode_counted.ensures c.write_stl-written.ensures.bytes
