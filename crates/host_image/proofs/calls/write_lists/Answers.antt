-- `host_image::calls::write_lists` meets its contract: the writer's answer as a status, and its bytes.
use Rattle.spec_host.proofs.Images.{written_placed, write_put}
use Rattle.host_image.proofs.calls.write_lists.Goals as goal

pub encode_written-requires : goal.encode_written-requires
encode_written-requires c = written_placed _ _ _ c.write_image-written.ensures.answer

pub returns : goal.returns
returns c =
    write_put _ c.write_image-written.ensures.answer c.encode_written.ensures c.write_image-written.ensures.filled
