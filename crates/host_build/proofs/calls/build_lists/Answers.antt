-- `host_build::calls::build_lists` meets its contract: the build's answer as a status, and its lists.
use Rattle.spec_host.proofs.Build.{built_placed, build_put}
use Rattle.host_build.proofs.calls.build_lists.Goals as goal

pub encode_built-requires : goal.encode_built-requires
encode_built-requires c =
    built_placed _ _ c.build-built.ensures

pub returns : goal.returns
returns c =
    build_put _ _ c.build-built.ensures c.encode_built.ensures
