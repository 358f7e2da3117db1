-- The answer of a build as the definitions' own. The contract compares by it.
use Rattle.std.specs.Prelude.{Result, Ok, Err}
use Rattle.lists.specs.declared.refusal.Refusal.{Refusal}
use Rattle.lists.specs.Values.{number_of, place_of}
use Rattle.spec_build.specs.Build as Build
use Rattle.build.specs.declared.calls.Built.{Built}

abbrev pub as_built : Result Built Refusal → Build.Built
as_built (Ok built) = Build.made built.nodes built.depth
as_built (Err refusal) = Build.not_made (number_of refusal) (place_of refusal)
