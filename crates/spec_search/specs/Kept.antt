-- What the source's walk keeps as a plain hit: at an infinite squared distance it stands for nothing.
-- The code keeps such a hit and no tag; these definitions say which answer it means.
use Rattle.std.specs.Prelude.{Bool, true, false}
use Rattle.std.specs.Float.{inf}
use Rattle.std.specs.Float.Ieee.{eq}
use Rattle.spec_search.specs.Answers.{Hit, Answer, nothing, found}

abbrev pub kept_if : Bool → Hit → Answer
kept_if true h = nothing
kept_if false h = found h

-- the answer that a kept hit stands for
unfoldable pub kept : Hit → Answer
kept h = kept_if (eq h.squared (inf false)) h
