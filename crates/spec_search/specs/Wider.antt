-- What a wider search, and triangles appended to the list, may make of an answer. Fitters widen the distance or add a patch to the drawing, and ask
-- whether earlier readings still stand.
use Rattle.std.specs.Prelude.{◌≡◌, cond, List, ℕ, ◌+◌, ◌≤◌, ◌<◌, T, Float}
use Rattle.std.specs.Float.{Format}
use Rattle.std.specs.Float.Ieee.{lt}
use Rattle.spec_shapes.specs.Points.{Point}
use Rattle.spec_lists.specs.Refusals.{passes}
use Rattle.spec_search.specs.Answers.{sure, Hit, Answer, nothing, found}
use Rattle.spec_search.specs.Rules.{Limit, counts}
use Rattle.spec_search.specs.Calls.{query_refusal, answer_by}

-- ---- a sure query, before or after
-- one that passes its tests: its tree is any that is accepted over its triangles
pub record Passing (rule : ℕ) (triangles : List Float) (distance : Float) : Type 0 where
  pub order : List ℕ
  pub links : List ℕ
  pub boxes : List Float
  pub nodes : ℕ
  pub points : List Float
  pub room : ℕ
  pub passed : query_refusal (sure rule) triangles order links boxes nodes points distance room ≡ passes

-- what it answers at a point
abbrev pub answer_of : {rule : ℕ} {triangles : List Float} {distance : Float} → Format → Passing rule triangles distance → Point → Answer
answer_of {rule} {triangles} {distance} f query p =
    answer_by f (sure rule) triangles query.order query.links query.boxes query.nodes distance p 0

-- ---- a wider search
-- what counts by the one limit counts by the other
abbrev pub NoNarrower : Limit → Limit → Type 0
NoNarrower limit wider = (d : Float) → T (counts limit d) → T (counts wider d)

-- what a limit leaves of an answer: what was found, if it counts
abbrev pub narrowed_to : Limit → Answer → Answer
narrowed_to limit nothing = nothing
narrowed_to limit (found h) = cond (counts limit h.squared) (found h) nothing

-- ---- triangles appended
-- what was measured of a triangle that stands behind n others
abbrev pub numbered : ℕ → Hit → Hit
numbered n h = record { point = h.point; squared = h.squared; triangle = n + h.triangle; part = h.part }

-- and answered
abbrev pub numbered_from : ℕ → Answer → Answer
numbered_from n nothing = nothing
numbered_from n (found h) = found (numbered n h)

-- the nearer of two answers, among equals the first
abbrev pub nearer_of : Answer → Answer → Answer
nearer_of nothing b = b
nearer_of (found h) nothing = found h
nearer_of (found h) (found k) = cond (lt k.squared h.squared) (found k) (found h)

-- h is at a strictly smaller squared distance than what was found, if anything was
abbrev pub StrictlyNearer : Hit → Answer → Type 0
StrictlyNearer h nothing = Unit {0}
StrictlyNearer h (found k) = T (lt h.squared k.squared)

-- n triangles were there, and now there are m: the answer stands, or an appended triangle has taken its place, at a strictly smaller squared distance or
-- where nothing was found
pub data StandsOrNearer (n m : ℕ) (before after : Answer) : Type 0 where
  stands : after ≡ before → StandsOrNearer n m before after
  replaced : (h : Hit) → after ≡ found h → n ≤ h.triangle → h.triangle < m → StrictlyNearer h before → StandsOrNearer n m before after
