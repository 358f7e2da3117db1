-- What passed the tests is built and searched without a refusal, and what is written are the lines of the run.
use mathlib.Core.Path.{◌≡◌, ap, ◌∙◌}
use mathlib.Core.List.{List}
use mathlib.Core.Bool.{Bool}
use Prim.Native.Nat.{ℕ, ◌+◌, ◌*◌, ◌≤◌}
use native.Mathlib.Omega.{arith}
use lib.ListN.{length, take}
use lib.Ieee.{Float, binary32, of_bits}
use Rattle.spec_tables.specs.Tables.{overwrite}
use Rattle.spec_tables.proofs.Pieces.{take_overwrite, length_singles}
use Rattle.spec_records.specs.Little.{little_at}
use Rattle.spec_records.specs.Entries.{floats_in}
use Rattle.spec_records.specs.Layouts.{version1, points_start, distance_start}
use Rattle.spec_image.specs.Image.{settings_in}
use Rattle.spec_printing.specs.Printed.{counts_line}
use Rattle.spec_lists.specs.Reading.{triangle_count, point_count}
use Rattle.spec_lists.specs.Refusals.{Verdict, passes, Settings}
use Rattle.spec_lists.proofs.Verdicts.{then_passes}
use Rattle.spec_lists.proofs.Passed.{triangles_passed, settings_passed, room_passes}
use Rattle.spec_tree.proofs.Unchanged.{tree_passes}
use Rattle.spec_build.specs.Build.{Lists, made, not_made, answer_by, built_tree, build_refusal, BuildIs}
use Rattle.spec_build.proofs.Build.{build_passes, made_nodes, made_depth, made_accepted}
use Rattle.spec_search.specs.Rules.{rule_of}
use Rattle.spec_search.specs.Answers.{sure, answer_width}
use Rattle.spec_search.specs.Calls.{query_refusal, answer_words, after_query, sure_answer}
use Rattle.spec_gauge.specs.Printed.{max_bytes, Request, rule_in, request_in, tree_line, max_gauged, max_points, max_printed, Fits}
use Rattle.spec_gauge.proofs.Printed.{AllPassed}

-- the lists that the program lends to the build: as many triangles as fit have room
pub record Lent (lent : Lists) : Type 0 where
  pub order : length lent.order ≡ max_gauged
  pub links : length lent.links ≡ 5451
  pub boxes : length lent.boxes ≡ 10902
  pub bounds : length lent.bounds ≡ 5454
  pub centres : length lent.centres ≡ 2727
  pub scratch : length lent.scratch ≡ max_gauged

module _ (a : Request) (passed : AllPassed a) (few : triangle_count a.triangles ≤ max_gauged) {old : Lists} (lent : Lent old) where
  accepts : build_refusal a.triangles a.settings old ≡ passes
  accepts = build_passes a.triangles a.settings old (record {
    triangles_good = triangles_passed a.triangles passed.triangles;
    settings_good = settings_passed a.settings passed.settings;
    order_room = omega arith;
    links_room = omega arith;
    boxes_room = omega arith;
    bounds_room = omega arith;
    centres_room = omega arith;
    scratch_room = omega arith;
  })

  -- the build of a request that passed is never refused
  pub is_built : {number place : ℕ} {new : Lists} → BuildIs binary32 a.triangles a.settings old (not_made number place) new → ⊥
  is_built {number} {place} b =
      let e : not_made number place ≡ made _ _ = b.answer_is
      ∙ ap (λ (v : Verdict). answer_by v (built_tree binary32 a.triangles a.settings)) accepts in
      let z : ◌≡◌ {A = ℕ} 0 1 = cc in
      omega arith

-- ---- the tree that was built
module _ (a : Request) (passed : AllPassed a) {nodes depth : ℕ} {old new : Lists}
    (b : BuildIs binary32 a.triangles a.settings old (made nodes depth) new) where
  -- the counts that the build answers are those of the tree's line
  pub tree_line_lem : (count : ℕ) → count ≡ triangle_count a.triangles → counts_line count nodes depth ≡ tree_line a.triangles a.settings
  unfolding tree_line
  tree_line_lem count e = rw (
    e,
    made_nodes binary32 a.triangles a.settings old new nodes depth b,
    made_depth binary32 a.triangles a.settings old new nodes depth b,
  )

  -- the query of the tree that was built is never refused
  pub query_passes : (count : ℕ) → count ≡ triangle_count a.triangles → point_count a.points ≤ max_points
      → query_refusal (sure a.rule) a.triangles (take count new.order) new.links new.boxes nodes a.points a.distance
      (answer_width * max_points) ≡ passes
  unfolding query_refusal
  query_passes count e h =
      then_passes _ (
        passed.triangles,
        (
          passed.rule,
          (
            room_passes max_points (point_count a.points) h,
            (
              rw e (tree_passes a.triangles _ new.links new.boxes nodes
                  (made_accepted binary32 a.triangles a.settings old new nodes depth b)),
              (passed.points, (passed.distance, tt)),
            ),
          ),
        ),
      )

-- a query that is not refused answers all points
pub is_answered : (rule : ℕ) (triangles : List Float) (distance : Float) (points : List Float) (old new : List ℕ) (v w : Verdict) → v ≡ w → w ≡ passes
    → new ≡ after_query binary32 (sure_answer binary32 (rule_of rule) triangles distance) points v old
    → new ≡ overwrite 0 (answer_words binary32 (sure_answer binary32 (rule_of rule) triangles distance) points) old
unfolding after_query
is_answered rule triangles distance points old new v w e h n = rw (e ∙ h) at n

-- ---- the lists as they are read
-- an input up to the maximum size fits the program's lists
pub fits : (t p : ℕ) (triangles points : List Float) (out : List ℕ) → length triangles ≡ 9 * t → length points ≡ 3 * p → 36 + 36 * t + 12 * p ≤ max_bytes
    → max_printed ≤ length out
    → Fits triangles points out
unfolding triangle_count point_count
fits t p triangles points out a b h room = record { triangles_few = rw a (omega arith); points_few = rw b (omega arith); room = room }

-- what the program reads into its lists is the request as defined
pub request_is : (s : List ℕ) (t p : ℕ) (ruled : Bool) (settings : Settings) (triangles points old older : List Float) (distance : Float) (rule : ℕ)
    → settings ≡ settings_in version1 s → triangles ≡ overwrite 0 (floats_in binary32 s 20 (9 * t)) old
    → points ≡ overwrite 0 (floats_in binary32 s (points_start t) (3 * p)) older → distance ≡ of_bits binary32 (little_at 4 s (distance_start t p))
    → rule ≡ rule_in s t p ruled
    → ◌≡◌ {A = Request}
    (record { settings = settings; triangles = take (9 * t) triangles; points = take (3 * p) points; distance = distance; rule = rule })
    (request_in s t p ruled)
unfolding request_in
request_is s t p ruled settings triangles points old older distance rule a b c d e =
    let b' : take (9 * t) triangles ≡ floats_in binary32 s 20 (9 * t) = ap (take (9 * t)) b ∙ take_overwrite (9 * t) _ old (length_singles _ (9 * t)) in
    let c' : take (3 * p) points ≡ floats_in binary32 s (points_start t) (3 * p) = ap (take (3 * p)) c
    ∙ take_overwrite (3 * p) _ older (length_singles _ (3 * p)) in
    λ i. record { settings = a i; triangles = b' i; points = c' i; distance = d i; rule = e i }
