-- What is printed, by what was found of the input: a layout that is wrong, one that is right, tests that passed.
use mathlib.Core.Path.{◌≡◌, refl, sym, ap, ◌∙◌}
use mathlib.Core.List.{List, [], ◌∷◌, ◌++◌}
use mathlib.Core.Bool.{Bool, true, false, not}
use Prim.Native.Nat.{ℕ, ◌+◌, ◌*◌, ◌/◌, ◌≤◌, ◌<◌}
use native.Mathlib.Omega.{arith}
use borrow.Author.Tests.{lt-ltb, le-ltb, leb-true, leb-false, ne_eqb}
use lib.Dec.{leb, ltb}
use lib.ListN.{length}
use Rattle.spec_records.specs.Records.{bodies, wrong, done, one, exactly, whole, size_at, is_right, laid_out}
use Rattle.spec_tables.specs.Tables.{slice}
use Rattle.spec_records.specs.Little.{little_at}
use Rattle.spec_records.specs.Layouts.{Shape, version1, settings_right, triangles_right, rule_wants, query_wants, gauge_wants, distance_start, rule_spans, gauge_spans}
use Rattle.spec_records.proofs.Little.{number_slice}
use Rattle.spec_records.proofs.Records.{record_past, none_there, one_back, done_back, left_out_back, optional_back}
use Rattle.spec_records.proofs.Layouts.{version_small, settings_right_lem, triangles_suit, triangles_wrong, few_in_version2}
use Rattle.spec_printing.specs.Printed.{refused_line}
use Rattle.spec_image.specs.Writing.{leaf_refusal}
use Rattle.spec_lists.specs.Refusals.{passes, refused, refused_if, first_refusal, triangles_refusal, are_settings, settings_refusal, points_refusal, distance_refusal}
use Rattle.spec_lists.proofs.Verdicts.{all_pass}
use Rattle.spec_search.specs.Rules.{strictly_below, rule_of, rule_refusal}
use Rattle.spec_gauge.specs.Printed.{max_bytes, input_size, max_gauged, Request, request_in, request_refusal, tree_line, answer_lines, printed_run, by_layout, printed}

-- ---- the layout
-- an input of right layout is as long as its counts say
pub gauge_long : (s : List ℕ) (t p : ℕ) (ruled : Bool) → laid_out gauge_wants s 0 ≡ bodies (gauge_spans t p ruled) → input_size t p ruled ≡ length s
unfolding gauge_spans
gauge_long s t p ruled e =
    let a = one_back 1 settings_right (λ settings. one 2 (triangles_right (little_at 2 settings 0)) query_wants) s 0 _ _ e in
    let b = one_back 2 (triangles_right (little_at 2 (slice s 6 8) 0)) query_wants s 14 _ _ a.onward in
    let c = one_back 5 (whole 12) (λ _. one 6 (exactly 4) (λ _. rule_wants)) s (20 + 36 * t) _ _ b.onward in
    let d = one_back 6 (exactly 4) (λ _. rule_wants) s (20 + 36 * t + 6 + 12 * p) _ _ c.onward in
    go ruled d.onward
  where
    go : (ruled : Bool) → laid_out rule_wants s (distance_start t p + 4) ≡ bodies (rule_spans t p ruled) → input_size t p ruled ≡ length s
    go false e = omega (arith, left_out_back 7 (exactly 2) (λ _. done) s (distance_start t p + 4) e)
    go true e =
        let f = optional_back 7 (exactly 2) (λ _. done) s (distance_start t p + 4) _ [] e in
        omega (arith, done_back s (distance_start t p + 4 + 6 + 2) [] f.onward)

-- 909 triangles and a rule just fit
pub full_with_rule : input_size max_gauged 0 true ≡ max_bytes
full_with_rule = refl

-- an input of right layout is of version 1: so few triangles are kept in no other
pub gauge_version : (s : List ℕ) (t p : ℕ) (ruled : Bool) → length s ≤ max_bytes → laid_out gauge_wants s 0 ≡ bodies (gauge_spans t p ruled)
    → little_at 2 s 6 ≡ 1
unfolding gauge_spans
gauge_version s t p ruled few e =
    let two : 2 ≤ 8 = omega arith in
    let a = one_back 1 settings_right (λ settings. one 2 (triangles_right (little_at 2 settings 0)) query_wants) s 0 _ _ e in
    let b = one_back 2 (triangles_right (little_at 2 (slice s 6 8) 0)) query_wants s 14 _ _ a.onward in
    let small : 36 * t / 36 ≤ 4096 = omega (arith, gauge_long s t p ruled e) in
    sym (number_slice 2 s 6 8 two) ∙ sym (triangles_suit (little_at 2 (slice s 6 8) 0) s 14 b.right)
    ∙ ap (λ (sh : Shape). sh.version) (version_small (36 * t / 36) small)

-- an input over the maximum size is refused with 10 at place 0, unread
pub too_long : (s : List ℕ) → max_bytes < length s → refused_line 10 0 ≡ printed s
unfolding printed
too_long s h = rw (lt-ltb max_bytes (length s) h)

module _ (s : List ℕ) (h : length s ≤ max_bytes) where
  short : ltb max_bytes (length s) ≡ false
  short = le-ltb max_bytes (length s) h

  -- a wrong layout prints its refusal, 10 at its place
  pub wrong_printed : (at : ℕ) → laid_out gauge_wants s 0 ≡ wrong at → refused_line 10 at ≡ printed s
  unfolding printed
  wrong_printed at e = rw (short, e)

  -- a version 2 of the settings is refused with 10 at 14, the place of the triangles: there is no room for as many as it keeps
  pub version2_printed : is_right 1 settings_right s 0 ≡ true → little_at 2 s 6 ≡ 2 → refused_line 10 14 ≡ printed s
  version2_printed settings two = wrong_printed 14 (go (leb (20 + size_at s 14) (length s)) refl)
    where
      go : (inside : Bool) → leb (20 + size_at s 14) (length s) ≡ inside → laid_out gauge_wants s 0 ≡ wrong 14
      go true e = few_in_version2 query_wants s settings two (omega (arith, leb-true (20 + size_at s 14) (length s) e))
      go false e =
          triangles_wrong query_wants (settings_right_lem s settings)
          (none_there 2 (triangles_right (little_at 2 s 6)) s 14 (record_past 2 s 14 (leb-false (20 + size_at s 14) (length s) e)))

  -- a right layout prints the run of the request that it holds
  pub right_printed : (t p : ℕ) (ruled : Bool) → laid_out gauge_wants s 0 ≡ bodies (gauge_spans t p ruled) → printed_run (request_in s t p ruled) ≡ printed s
  unfolding printed gauge_spans
  right_printed t p ruled e = rw (short, e) (go ruled)
    where
      go : (ruled : Bool) → printed_run (request_in s t p ruled) ≡ by_layout s (bodies (gauge_spans t p ruled))
      go false =
          let a : 36 * t / 36 ≡ t = omega arith in
          let b : 12 * p / 12 ≡ p = omega arith in
          rw (a, b)
      go true =
          let a : 36 * t / 36 ≡ t = omega arith in
          let b : 12 * p / 12 ≡ p = omega arith in
          rw (a, b)

-- ---- the tests
-- a request that is refused prints its refusal and nothing else
pub refused_printed : (a : Request) (number place : ℕ) → request_refusal a ≡ refused number place → refused_line number place ≡ printed_run a
unfolding printed_run
refused_printed a number place e = rw e

-- a request that passed prints the tree's counts and a line a point
pub passed_printed : (a : Request) → request_refusal a ≡ passes
    → tree_line a.triangles a.settings ++ answer_lines a.triangles a.points a.distance a.rule ≡ printed_run a
unfolding printed_run
passed_printed a e = rw e

-- ---- 5
-- a leaf minimum that version 1 does not keep is refused as 5, whatever the other settings
pub large_leaf_refused : (a : Request) → triangles_refusal a.triangles ≡ passes → 4096 < a.settings.leaf_minimum → request_refusal a ≡ refused 5 0
unfolding request_refusal first_refusal settings_refusal leaf_refusal
large_leaf_refused a t large = rw (t, lt-ltb 4096 a.settings.leaf_minimum large) (go (not (are_settings a.settings)))
  where
    go : (b : Bool) → first_refusal (refused_if b 5 0 ∷ refused 5 0 ∷ rule_refusal a.rule ∷ points_refusal a.points ∷ distance_refusal a.distance ∷ [])
        ≡ refused 5 0
    go true = refl
    go false = refl

-- a rule other than 1 and 2 is refused as 5, whatever the settings, the points and the distance
pub other_rule_refused : (a : Request) → triangles_refusal a.triangles ≡ passes → (a.rule ≡ 1 → ⊥) → (a.rule ≡ 2 → ⊥) → request_refusal a ≡ refused 5 0
unfolding request_refusal first_refusal settings_refusal leaf_refusal rule_refusal
other_rule_refused a t first second =
    rw (t, ne_eqb a.rule 1 first, ne_eqb a.rule 2 second) (go (not (are_settings a.settings)) (ltb 4096 a.settings.leaf_minimum))
  where
    go : (b c : Bool) → first_refusal (refused_if b 5 0 ∷ refused_if c 5 0 ∷ refused 5 0 ∷ points_refusal a.points ∷ distance_refusal a.distance ∷ [])
        ≡ refused 5 0
    go true c = refl
    go false true = refl
    go false false = refl

-- an input that tells no rule is gauged strictly below the distance, as it was before there was another
pub left_out_is_strict : (s : List ℕ) (t p : ℕ) → rule_of (request_in s t p false).rule ≡ strictly_below
unfolding request_in rule_of
left_out_is_strict s t p = refl

-- ---- what passed
-- each of the tests
pub record AllPassed (a : Request) : Type 0 where
  pub triangles : triangles_refusal a.triangles ≡ passes
  pub settings : settings_refusal a.settings ≡ passes
  pub leaf : leaf_refusal version1 a.settings ≡ passes
  pub rule : rule_refusal a.rule ≡ passes
  pub points : points_refusal a.points ≡ passes
  pub distance : distance_refusal a.distance ≡ passes

-- a request that passed has passed each of its tests
pub all_passed : (a : Request) → request_refusal a ≡ passes → AllPassed a
unfolding request_refusal
all_passed a e =
    let p = all_pass _ e in
    let q = p.1.1.1 in
    record { triangles = p.0; settings = p.1.0; leaf = p.1.1.0; rule = q.0; points = q.1.0; distance = q.1.1.0 }
