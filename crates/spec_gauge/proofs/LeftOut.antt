-- A rule that is left out is the first: an input prints the same with record 7 put behind it that tells 1.
use mathlib.Core.Path.{◌≡◌, sym, ap, ◌∙◌}
use mathlib.Core.List.{List, [], ◌∷◌, ◌++◌}
use mathlib.Core.Bool.{true, false}
use Prim.Native.Nat.{ℕ, ◌+◌, ◌*◌, ◌≤◌}
use native.Mathlib.Omega.{arith}
use lib.ListN.{length, length-append}
use lib.Seq.{drop-append_seam, drop-append-add}
use lib.Ieee.{binary32}
use Rattle.spec_tables.specs.Tables.{slice}
use Rattle.spec_records.specs.Little.{little_at, of_little}
use Rattle.spec_records.specs.Records.{bodies, one, exactly, whole, size_at, laid_out}
use Rattle.spec_records.specs.Layouts.{settings_right, triangles_right, rule_wants, query_wants, gauge_wants, points_start, distance_start, gauge_spans}
use Rattle.spec_records.proofs.Records.{RightRecord, record_there, one_back, reach_start, reach_on, reach_wanted, reach_end}
use Rattle.spec_records.proofs.Longer.{slice_longer, number_longer, floats_longer, right_longer}
use Rattle.spec_image.specs.Image.{settings_in}
use Rattle.spec_gauge.specs.Printed.{max_bytes, input_size, request_in, printed_run, printed}
use Rattle.spec_gauge.proofs.Printed.{gauge_long, right_printed}

-- the record that tells 1: two bytes, of kind 7
abbrev pub one_told : List ℕ
one_told = 2 ∷ 0 ∷ 0 ∷ 0 ∷ 7 ∷ 0 ∷ 1 ∷ 0 ∷ []

module _ (s : List ℕ) where
  abbrev told : List ℕ
  told = s ++ one_told

  told_long : length told ≡ length s + 8
  told_long = length-append s one_told

  one_record : RightRecord 7 (exactly 2) told (length s) 2
  unfolding little_at of_little
  one_record =
      let sized : size_at told (length s) ≡ 2 = rw (drop-append_seam s one_told) in
      record {
        there = record_there 7 told (length s) (rw (sized, told_long) (omega arith)) (rw (drop-append-add s one_told 4));
        sized = sized;
        passes = rw (drop-append-add s one_told 6);
      }

  one_read : little_at 2 told (length s + 6) ≡ 1
  unfolding little_at of_little
  one_read = rw (drop-append-add s one_told 6)

module _ (s : List ℕ) (t p : ℕ) (right : laid_out gauge_wants s 0 ≡ bodies (gauge_spans t p false)) where
  long : input_size t p false ≡ length s
  long = gauge_long s t p false right

  told_laid : laid_out gauge_wants (told s) 0 ≡ bodies (gauge_spans t p true)
  unfolding gauge_spans
  told_laid =
      let inside : 14 ≤ length s = omega (arith, long) in
      let end : distance_start t p + 4 ≡ length s = omega (arith, long) in
      let a = one_back 1 settings_right (λ settings. one 2 (triangles_right (little_at 2 settings 0)) query_wants) s 0 _ _ right in
      let b = one_back 2 (triangles_right (little_at 2 (slice s 6 8) 0)) query_wants s 14 _ _ a.onward in
      let c = one_back 5 (whole 12) (λ _. one 6 (exactly 4) (λ _. rule_wants)) s (20 + 36 * t) _ _ b.onward in
      let d = one_back 6 (exactly 4) (λ _. rule_wants) s (20 + 36 * t + 6 + 12 * p) _ _ c.onward in
      let settings = reach_on (reach_start gauge_wants (told s)) (right_longer s one_told a.right) in
      let suited : RightRecord 2 (triangles_right (little_at 2 (slice (told s) 6 8) 0)) (told s) 14 (36 * t) =
      rw (slice_longer s one_told 6 8 inside) (right_longer s one_told b.right) in
      let triangles = reach_on settings suited in
      let distance = reach_on (reach_on triangles (right_longer s one_told c.right)) (right_longer s one_told d.right) in
      let wanted = reach_wanted distance (λ e. omega (arith, e, told_long s, end)) in
      let rule : RightRecord 7 (exactly 2) (told s) (distance_start t p + 4) 2 = rw end (one_record s) in
      reach_end (reach_on wanted rule) (omega (arith, told_long s, end))

  same_request : request_in (told s) t p true ≡ request_in s t p false
  unfolding request_in settings_in
  same_request =
      let inside : 14 ≤ length s = omega (arith, long) in
      let end : distance_start t p + 4 ≡ length s = omega (arith, long) in
      let number = number_longer s one_told in
      let rule : little_at 2 (told s) (distance_start t p + 4 + 6) ≡ 1 = rw end (one_read s) in
      rw (
        number 2 8 (omega arith),
        number 2 10 (omega arith),
        number 2 12 (omega arith),
        floats_longer s one_told binary32 20 (9 * t) (omega (arith, long)),
        floats_longer s one_told binary32 (points_start t) (3 * p) (omega (arith, long)),
        number 4 (distance_start t p) (omega (arith, end)),
        rule,
      )

  -- an input of right layout that tells no rule prints the same with 1 told, where that fits
  pub left_out_is_one : length s + 8 ≤ max_bytes → printed (s ++ one_told) ≡ printed s
  left_out_is_one h =
      let few : length (told s) ≤ max_bytes = rw (told_long s) h in
      sym (right_printed (told s) few t p true told_laid) ∙ ap printed_run same_request ∙ right_printed s (omega arith) t p false right
