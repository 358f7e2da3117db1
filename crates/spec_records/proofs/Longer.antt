-- What is read of bytes stays as it was when more bytes are put behind them: a number, floats, a right record.
use mathlib.Core.Path.{◌≡◌, ap, ◌∙◌}
use mathlib.Core.List.{List, [], ◌∷◌, ◌++◌}
use mathlib.Core.Bool.{Bool}
use Prim.Native.Nat.{ℕ, ◌+◌, ◌*◌, ◌≤◌}
use native.Mathlib.Omega.{arith}
use lib.ListN.{length, drop, length-append, length-drop}
use lib.Seq.{take-append-le, drop-append-le}
use lib.Ieee.{Format, of_bits}
use Rattle.spec_tables.specs.Tables.{slice}
use Rattle.spec_tables.proofs.Tables.{concat_map_same}
use Rattle.spec_tables.proofs.Pieces.{piece_within}
use Rattle.spec_records.specs.Little.{of_little, little_at}
use Rattle.spec_records.specs.Entries.{float_size, floats_in}
use Rattle.spec_records.specs.Records.{size_at}
use Rattle.spec_records.proofs.Records.{RightRecord, record_there, record_kind, right_within}

module _ (s more : List ℕ) where
  -- a slice
  pub slice_longer : (at w : ℕ) → at + w ≤ length s → slice (s ++ more) at w ≡ slice s at w
  slice_longer at w h =
      let a : at ≤ length s = omega arith in
      let b : w ≤ length (drop at s) = simp length-drop (omega arith) in
      rw (drop-append-le at s more a) (take-append-le w (drop at s) more b)

  -- a number
  pub number_longer : (w at : ℕ) → at + w ≤ length s → little_at w (s ++ more) at ≡ little_at w s at
  unfolding little_at
  number_longer w at h = ap of_little (slice_longer at w h)

  -- floats
  pub floats_longer : (f : Format) (start n : ℕ) → start + float_size f * n ≤ length s → floats_in f (s ++ more) start n ≡ floats_in f s start n
  floats_longer f start n h =
      concat_map_same _ (λ i. of_bits f (little_at (float_size f) s (start + float_size f * i)) ∷ []) n
      (λ i l. ap (λ (k : ℕ). of_bits f k ∷ [])
      (number_longer (float_size f) (start + float_size f * i) (omega (arith, piece_within (float_size f) n i l))))

  -- a right record
  pub right_longer : {kind at size : ℕ} {test : List ℕ → Bool} → RightRecord kind test s at size → RightRecord kind test (s ++ more) at size
  right_longer {kind} {at} {size} {test} r =
      let within = right_within r in
      let sized : size_at (s ++ more) at ≡ size = number_longer 4 at (omega arith) ∙ r.sized in
      record {
        there = record_there kind (s ++ more) at (rw (sized, length-append) (omega arith))
            (number_longer 2 (at + 4) (omega arith) ∙ record_kind kind s at r.there);
        sized = sized;
        passes = rw (slice_longer (at + 6) size within) r.passes;
      }
