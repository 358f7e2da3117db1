-- Lists of numbers and of floats as bytes: what was written is read back, and what was read is written back.
use mathlib.Core.Path.{◌≡◌, refl, sym, ap, ◌∙◌, subst}
use mathlib.Core.List.{List, [], ◌∷◌, ◌++◌}
use Prim.Native.Nat.{ℕ, ◌+◌, ◌*◌, ◌^◌, ◌≤◌, ◌<◌}
use native.Mathlib.Omega.{arith}
use lib.ListN.{length, get_or}
use lib.Ieee.{Float, nan, Format, binary32, binary64, top, of_bits, to_bits}
use lib.Ieee.Bits.{of_bits-to_bits, to_bits-lt, to_bits-of_bits}
use Rattle.spec_tables.specs.Tables.{concat_map, slice, Remaining}
use Rattle.spec_tables.proofs.Tables.{length_concat_map, concat_map_same}
use Rattle.spec_tables.proofs.Pieces.{piece_within, get_d_slice, concat_map_slices_at, concat_map_get_d, get_d_concat_map, remaining_concat_map}
use Rattle.spec_numbers.specs.Values.{Number}
use Rattle.spec_records.specs.Little.{little, of_little, little_at, Bytes}
use Rattle.spec_records.specs.Entries.{float_size, number_bytes, float_bytes, numbers_in, floats_in, FitBytes, FitFormat, NoNan}
use Rattle.spec_records.proofs.Little.{length_little, little_back, number_back, number_below}

-- an element of a slice that is known one by one
element : {A : Type 0} (d : A) (xs : List A) (from n : ℕ) (g : ℕ → A) → slice xs from n ≡ concat_map (λ j. g j ∷ []) n → (i : ℕ) → i < n
    → get_or xs (from + i) d ≡ g i
element {A} d xs from n g e i l = sym (get_d_slice d xs from n i l) ∙ ap (λ (l : List A). get_or l i d) e ∙ get_d_concat_map d g n i l

-- ---- numbers
-- how many bytes numbers take: the room that writing them needs
pub length_numbers : (w : ℕ) (xs : List ℕ) (from n : ℕ) → length (number_bytes w xs from n) ≡ w * n
length_numbers w xs from n = length_concat_map _ w n (λ i. length_little w _)

-- numbers that fit their bytes are read as they were written
pub numbers_read : (w : ℕ) (xs : List ℕ) (from n : ℕ) (s : List ℕ) (at : ℕ) (rest : List ℕ) → FitBytes w xs from n → from + n ≤ length xs
    → Remaining s at (number_bytes w xs from n ++ rest) → numbers_in w s at n ≡ slice xs from n
unfolding little_at
numbers_read w xs from n s at rest ok room h =
    concat_map_same _ (λ i. get_or xs (from + i) 0 ∷ []) n
    (λ i l. ap (λ (b : List ℕ). of_little b ∷ []) (remaining_concat_map _ w n s at rest (λ j. length_little w _) h i l)
    ∙ ap (λ (k : ℕ). k ∷ []) (little_back w (get_or xs (from + i) 0) (ok i l)))
    ∙ concat_map_get_d 0 xs from n room

-- numbers that were read from bytes are written as the same bytes
pub numbers_written : (w : ℕ) (xs : List ℕ) (from : ℕ) (s : List ℕ) (at n : ℕ) → Bytes s → at + w * n ≤ length s → slice xs from n ≡ numbers_in w s at n
    → number_bytes w xs from n ≡ slice s at (w * n)
numbers_written w xs from s at n ok room e =
    concat_map_same _ (λ i. slice s (at + w * i) w) n
    (λ i l.
    let m : w * i + w ≤ w * n = piece_within w n i l in
    ap (little w) (element 0 xs from n (λ j. little_at w s (at + w * j)) e i l) ∙ number_back w s (at + w * i) ok (omega arith))
    ∙ concat_map_slices_at w s at n

-- ---- floats
-- how many bytes floats take: the room that writing them needs
pub length_floats : (f : Format) (xs : List Float) (from n : ℕ) → length (float_bytes f xs from n) ≡ float_size f * n
length_floats f xs from n = length_concat_map _ (float_size f) n (λ i. length_little (float_size f) _)

-- the patterns of a format are the numbers of its bytes
patterns : (f : Format) → 2 * top f ≡ 256 ^ float_size f
patterns binary32 = refl
patterns binary64 = refl

-- floats of the format are read as they were written, a NaN as a NaN
pub floats_read : (f : Format) (xs : List Float) (from n : ℕ) (s : List ℕ) (at : ℕ) (rest : List ℕ) → FitFormat f xs from n → from + n ≤ length xs
    → Remaining s at (float_bytes f xs from n ++ rest) → floats_in f s at n ≡ slice xs from n
unfolding little_at
floats_read f xs from n s at rest ok room h =
    concat_map_same _ (λ i. get_or xs (from + i) nan ∷ []) n
    (λ i l.
    let x : Float = get_or xs (from + i) nan in
    let small : to_bits f x < 256 ^ float_size f = subst (λ (k : ℕ). to_bits f x < k) (patterns f) (to_bits-lt f x (ok i l)) in
    ap (λ (b : List ℕ). of_bits f (of_little b) ∷ []) (remaining_concat_map _ (float_size f) n s at rest (λ j. length_little (float_size f) _) h i l)
    ∙ ap (λ (k : ℕ). of_bits f k ∷ []) (little_back (float_size f) (to_bits f x) small)
    ∙ ap (λ (y : Float). y ∷ []) (of_bits-to_bits f x (ok i l)))
    ∙ concat_map_get_d nan xs from n room

-- floats that were read from bytes are written as the same bytes; not NaNs, since a NaN has many patterns and is written as one
pub floats_written : (f : Format) (xs : List Float) (from : ℕ) (s : List ℕ) (at n : ℕ) → Bytes s → at + float_size f * n ≤ length s → NoNan xs (from + n)
    → slice xs from n ≡ floats_in f s at n → float_bytes f xs from n ≡ slice s at (float_size f * n)
floats_written f xs from s at n ok room numbers e =
    concat_map_same _ (λ i. slice s (at + float_size f * i) (float_size f)) n
    (λ i l.
    let m : float_size f * i + float_size f ≤ float_size f * n = piece_within (float_size f) n i l in
    let p : ℕ = little_at (float_size f) s (at + float_size f * i) in
    let is : get_or xs (from + i) nan ≡ of_bits f p = element nan xs from n (λ j. of_bits f (little_at (float_size f) s (at + float_size f * j))) e i l in
    let small : p < 2 * top f = subst (λ (k : ℕ). p < k) (sym (patterns f)) (number_below (float_size f) s (at + float_size f * i) ok (omega arith)) in
    ap (λ (x : Float). little (float_size f) (to_bits f x)) is
    ∙ ap (little (float_size f)) (to_bits-of_bits f p small (subst Number is (numbers (from + i) (omega arith))))
    ∙ number_back (float_size f) s (at + float_size f * i) ok (omega arith))
    ∙ concat_map_slices_at (float_size f) s at n
