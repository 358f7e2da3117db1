-- Little-endian numbers: what is written is read, what is read is written back, and how code reads and writes two bytes and four.
use mathlib.Core.Path.{◌≡◌, refl, sym, ap, ◌∙◌, subst}
use mathlib.Core.List.{List, [], ◌∷◌, ◌++◌}
use Prim.Native.Nat.{ℕ, zero, suc, ◌+◌, ◌*◌, ◌/◌, ◌%◌, ◌^◌, ◌≤◌, ◌<◌}
use native.Mathlib.Nat.{pow-suc}
use native.Mathlib.Numerals.{add-one}
use native.Mathlib.Omega.{arith}
use lib.ListN.{length, take, drop, get_or, set, length-set}
use lib.Seq.{drop-cons, get_or-drop, take-take}
use Rattle.spec_tables.proofs.Tables.{remaining_front, put_then, put_store}
use Rattle.spec_tables.proofs.Pieces.{length_slice}
use Rattle.spec_tables.specs.Tables.{slice, Remaining, Put}
use Rattle.spec_records.specs.Little.{little, of_little, little_at, Bytes}

-- a number takes as many bytes as its width
pub length_little : (w n : ℕ) → length (little w n) ≡ w
unfolding little
length_little zero n = refl
length_little (suc w) n = ap suc (length_little w (n / 256))

-- a number that fits its width is read back
pub little_back : (w n : ℕ) → n < 256 ^ w → of_little (little w n) ≡ n
unfolding little of_little
little_back zero n h = omega arith
little_back (suc w) n h =
    let k : n < 256 ^ w * 256 = rw pow-suc at h in
    rw (little_back w (n / 256) (omega arith)) (omega arith)

bytes_rest : (b : ℕ) (bs : List ℕ) → Bytes (b ∷ bs) → Bytes bs
bytes_rest b bs h = record { below = λ i. h.below (suc i) }

-- bytes are written back
of_little_back : (bs : List ℕ) → Bytes bs → little (length bs) (of_little bs) ≡ bs
unfolding little of_little
of_little_back [] h = refl
of_little_back (b ∷ bs) h =
    let l : b < 256 = h.below 0 in
    let m : (b + 256 * of_little bs) % 256 ≡ b = omega arith in
    let d : (b + 256 * of_little bs) / 256 ≡ of_little bs = omega arith in
    rw (m, d, of_little_back bs (bytes_rest b bs h))

-- bytes spell a number of their width
pub of_little_below : (bs : List ℕ) → Bytes bs → of_little bs < 256 ^ length bs
unfolding of_little
of_little_below [] h = omega arith
of_little_below (b ∷ bs) h = rw pow-suc (omega (arith, h.below 0, of_little_below bs (bytes_rest b bs h)))

bytes_more : (b : ℕ) (bs : List ℕ) → b < 256 → Bytes bs → Bytes (b ∷ bs)
bytes_more b bs l h = record { below = go }
  where
    go : (i : ℕ) → get_or (b ∷ bs) i 0 < 256
    go zero = l
    go (suc i) = h.below i

bytes_take : (n : ℕ) (s : List ℕ) → Bytes s → Bytes (take n s)
bytes_take zero s h = record { below = λ i. omega arith }
bytes_take (suc n) [] h = record { below = λ i. omega arith }
bytes_take (suc n) (b ∷ s) h = bytes_more b (take n s) (h.below 0) (bytes_take n s (bytes_rest b s h))

-- a slice of bytes has only bytes
pub bytes_slice : (s : List ℕ) (at w : ℕ) → Bytes s → Bytes (slice s at w)
bytes_slice s at w h = bytes_take w (drop at s) (record { below = λ i. rw get_or-drop (h.below (at + i)) })

-- ---- a number at a place of a list

-- a number that was written at a place is read there
pub number_remaining : (w n : ℕ) (s : List ℕ) (at : ℕ) (rest : List ℕ) → n < 256 ^ w → Remaining s at (little w n ++ rest) → little_at w s at ≡ n
unfolding little_at
number_remaining w n s at rest fits h =
    let e : slice s at w ≡ little w n = ap (slice s at) (sym (length_little w n)) ∙ remaining_front s at (little w n) rest h in
    ap of_little e ∙ little_back w n fits

-- a number that was read at a place is written as the same bytes
pub number_back : (w : ℕ) (s : List ℕ) (at : ℕ) → Bytes s → at + w ≤ length s → little w (little_at w s at) ≡ slice s at w
unfolding little_at
number_back w s at h room =
    let e : length (slice s at w) ≡ w = length_slice s at w room in
    ap (λ (k : ℕ). little k (of_little (slice s at w))) (sym e) ∙ of_little_back (slice s at w) (bytes_slice s at w h)

-- a number that was read from w bytes fits them
pub number_below : (w : ℕ) (s : List ℕ) (at : ℕ) → Bytes s → at + w ≤ length s → little_at w s at < 256 ^ w
unfolding little_at
number_below w s at h room =
    let e : length (slice s at w) ≡ w = length_slice s at w room in
    subst (λ (k : ℕ). of_little (slice s at w) < 256 ^ k) e (of_little_below (slice s at w) (bytes_slice s at w h))

-- code reads two bytes one by one
pub two_at : (s : List ℕ) (at : ℕ) → at + 2 ≤ length s → little_at 2 s at ≡ get_or s at 0 + 256 * get_or s (at + 1) 0
unfolding little_at of_little
two_at s at room =
    let a : at < length s = omega arith in
    let b : suc at < length s = omega arith in
    rw (drop-cons s at 0 a, drop-cons s (suc at) 0 b, add-one at) (omega arith)

-- code reads four bytes as two and two
pub four_at : (s : List ℕ) (at : ℕ) → at + 4 ≤ length s → little_at 4 s at ≡ little_at 2 s at + 65536 * little_at 2 s (at + 2)
unfolding little_at of_little
four_at s at room =
    let e : at + 2 ≡ suc (suc at) = omega arith in
    let a : at < length s = omega arith in
    let b : suc at < length s = omega arith in
    let c : suc (suc at) < length s = omega arith in
    let d : suc (suc (suc at)) < length s = omega arith in
    rw (e, drop-cons s at 0 a, drop-cons s (suc at) 0 b, drop-cons s (suc (suc at)) 0 c, drop-cons s (suc (suc (suc at))) 0 d) (omega arith)

-- four bytes are two and two
four_is : (n : ℕ) → little 4 n ≡ little 2 n ++ little 2 (n / 65536)
unfolding little
four_is n =
    let a : n / 256 / 256 ≡ n / 65536 = omega arith in
    let b : n / 256 / 256 / 256 ≡ n / 65536 / 256 = omega arith in
    rw (b, a)

-- code stores two bytes one behind the other
pub two_put : (n at : ℕ) (old : List ℕ) → at + 2 ≤ length old → Put at (little 2 n) old (set (set old at (n % 256)) (at + 1) (n / 256 % 256)) (at + 2)
unfolding little
two_put n at old room =
    let inside : at + 1 < length (set old at (n % 256)) = simp length-set (omega arith) in
    let e : at + 1 + 1 ≡ at + 2 = omega arith in
    subst (Put at (little 2 n) old (set (set old at (n % 256)) (at + 1) (n / 256 % 256))) e
    (put_then (put_store at (n % 256) old (omega arith)) (put_store (at + 1) (n / 256 % 256) (set old at (n % 256)) inside))

-- code puts four bytes as two and two
pub four_put : (n : ℕ) {at middle next : ℕ} {old mid out : List ℕ} → Put at (little 2 n) old mid middle → Put middle (little 2 (n / 65536)) mid out next
    → Put at (little 4 n) old out next
four_put n p q = rw four_is (put_then p q)

-- the first number of a slice is the number at the slice's start
pub number_slice : (w : ℕ) (s : List ℕ) (at size : ℕ) → w ≤ size → little_at w (slice s at size) 0 ≡ little_at w s at
unfolding little_at
number_slice w s at size h = ap of_little (take-take w size (drop at s) h)
