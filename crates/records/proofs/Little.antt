-- Numbers in bytes, one byte a turn, the lowest first: how they are read and how they are written.
use mathlib.Core.Path.{◌≡◌, refl, sym, ap, ◌∙◌}
use mathlib.Core.List.{List, [], ◌∷◌, ◌++◌}
use Prim.Native.Nat.{ℕ, zero, suc, ◌+◌, ◌*◌, ◌/◌, ◌%◌, ◌^◌, ◌≤◌, ◌<◌}
use native.Mathlib.Nat.{pow-suc, pow-succ', pow-le-pow_right, div-one, div-div-eq-div-mul}
use native.Mathlib.Numerals.{add-one}
use native.Mathlib.Omega.{arith}
use lib.ListN.{length, get_or, take, drop, length-drop}
use lib.Seq.{get_or-drop}
use Rattle.std.proofs.Common.{Fits, w8}
use Rattle.spec_tables.specs.Tables.{overwrite, concat_map, Put}
use Rattle.spec_tables.proofs.Runs.{Run, run_end}
use Rattle.spec_records.specs.Little.{little, of_little, little_at, Bytes}
use Rattle.spec_records.proofs.Little.{length_little, number_below}

-- ---- read
-- what stands in a slice of u8 are bytes
pub are_bytes : (s : List ℕ) → ((i : ℕ) → Fits w8 (get_or s i 0)) → Bytes s
are_bytes s fit = record { below = λ i. omega (arith, fit i) }

-- one byte more: the last counts by its place
last_counts : (k : ℕ) (bytes : List ℕ) → k < length bytes → of_little (take (suc k) bytes) ≡ of_little (take k bytes) + 256 ^ k * get_or bytes k 0
unfolding of_little
last_counts k [] h = omega arith
last_counts zero (b ∷ bytes) h = omega arith
last_counts (suc k) (b ∷ bytes) h = rw pow-suc (omega (arith, last_counts k bytes (omega arith)))

-- a byte that is shifted to its place
shifted : (k b : ℕ) → k < 4 → b < 256 → b * 2 ^ (8 * k) % 4294967296 ≡ 256 ^ k * b
shifted zero b h small = omega arith
shifted (suc zero) b h small = omega arith
shifted (suc (suc zero)) b h small = omega arith
shifted (suc (suc (suc zero))) b h small = omega arith
shifted (suc (suc (suc (suc k)))) b h small = absurd (omega arith)

-- before the first turn no byte is read
pub read_start : (s : List ℕ) (at : ℕ) → 0 ≡ little_at 0 s at
unfolding little_at of_little
read_start s at = refl

-- a turn reads the byte behind those that were read
pub read_more : (k at : ℕ) (s : List ℕ) → Bytes s → k < 4 → at + k < length s
    → little_at k s at + get_or s (at + k) 0 * 2 ^ (8 * k) % 4294967296 ≡ little_at (k + 1) s at
unfolding little_at
read_more k at s bytes few inside =
    let rest : k < length (drop at s) = simp length-drop (omega arith) in
    let here : get_or (drop at s) k 0 ≡ get_or s (at + k) 0 = get_or-drop at s k 0 in
    rw (shifted k (get_or s (at + k) 0) few (bytes.below (at + k)), add-one) (sym (rw here at (last_counts k (drop at s) rest)))

-- it still fits 32 bits
pub read_small : (k at : ℕ) (s : List ℕ) → Bytes s → k < 4 → at + k < length s → little_at (k + 1) s at < 4294967296
read_small k at s bytes few inside =
    let four : k + 1 ≤ 4 = omega arith in
    let most : 256 ^ (k + 1) ≤ 256 ^ 4 = pow-le-pow_right {n = 256} (omega arith) four in
    omega (arith, number_below (k + 1) s at bytes (omega arith))

-- ---- written
-- one byte more: the last is the lowest of what the others left
little_last : (w n : ℕ) → little (suc w) n ≡ little w n ++ (n / 256 ^ w % 256 ∷ [])
unfolding little
little_last zero n = ap (λ (k : ℕ). k % 256 ∷ []) (sym (div-one n))
little_last (suc w) n =
    let same : n / 256 / 256 ^ w ≡ n / 256 ^ suc w = div-div-eq-div-mul n 256 (256 ^ w) ∙ ap (λ (p : ℕ). n / p) (sym (pow-succ' 256 w)) in
    ap (λ (l : List ℕ). n % 256 ∷ l) (little_last w (n / 256) ∙ ap (λ (k : ℕ). little w (n / 256) ++ (k % 256 ∷ [])) same)

little_bytes : (w n : ℕ) → concat_map (λ j. n / 256 ^ j % 256 ∷ []) w ≡ little w n
unfolding concat_map little
little_bytes zero n = refl
little_bytes (suc w) n = ap (λ (l : List ℕ). l ++ (n / 256 ^ w % 256 ∷ [])) (little_bytes w n) ∙ sym (little_last w n)

-- a turn leaves what stands above the byte that it wrote
pub rest_more : (n k : ℕ) → n / 256 ^ k / 256 ≡ n / 256 ^ (k + 1)
rest_more n k = div-div-eq-div-mul n (256 ^ k) 256 ∙ ap (λ (p : ℕ). n / p) (sym (pow-suc 256 k) ∙ ap (λ (e : ℕ). 256 ^ e) (sym (add-one k)))

-- after the last turn the number is put
pub bytes_end : (n at size : ℕ) (old out : List ℕ) (i : ℕ) → at + size ≤ length old → size ≤ i → Run (λ j. n / 256 ^ j % 256 ∷ []) at size old out i
    → Put at (little size n) old out (at + size)
bytes_end n at size old out i room l r =
    record {
      written = run_end (λ j. n / 256 ^ j % 256 ∷ []) at size old out i l r ∙ ap (λ (new : List ℕ). overwrite at new old) (little_bytes size n);
      behind = ap (λ (k : ℕ). at + k) (sym (length_little size n));
      within = room;
    }
