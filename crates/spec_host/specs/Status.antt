-- The status, the one number that an exported call answers: done, with a count, or a refusal's number and place.
use Rattle.std.specs.Prelude.{ℕ, ◌+◌, ◌*◌, ◌-◌, ◌/◌, ◌%◌, ◌^◌, ◌≤◌, ◌<◌, ◌≡◌, cond, eqb, leb, ltb}
use Rattle.spec_lists.specs.Refusals.{Verdict, passes, refused}

-- the place of an 8 may be the length of a list, so it has all bits but the top one; any other stands below its number, in the top byte
unfoldable pub refusal_status : (number place : ℕ) → ℕ
refusal_status number place = cond (eqb number 8) (2 ^ 63 + place) (number * 2 ^ 56 + place)

-- a call that is done answers its count
abbrev pub status : Verdict → (count : ℕ) → ℕ
status passes count = count
status (refused number place) count = refusal_status number place

-- the place of an 11 may be the length of a slice too, and has 56 bits: a longer slice, which no machine can address, is told as the largest place
-- that they hold
abbrev pub told_place : (place : ℕ) → ℕ
told_place place = cond (ltb place (2 ^ 56)) place (2 ^ 56 - 1)

-- the verdict of a call that tells such a place, and no 8
abbrev pub saturated : Verdict → Verdict
saturated passes = passes
saturated (refused number place) = refused number (told_place place)

-- ---- how a host decodes it
-- the refusal's number; 0 where the call is done
unfoldable pub status_number : ℕ → ℕ
status_number n = cond (leb (2 ^ 63) n) 8 (n / 2 ^ 56)

-- the refusal's place
unfoldable pub status_place : ℕ → ℕ
status_place n = cond (leb (2 ^ 63) n) (n - 2 ^ 63) (n % 2 ^ 56)

-- the count, where the call is done
unfoldable pub status_count : ℕ → ℕ
status_count n = n % 2 ^ 56

-- ---- what can be encoded
-- the places of a refusal with this number stay below this limit
abbrev pub places_of : (number : ℕ) → ℕ
places_of number = cond (eqb number 8) (2 ^ 63) (2 ^ 56)

pub record Placed (number place : ℕ) : Type 0 where
  pub some : 1 ≤ number
  pub most : number ≤ 127
  pub near : place < places_of number

abbrev pub InPlace : Verdict → Type 0
InPlace passes = Unit {0}
InPlace (refused number place) = Placed number place

-- the verdict's place and the count have bits enough in the status
pub record Encodable (v : Verdict) (count : ℕ) : Type 0 where
  pub verdict : InPlace v
  pub counted : count < 2 ^ 56

-- ---- what is decoded is what was encoded
abbrev pub Decoded : Verdict → (count : ℕ) → ℕ → Type 0
Decoded passes count n = (status_number n ≡ 0) × (status_count n ≡ count)
Decoded (refused number place) count n = (status_number n ≡ number) × (status_place n ≡ place)
