-- Which bit patterns are a NaN's, by one comparison with an infinity's: those above it read as the NaN, the others as numbers.
-- Code reads and writes bits by these tests.
use mathlib.Core.Path.{◌≡◌, refl, sym, subst, ◌∙◌}
use mathlib.Core.Bool.{Bool, not}
use Prim.Native.Nat.{ℕ, ◌*◌, ◌%◌, ◌≤◌, ◌<◌}
use lib.Dec.{T, lt→ltb}
use lib.Arith.{le→nltb}
use lib.Ieee.{Float, nan, inf, fin, Format, binary32, binary64, is_nan, ne, div, hid, ones, top, nan_bits, of_bits}
use lib.Ieee.Bits.{nan_bits_above, nan_bits_is}
use Rattle.spec_numbers.specs.Values.{Number}

nan_is : (x : Float) → T (is_nan x) → nan ≡ x
unfolding is_nan
nan_is nan h = refl
nan_is (inf _) h = elim h [ ]
nan_is (fin _ _ _) h = elim h [ ]

module _ (f : Format) (b : ℕ) where
  -- a pattern that is above infinity's, sign left out, reads as the NaN
  pub reads_as_nan : ones f * hid f < b % top f → nan ≡ of_bits f b
  reads_as_nan h = nan_is (of_bits f b) (subst T (sym (nan_bits_above f b) ∙ nan_bits_is f b) (lt→ltb _ _ h))

  -- any other pattern is no NaN's
  pub reads_as_number : b % top f ≤ ones f * hid f → T (not (nan_bits f b))
  reads_as_number h = subst (λ (t : Bool). T (not t)) (sym (nan_bits_above f b)) (le→nltb _ _ h)

-- zero over zero is the NaN: code makes it so
pub nought_over_nought : (f : Format) → div f (of_bits f 0) (of_bits f 0) ≡ nan
unfolding div of_bits
nought_over_nought binary32 = refl
nought_over_nought binary64 = refl

-- what does not differ from itself is a number: the test for a NaN in code
pub same_is_number : (x : Float) → T (not (ne x x)) → Number x
unfolding ne is_nan
same_is_number (inf s) h = tt
same_is_number (fin s m e) h = tt
same_is_number nan h = elim h [ ]
