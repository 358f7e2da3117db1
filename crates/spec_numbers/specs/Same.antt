-- Whether two floats are the same bit for bit, as the tree check compares boxes: +0 and -0 differ, and a NaN is the same as itself.
use Rattle.std.specs.Prelude.{Bool, true, false, ◌&&◌, eqb, ℤ, pos, negsuc, Float}
use Rattle.std.specs.Bool.{beq}
use Rattle.std.specs.Float.{nan, inf, fin}

-- the same exponent
abbrev pub same_whole : ℤ → ℤ → Bool
same_whole (pos m) (pos n) = eqb m n
same_whole (pos m) (negsuc n) = false
same_whole (negsuc m) (pos n) = false
same_whole (negsuc m) (negsuc n) = eqb m n

-- the same kind, sign, digits and exponent
unfoldable pub same : Float → Float → Bool
same nan nan = true
same nan (inf t) = false
same nan (fin t n k) = false
same (inf s) nan = false
same (inf s) (inf t) = beq s t
same (inf s) (fin t n k) = false
same (fin s m e) nan = false
same (fin s m e) (inf t) = false
same (fin s m e) (fin t n k) = beq s t && eqb m n && same_whole e k
