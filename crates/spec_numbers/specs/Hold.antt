-- The smaller and the larger of two numbers, as the source's `min2` and `max2` pick them, and a number held into an interval (clamped):
-- raised to its lower end, then lowered to its upper end, as the sure query does it.
use Rattle.std.specs.Prelude.{cond, Float}
use Rattle.std.specs.Float.Ieee.{lt}

-- of two that are equal, as +0 and -0 are, `min2` and `max2` keep the first
abbrev pub smaller : Float → Float → Float
smaller a b = cond (lt b a) b a

abbrev pub larger : Float → Float → Float
larger a b = cond (lt a b) b a

abbrev pub raise : Float → Float → Float
raise lo x = larger x lo

abbrev pub lower : Float → Float → Float
lower hi x = smaller x hi

-- raised, then lowered: the other order differs where the interval is empty
abbrev pub held : Float → Float → Float → Float
held lo hi x = lower hi (raise lo x)
