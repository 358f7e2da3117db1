-- The measuring rule of a sure query: whether what is exactly at the search distance counts. Parts that were gauged under the first rule keep it.
use Rattle.std.specs.Prelude.{Bool, not, cond, ◌||◌, ℕ, eqb, Float}
use Rattle.std.specs.Float.{Format}
use Rattle.std.specs.Float.Ieee.{mul, lt, le}
use Rattle.spec_lists.specs.Refusals.{Verdict, refused_if}

pub data Rule : Type 0 where
  strictly_below : Rule
  below_or_equal : Rule

-- the rule of a number: 1 is strictly below, 2 below or equal, and there is no other
unfoldable pub rule_of : ℕ → Rule
rule_of number = cond (eqb number 2) below_or_equal strictly_below

-- 5: a number other than 1 and 2
unfoldable pub rule_refusal : ℕ → Verdict
rule_refusal number = refused_if (not (eqb number 1 || eqb number 2)) 5 0

-- the limit squared, and the rule by which it is read
pub record Limit : Type 0 where
  pub rule : Rule
  pub squared : Float

-- the distance times itself, rounded
unfoldable pub limit_squared : Format → Float → Float
limit_squared f distance = mul f distance distance

abbrev pub limit_of : Format → Rule → Float → Limit
limit_of f rule distance = record { rule = rule; squared = limit_squared f distance }

abbrev pub counts_by : Rule → Float → Float → Bool
counts_by strictly_below squared d = lt d squared
counts_by below_or_equal squared d = le d squared

-- a squared distance counts, a triangle's and a box's alike
unfoldable pub counts : Limit → Float → Bool
counts limit d = counts_by limit.rule limit.squared d
