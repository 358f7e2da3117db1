-- A table of worked examples: what the definitions work out, beside what the scope document gives.
use Rattle.std.specs.Prelude.{◌≡◌, List, map, ℤ, Float}

-- a float, or a whole number
pub data Shown : Type 0 where
  float : Float → Shown
  whole : ℤ → Shown

pub record Example : Type 0 where
  pub worked : List Shown
  pub given : List Shown

-- each example of the table comes out as the document gives it
abbrev pub AllHold : List Example → Type 0
AllHold table = map (λ (e : Example). e.worked) table ≡ map (λ (e : Example). e.given) table

abbrev pub row : List Float → List Float → Example
row worked given = record { worked = map float worked; given = map float given }
