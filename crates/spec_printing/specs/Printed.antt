-- What `gauge` prints, as bytes: numbers, words and the four kinds of line.
use Rattle.std.specs.Prelude.{ℕ, zero, suc, ◌+◌, ◌/◌, ◌%◌, List, [], ◌∷◌, ◌++◌, cond, ltb}

-- ---- numbers
-- the character of a digit: 0 to 9, a to f
unfoldable pub digit : ℕ → ℕ
digit d = cond (ltb d 10) (48 + d) (87 + d)

-- the lowest k digits of n in a base, the highest first
unfoldable pub digits : ℕ → ℕ → ℕ → List ℕ
digits base zero n = []
digits base (suc k) n = digits base k (n / base) ++ (digit (n % base) ∷ [])

-- how many decimal digits n has; the first number bounds the turns
unfoldable pub width_in : ℕ → ℕ → ℕ
width_in zero n = 1
width_in (suc turns) n = cond (ltb n 10) 1 (suc (width_in turns (n / 10)))

-- n turns are enough: a number above zero has no more digits than its value
abbrev pub width : ℕ → ℕ
width n = width_in n n

-- without leading zeros
unfoldable pub decimal : ℕ → List ℕ
decimal n = digits 10 (width n) n

-- eight digits
unfoldable pub hex : ℕ → List ℕ
hex n = digits 16 8 n

-- ---- the parts of a line, with one space between them
unfoldable pub spaced_decimal : ℕ → List ℕ
spaced_decimal n = 32 ∷ decimal n

unfoldable pub spaced_hex : ℕ → List ℕ
spaced_hex n = 32 ∷ hex n

-- a word, and a number behind it
unfoldable pub named : List ℕ → ℕ → List ℕ
named word n = word ++ spaced_decimal n

abbrev pub line_feed : List ℕ
line_feed = 10 ∷ []

-- "triangles", " nodes", " depth", " found", " nothing", "refused"
unfoldable pub triangles_word : List ℕ
triangles_word = 116 ∷ 114 ∷ 105 ∷ 97 ∷ 110 ∷ 103 ∷ 108 ∷ 101 ∷ 115 ∷ []

unfoldable pub nodes_word : List ℕ
nodes_word = 32 ∷ 110 ∷ 111 ∷ 100 ∷ 101 ∷ 115 ∷ []

unfoldable pub depth_word : List ℕ
depth_word = 32 ∷ 100 ∷ 101 ∷ 112 ∷ 116 ∷ 104 ∷ []

unfoldable pub found_word : List ℕ
found_word = 32 ∷ 102 ∷ 111 ∷ 117 ∷ 110 ∷ 100 ∷ []

unfoldable pub nothing_word : List ℕ
nothing_word = 32 ∷ 110 ∷ 111 ∷ 116 ∷ 104 ∷ 105 ∷ 110 ∷ 103 ∷ []

unfoldable pub refused_word : List ℕ
refused_word = 114 ∷ 101 ∷ 102 ∷ 117 ∷ 115 ∷ 101 ∷ 100 ∷ []

-- ---- the lines
-- the line of a tree: its triangles, nodes and depth
unfoldable pub counts_line : ℕ → ℕ → ℕ → List ℕ
counts_line triangles nodes depth = named triangles_word triangles ++ named nodes_word nodes ++ named depth_word depth ++ line_feed

-- what was found, with the part that was hit; point and squared distance as bits
pub record Found : Type 0 where
  pub triangle : ℕ
  pub x : ℕ
  pub y : ℕ
  pub z : ℕ
  pub squared : ℕ
  pub part : ℕ

-- the line of a point at which a triangle was found
unfoldable pub found_line : ℕ → Found → List ℕ
found_line point found =
    decimal point ++ named found_word found.triangle
    ++ spaced_hex found.x ++ spaced_hex found.y ++ spaced_hex found.z ++ spaced_hex found.squared ++ spaced_decimal found.part
    ++ line_feed

-- it takes no more bytes than these, of numbers of 64 bits: point, triangle and part, four words of bits
abbrev pub longest_found : ℕ
longest_found = 105

-- the line of a point at which nothing was found
unfoldable pub nothing_line : ℕ → List ℕ
nothing_line point = decimal point ++ nothing_word ++ line_feed

-- the line of a refusal: its number and place
unfoldable pub refused_line : ℕ → ℕ → List ℕ
refused_line number place = named refused_word number ++ spaced_decimal place ++ line_feed
