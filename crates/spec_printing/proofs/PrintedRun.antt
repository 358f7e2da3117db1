-- The lines of the printed run in the scope document, and a refusal, come out of the definitions as they are printed there.
use mathlib.Core.Path.{◌≡◌, refl}
use mathlib.Core.List.{[], ◌∷◌}
use Rattle.spec_printing.specs.Printed.{digit, digits, width_in, decimal, hex, spaced_decimal, spaced_hex, named, triangles_word, nodes_word, depth_word, found_word, nothing_word, refused_word, counts_line, found_line, nothing_line, refused_line}

-- the line of the tree: "triangles 2 nodes 3 depth 2"
pub counts_printed : counts_line 2 3 2
    ≡ 116 ∷ 114 ∷ 105 ∷ 97 ∷ 110 ∷ 103 ∷ 108 ∷ 101 ∷ 115 ∷ 32 ∷ 50 ∷ 32 ∷ 110 ∷ 111 ∷ 100 ∷ 101 ∷ 115 ∷ 32 ∷ 51 ∷ 32 ∷ 100 ∷ 101 ∷ 112 ∷ 116 ∷ 104
    ∷ 32 ∷ 50 ∷ 10 ∷ []
unfolding digit digits width_in decimal hex spaced_decimal spaced_hex named triangles_word nodes_word depth_word found_word nothing_word refused_word
    counts_line
    found_line nothing_line refused_line
counts_printed = refl

-- the line of a point with a triangle: "0 found 0 3f800000 00000000 00000000 41a20000 2"
pub found_printed : found_line 0 (record { triangle = 0; x = 1065353216; y = 0; z = 0; squared = 1101135872; part = 2 })
    ≡ 48 ∷ 32 ∷ 102 ∷ 111 ∷ 117 ∷ 110 ∷ 100 ∷ 32 ∷ 48 ∷ 32 ∷ 51 ∷ 102 ∷ 56 ∷ 48 ∷ 48 ∷ 48 ∷ 48 ∷ 48 ∷ 32 ∷ 48 ∷ 48 ∷ 48 ∷ 48 ∷ 48 ∷ 48 ∷ 48 ∷ 48 ∷ 32 ∷ 48 ∷ 48
    ∷ 48 ∷ 48 ∷ 48 ∷ 48 ∷ 48 ∷ 48 ∷ 32 ∷ 52 ∷ 49 ∷ 97 ∷ 50 ∷ 48 ∷ 48 ∷ 48 ∷ 48 ∷ 32 ∷ 50 ∷ 10 ∷ []
unfolding digit digits width_in decimal hex spaced_decimal spaced_hex named triangles_word nodes_word depth_word found_word nothing_word refused_word
    counts_line
    found_line nothing_line refused_line
found_printed = refl

-- "12 found 7 00000001 0000000a 000000ff 12345678 6": each number in its place
pub places_printed : found_line 12 (record { triangle = 7; x = 1; y = 10; z = 255; squared = 305419896; part = 6 })
    ≡ 49 ∷ 50 ∷ 32 ∷ 102 ∷ 111 ∷ 117 ∷ 110 ∷ 100 ∷ 32 ∷ 55 ∷ 32 ∷ 48 ∷ 48 ∷ 48 ∷ 48 ∷ 48 ∷ 48 ∷ 48 ∷ 49 ∷ 32 ∷ 48 ∷ 48 ∷ 48 ∷ 48 ∷ 48 ∷ 48 ∷ 48 ∷ 97 ∷ 32 ∷ 48
    ∷ 48 ∷ 48 ∷ 48 ∷ 48 ∷ 48 ∷ 102 ∷ 102 ∷ 32 ∷ 49 ∷ 50 ∷ 51 ∷ 52 ∷ 53 ∷ 54 ∷ 55 ∷ 56 ∷ 32 ∷ 54 ∷ 10 ∷ []
unfolding digit digits width_in decimal hex spaced_decimal spaced_hex named triangles_word nodes_word depth_word found_word nothing_word refused_word
    counts_line
    found_line nothing_line refused_line
places_printed = refl

-- the line of a point with nothing: "1 nothing"
pub nothing_printed : nothing_line 1
    ≡ 49 ∷ 32 ∷ 110 ∷ 111 ∷ 116 ∷ 104 ∷ 105 ∷ 110 ∷ 103 ∷ 10 ∷ []
unfolding digit digits width_in decimal hex spaced_decimal spaced_hex named triangles_word nodes_word depth_word found_word nothing_word refused_word
    counts_line
    found_line nothing_line refused_line
nothing_printed = refl

-- the line of a refusal: "refused 8 17"
pub refused_printed : refused_line 8 17
    ≡ 114 ∷ 101 ∷ 102 ∷ 117 ∷ 115 ∷ 101 ∷ 100 ∷ 32 ∷ 56 ∷ 32 ∷ 49 ∷ 55 ∷ 10 ∷ []
unfolding digit digits width_in decimal hex spaced_decimal spaced_hex named triangles_word nodes_word depth_word found_word nothing_word refused_word
    counts_line
    found_line nothing_line refused_line
refused_printed = refl
