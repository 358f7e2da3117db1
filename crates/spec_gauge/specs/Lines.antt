-- A point's line, from the words of its answer in a lent list: what the program prints from.
use Rattle.std.specs.Prelude.{ℕ, ◌+◌, ◌*◌, List, cond, eqb, get_or}
use Rattle.spec_printing.specs.Printed.{found_line, nothing_line}
use Rattle.spec_search.specs.Answers.{answer_width}

-- the line of point k, whose words start at k times the width of an answer
unfoldable pub words_line : List ℕ → ℕ → List ℕ
words_line words k =
    cond (eqb (get_or words (answer_width * k) 0) 0)
    (nothing_line k)
    (found_line k (record {
      triangle = get_or words (answer_width * k + 1) 0;
      x = get_or words (answer_width * k + 2) 0;
      y = get_or words (answer_width * k + 3) 0;
      z = get_or words (answer_width * k + 4) 0;
      squared = get_or words (answer_width * k + 5) 0;
      part = get_or words (answer_width * k + 6) 0;
    }))
