-- The links of a node stand in bytes as a kind and two numbers, and are read in two steps; its box stands behind them.
use mathlib.Core.Path.{◌≡◌}
use mathlib.Core.List.{List}
use Prim.Native.Nat.{ℕ, ◌+◌, ◌*◌, ◌≤◌}
use native.Mathlib.Omega.{arith}
use lib.ListN.{length}
use lib.Ieee.{Float, binary32}
use Rattle.spec_tables.specs.Tables.{overwrite}
use Rattle.spec_tables.proofs.Tables.{then_overwrite}
use Rattle.spec_tables.proofs.Pieces.{length_singles}
use Rattle.spec_records.specs.Entries.{numbers_in, floats_in}
use Rattle.spec_records.specs.Layouts.{Shape, node_size}
use Rattle.spec_image.specs.Image.{links_in, sides_in}
use Rattle.image.proofs.Versions.{same_float}
use Rattle.records.specs.declared.versions.Version.{Version}
use Rattle.records.specs.Values.{shape_of}

-- the kind and then the two numbers, written to the list, are the node's links
pub links_overwrite : (sh : Shape) (s : List ℕ) (start i at : ℕ) (old mid out : List ℕ) → at ≡ start + node_size sh * i → 3 * i + 3 ≤ length old
    → mid ≡ overwrite (3 * i) (numbers_in 2 s at 1) old → out ≡ overwrite (3 * i + 1) (numbers_in sh.entry s (at + 2) 2) mid
    → out ≡ overwrite (3 * i) (links_in sh s start i) old
unfolding links_in
links_overwrite sh s start i at old mid out e room p q =
    let a : length (numbers_in 2 s at 1) ≡ 1 = length_singles _ 1 in
    let b : length (numbers_in sh.entry s (at + 2) 2) ≡ 2 = length_singles _ 2 in
    rw (← e) (then_overwrite (3 * i) (3 * i + 1) (numbers_in 2 s at 1) (numbers_in sh.entry s (at + 2) 2) old mid out p q (omega arith) (omega arith))

-- the six numbers behind them, written to the list, are the node's box
pub box_overwrite : (version : Version) (s : List ℕ) (start i at bounds : ℕ) (old out : List Float) → at ≡ start + node_size (shape_of version) * i
    → bounds ≡ at + (2 + 2 * (shape_of version).entry) → out ≡ overwrite (6 * i) (floats_in binary32 s bounds 6) old
    → out ≡ overwrite (6 * i) (sides_in (shape_of version) s start i) old
unfolding sides_in
box_overwrite version s start i at bounds old out e f p = rw (← e, ← f, same_float version) p
