-- `stl::put::put_zeros` meets its contract: the part is filled with as many zeros as it is long.
use mathlib.Core.Path.{◌≡◌, sym, ap, ◌∙◌}
use Prim.Native.Nat.{ℕ, ◌+◌, ◌-◌}
use native.Mathlib.Omega.{arith}
use lib.ListN.{length, replicate, length-replicate}
use lib.Seq.{drop-drop}
use Rattle.spec_tables.specs.Tables.{overwrite}
use Rattle.spec_tables.proofs.Pieces.{length_slice}
use Rattle.spec_stl.specs.Stl.{zeros}
use Rattle.stl.proofs.put.put_zeros.Goals as goal

pub returns-clause-put : goal.returns-clause-put
unfolding overwrite
returns-clause-put c =
    let a = c.args in
    let size : a.at + a.count - a.at ≡ a.count = omega arith in
    let long : length (zeros a.count) ≡ a.count = length-replicate a.count 0 in
    let part : c.fill.new.self ≡ zeros a.count =
    c.fill.ensures.after (λ y same. same) ∙ ap (λ (n : ℕ). replicate n 0) (rw size (length_slice a.out.now a.at a.count c.requires)) in
    record { written = rw (part, size, drop-drop, long); behind = ap (λ (n : ℕ). a.at + n) (sym long); within = c.requires }
