-- `angles::root::nearest_root` meets its contract: a guess that passes both tests is the nearest (`tested_nearer`),
-- and the test after the halving is that of `nearer`.
use Rattle.std.proofs.Common.{◌≡◌, ℕ, ◌*◌, ◌^◌, ◌<◌, ◌≤◌, arith}
use Rattle.spec_angles.specs.Root.{whole_root}
use Rattle.spec_angles.proofs.WholeRoot.{whole_root_lem, tested_nearer}
use Rattle.angles.proofs.root.nearest_root.Goals as goal

-- r is what `whole_root` found
found : (n r : ℕ) → n < 2 ^ 48 → r ≡ whole_root 24 n → r * r ≤ n
found n r few is = rw is (whole_root_lem 24 n (omega arith)).low

pub returns-then-n-g : goal.returns-then-n-g
returns-then-n-g c = tested_nearer 24 _ _ (omega (arith, c.requires)) c.if-g-n.true c.if-n-g.true

pub overflow_mul-r : goal.overflow_mul-r
overflow_mul-r c = omega (arith, found _ _ c.requires c.whole_root-r.ensures)

pub overflow_sub-n : goal.overflow_sub-n
overflow_sub-n c = omega (arith, found _ _ c.requires c.whole_root-r.ensures)
