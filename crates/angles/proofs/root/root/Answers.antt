-- `angles::root::root` meets its contract: the bits that it puts together are those of the value nearest the root, and there is only one.
use Rattle.std.proofs.Common.{◌≡◌, ℕ, ◌+◌, ◌*◌, ◌^◌, ◌<◌, not, T, sym, inl, inr, eq-zero-or-pos, arith, T_not}
use lib.Ieee.{Float, binary32, fits, eq, of_bits, to_bits}
use lib.Ieee.Bits.{of_bits-to_bits}
use Rattle.spec_numbers.specs.Values.{zero}
use Rattle.spec_numbers.proofs.Tests.{passed, failed}
use Rattle.spec_angles.specs.Root.{IsRoot, root, rootable, whole_root, nearer}
use Rattle.spec_angles.specs.RootByBits.{NearestRoot, Scaled}
use Rattle.spec_angles.proofs.Bits.{unsigned_bits, bits_are_number, unsigned_is_number, unsigned_of, zero_is_none}
use Rattle.spec_angles.proofs.RootLaw.{root_of_zero, root_unique}
use Rattle.spec_angles.proofs.Root.{root_is_nearest}
use Rattle.spec_angles.proofs.RootByBits.{nearest_root, bits_root}
use Rattle.angles.proofs.root.root.Goals as goal

-- a root is the one root
determined : (x r : Float) → T (fits binary32 x) → T (rootable x) → IsRoot binary32 x r → r ≡ root binary32 x
determined x r f h p = root_unique binary32 x r (root binary32 x) p (root_is_nearest binary32 x f h)

-- the bits are not 0, since x is not
above_zero : (x : Float) → T (fits binary32 x) → T (not (eq x zero)) → 0 < to_bits binary32 x
unfolding of_bits eq
above_zero x h n = elim (eq-zero-or-pos (to_bits binary32 x)) [
  | inl z ↦ absurd (T_not (eq x zero) n (rw (sym (of_bits-to_bits binary32 x h), z) tt))
  | inr p ↦ p
]

-- r is what `nearest_root` found
near : (n d k r : ℕ) → Scaled n d k → r ≡ nearer d (whole_root 24 d) → NearestRoot d r
near n d k r s e = rw e (nearest_root d s.least s.most)

pub returns-then-x : goal.returns-then-x
unfolding of_bits
returns-then-x c = determined c.args.x zero (passed c.well_formed.0.1) c.requires (root_of_zero binary32 c.args.x (zero_is_none c.args.x (passed c.if-x.true)))

pub float_to_bits-x : goal.float_to_bits-x
unfolding of_bits
float_to_bits-x c = unsigned_is_number c.args.x (unsigned_of c.args.x (passed c.well_formed.0.1) c.requires (failed c.if-x.false))

pub scaled-s-requires : goal.scaled-s-requires
unfolding of_bits
scaled-s-requires c =
    let x = c.args.x in (
      above_zero x (passed c.well_formed.0.1) (failed c.if-x.false),
      unsigned_bits x (passed c.well_formed.0.1)
          (unsigned_of c.args.x (passed c.well_formed.0.1) c.requires (failed c.if-x.false)),
    )

pub overflow_cast-result : goal.overflow_cast-result
overflow_cast-result c = omega (arith, near _ _ _ _ c.scaled-s.ensures c.nearest_root-r.ensures)

pub overflow_add-result : goal.overflow_add-result
overflow_add-result c = omega (arith, near _ _ _ _ c.scaled-s.ensures c.nearest_root-r.ensures)

pub float_from_bits-result : goal.float_from_bits-result
float_from_bits-result c =
    bits_are_number (c.scaled-s.result.scale * 2 ^ 23 + c.nearest_root-r.result)
    (omega (arith, near _ _ _ _ c.scaled-s.ensures c.nearest_root-r.ensures))

pub returns : goal.returns
unfolding of_bits
returns c =
    let scaled = c.scaled-s in
    let nearest = c.nearest_root-r in
    let x = c.args.x in
    determined c.args.x _ (passed c.well_formed.0.1) c.requires
    (rw (of_bits-to_bits binary32 x (passed c.well_formed.0.1)) at
    (bits_root (to_bits binary32 x) scaled.result.digits scaled.result.scale nearest.result
    (unsigned_bits x (passed c.well_formed.0.1) (unsigned_of c.args.x (passed c.well_formed.0.1) c.requires (failed c.if-x.false))) scaled.ensures
    (near _ _ _ _ scaled.ensures nearest.ensures)))
