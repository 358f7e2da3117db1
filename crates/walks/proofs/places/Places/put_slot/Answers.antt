-- `walks::places::Places::put_slot` meets its contract: four stores at the slot's four numbers, and two at its two; no other slot has any of them.
use mathlib.Core.Path.{◌≡◌}
use mathlib.Core.List.{List}
use Prim.Native.Nat.{ℕ, ◌+◌, ◌*◌, ◌<◌}
use native.Mathlib.Omega.{arith}
use lib.ListN.{get_or, set, length-set}
use lib.Seq.{get_or-set_same, get_or-set_other}
use lib.Ieee.{Float, nan}
use Rattle.spec_search.specs.Answers.{Hit}
use Rattle.walks.specs.Values.{as_hit}
use Rattle.walks.specs.Places.{slot_at, Lent, PutAt}
use Rattle.walks.proofs.places.Places.put_slot.Goals as goal

-- the slot's six numbers are those of a hit
slot_is : (best : List Float) (which : List ℕ) (j : ℕ) (h : Hit) → get_or best (4 * j) nan ≡ h.point.x → get_or best (4 * j + 1) nan ≡ h.point.y
    → get_or best (4 * j + 2) nan ≡ h.point.z → get_or best (4 * j + 3) nan ≡ h.squared → get_or which (2 * j) 0 ≡ h.triangle
    → get_or which (2 * j + 1) 0 ≡ h.part → slot_at best which j ≡ h
unfolding slot_at
slot_is best which j h x y z squared triangle part =
    λ k. record { point = record { x = x k; y = y k; z = z k }; squared = squared k; triangle = triangle k; part = part k }

module _ (best : List Float) (which : List ℕ) (j : ℕ) (h : Hit) (lent : Lent best which) (low : j < 16) where
  abbrev best' : List Float
  best' = set (set (set (set best (4 * j) h.point.x) (4 * j + 1) h.point.y) (4 * j + 2) h.point.z) (4 * j + 3) h.squared

  abbrev which' : List ℕ
  which' = set (set which (2 * j) h.triangle) (2 * j + 1) h.part

  stored : PutAt best which j h best' which'
  unfolding slot_at
  stored = record {
    lent = record { floats = simp length-set lent.floats; numbers = simp length-set lent.numbers };
    most_is = grind (arith, get_or-set_other);
    here = slot_is best' which' j h
        (grind (arith, get_or-set_same, get_or-set_other, length-set, lent.floats))
        (grind (arith, get_or-set_same, get_or-set_other, length-set, lent.floats))
        (grind (arith, get_or-set_same, get_or-set_other, length-set, lent.floats))
        (grind (arith, get_or-set_same, get_or-set_other, length-set, lent.floats))
        (grind (arith, get_or-set_same, get_or-set_other, length-set, lent.numbers))
        (grind (arith, get_or-set_same, get_or-set_other, length-set, lent.numbers));
    elsewhere = λ i ne. slot_is best' which' i (slot_at best which i)
        (grind (arith, get_or-set_other))
        (grind (arith, get_or-set_other))
        (grind (arith, get_or-set_other))
        (grind (arith, get_or-set_other))
        (grind (arith, get_or-set_other))
        (grind (arith, get_or-set_other));
  }

pub returns : goal.returns
returns c = stored c.args.self.now.best c.args.self.now.which c.args.j (as_hit c.args.hit) (record { floats = omega arith; numbers = omega arith })
    c.requires
