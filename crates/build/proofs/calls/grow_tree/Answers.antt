-- `build::calls::grow_tree` meets its contract: the tables are made, the order list is numbered, and the whole of it grows.
use native.Mathlib.Omega.{arith}
use lib.Ieee.{binary32}
use Rattle.spec_build.proofs.Building.{grow_needs, root_few, tree_left}
use Rattle.build.proofs.calls.grow_tree.Goals as goal

pub grow-grown-requires : goal.grow-grown-requires
grow-grown-requires c =
    grow_needs binary32 _ _ _ c.requires (λ i k. c.type_inv.triangles i) _ c.triangle_count-count.ensures _
    c.put_bounds.ensures _ c.put_centres.ensures _ c.put_order.ensures _
    c.saturating_sub.ensures

pub overflow_add-result : goal.overflow_add-result
overflow_add-result c =
    let grown = c.grow-grown.ensures in
    omega (
      arith,
      root_few binary32 _ _ _ c.requires (λ i k. c.type_inv.triangles i) _ c.triangle_count-count.ensures _
          c.put_bounds.ensures _ c.put_centres.ensures _ c.put_order.ensures _
          c.saturating_sub.ensures _ _ _ _ _ _ grown,
    )

pub returns : goal.returns
returns c =
    let grown = c.grow-grown.ensures in
    tree_left binary32 _ _ _ c.requires (λ i k. c.type_inv.triangles i) _ c.triangle_count-count.ensures _
    c.put_bounds.ensures _ c.put_centres.ensures _ c.put_order.ensures _
    c.saturating_sub.ensures _ _ _ _ _ _ grown
