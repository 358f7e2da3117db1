-- `grow::nodes::put_branch` meets its contract: what `union_box`, `put_links`, `put_box` and `max` ensure.
use mathlib.Core.Path.{refl, ap, ◌∙◌}
use Prim.Native.Nat.{ℕ, ◌+◌, ◌*◌}
use Rattle.spec_tables.specs.Tables.{overwrite}
use Rattle.spec_shapes.specs.Boxes.{Box}
use Rattle.spec_tree.specs.Trees.{six_of}
use Rattle.grow.proofs.nodes.put_branch.Goals as goal

pub returns : goal.returns
returns c =
    record {
      links_are = c.put_links.ensures;
      boxes_are = c.put_box.ensures
          ∙ ap (λ (b : Box). overwrite (6 * (c.args.right.root + 1)) (six_of b) c.args.boxes.now) c.union_box-over.ensures;
      root_is = refl;
      levels_are = ap (λ (n : ℕ). n + 1) c.max.ensures;
      box_is = c.union_box-over.ensures;
    }
