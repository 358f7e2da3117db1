-- `image::get::read_node` meets its contract: the links in two lists of entries, the box in one.
use mathlib.Core.Path.{ap}
use Prim.Native.Nat.{ℕ, ◌+◌}
use Rattle.records.specs.Values.{shape_of}
use Rattle.image.proofs.Links.{links_overwrite, box_overwrite}
use Rattle.image.proofs.get.read_node.Goals as goal

pub returns : goal.returns
returns c =
    let a = c.args in
    let at = ap (λ (k : ℕ). a.start + k) c.nodes_size.ensures in record {
      links_after = links_overwrite (shape_of a.version) a.bytes.now a.start a.node _ a.links.now _ _ at c.requires.node_in_bounds.0
          c.read_numbers.ensures c.read_entries.ensures;
      boxes_after = box_overwrite a.version a.bytes.now a.start a.node _ _ a.boxes.now _ at c.bounds_at.ensures
          c.read_f32s.ensures;
    }
